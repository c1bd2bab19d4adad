-- Bodies (R6RS 10 and 11.3): two passes over their forms.
use Rattle.std.specs.Prelude.{ℕ, Bool, true, false, nat_lt, List, [], ◌∷◌, map, Option, None, Some, if◌then◌else◌}
use Rattle.base_data.specs.Act.{after, give, each, gather}
use Rattle.base_data.specs.Datum as datum
use Rattle.base_data.specs.declared.atom.Atom.TheVariants as atoms
use Rattle.base_data.specs.declared.fault.FaultKind.TheVariants as kind
use Rattle.base_data.specs.declared.name.FrameNo.{FrameNo}
use Rattle.base_data.specs.declared.span.Span.{Span}
use Rattle.stx_tree.specs.Tree.{Tree}
use Rattle.stx_tree.specs.Changes.{stamp}
use Rattle.core_language.specs.Core.{PlainCore, quoted, one_armed, letrec, procedure, sequence, cores}
use Rattle.core_language.specs.CoreView.{inits, cases}
use Rattle.core_language.specs.declared.code.Init.{Init}
use Rattle.core_language.specs.declared.record.Line.{Line}
use Rattle.core_language.specs.declared.record.Line.TheVariants as line
use Rattle.expand_standing.specs.State.{Does, fresh, fresh_frame, fault_form}
use Rattle.expand_standing.specs.InScope.{within}
use Rattle.expand_heads.specs.Items.{begun}
use Rattle.expand_heads.specs.declared.item.Item.{Item}
use Rattle.expand_heads.specs.declared.item.Item.TheVariants as items
use Rattle.expand_heads.specs.declared.taken.BodyAt.{BodyAt}
use Rattle.expand_heads.specs.declared.taken.BodyKind.TheVariants as body_kind
use Rattle.expand_heads.specs.declared.taken.Taken.{Taken}
use Rattle.expand_heads.specs.declared.taken.Waiting.{Waiting}
use Rattle.expand_heads.specs.declared.taken.Waits.{Waits}
use Rattle.expand_heads.specs.declared.taken.Waits.TheVariants as waits
use Rattle.expand_heads.specs.Depth.{deeper, most_round}
use Rattle.expand_forms.specs.Forms.{definition_parts, let_syntax_parts, procedure_parts}
use Rattle.expand_forms.specs.Inside.{Inside}
use Rattle.expand_forms.specs.Keywords.{define_syntax, with_keywords}
use Rattle.expand_forms.specs.ExpandUses.{expand_item_uses}
use Rattle.expand_forms.specs.Site.{Site, one_deeper, site_in, site_of}
use Rattle.expand_forms.specs.declared.expand_uses.PlannedItem.{PlannedItem}

-- The first pass.

module _ (go : Inside) where
  abbrev pub splice : BodyAt → ℕ → Taken → List Tree → Does Taken
  splice at depth = gather (go.item at depth)

  -- What is done with a form that is no use. What lies in it is one deeper; the forms of `begin`, `let-syntax` and `letrec-syntax` are
  -- forms of the body.
  unfoldable pub perform_item : BodyAt → ℕ → Taken → Tree → Item → Does Taken
  perform_item at depth done t items.Nothing s = give done s
  perform_item at depth done t (items.Forms forms) s = splice at (deeper depth) done forms s
  perform_item at depth done t (items.Keyword b) s = after (define_syntax go at (deeper depth) done (definition_parts t b) s) (λ _. give done)
  perform_item at depth done t (items.Keywords recursive bs forms) s =
      after (with_keywords go (one_deeper (site_in at depth)) (let_syntax_parts recursive bs forms) s) (splice at (deeper depth) done)

  abbrev pub perform_settled : ℕ → Taken × PlannedItem → Does Taken
  perform_settled depth p = perform_item p.1.at depth p.0 p.1.form p.1.item

  -- takes a form of a body
  unfoldable pub item : BodyAt → ℕ → Taken → Tree → Does Taken
  item at depth done t s = if nat_lt most_round depth then fault_form kind.TooDeep t at.place s else after
      (expand_item_uses go.earlier at depth done t s) (perform_settled depth)

-- The second pass.

-- the value of a variable that is defined without one
abbrev pub no_value : PlainCore
no_value = one_armed (quoted (datum.atom None (atoms.Bool false))) (quoted (datum.atom None (atoms.Bool false)))

abbrev pub value_of : Inside → Site → Option Tree → Does PlainCore
value_of go site None = give no_value
value_of go site (Some t) = go.form site t

unfoldable pub finish_as : Inside → Site → Waits → Does Line
finish_as go site (waits.Variable l value) s = after (value_of go (one_deeper site) value s) (λ c. give (line.Define l c))
finish_as go site (waits.Procedure l t ids forms) s =
    after (fresh s) (λ n s'. after (go.procedure (one_deeper site) (procedure_parts t ids forms) s')
    (λ c. give (line.Define l (procedure (record { 0 = n }) (cases (c ∷ [])) true))))
finish_as go site (waits.Expression t) s = after (go.form site t s) (λ c. give (line.Expr c))

abbrev pub finish_one : Inside → ℕ → Waiting → Does Line
finish_one go level w = finish_as go (site_of level w) w.what

abbrev pub finish_all : Inside → ℕ → List Waiting → Does (List Line)
finish_all go level = each (finish_one go level) []

-- a sequence of one is that one
abbrev pub sequence_of : List PlainCore → PlainCore
sequence_of (c ∷ []) = c
sequence_of cs = sequence (cores cs)

abbrev pub inits_in : List Line → List Init
inits_in [] = []
inits_in (line.Define l c ∷ ls) = record { label = l; value = c } ∷ inits_in ls
inits_in (line.Expr c ∷ ls) = inits_in ls

abbrev pub values_in : List Line → List PlainCore
values_in [] = []
values_in (line.Define l c ∷ ls) = values_in ls
values_in (line.Expr c ∷ ls) = c ∷ values_in ls

abbrev pub with_inits : List Init → PlainCore → PlainCore
with_inits [] c = c
with_inits (i ∷ is) c = letrec true (inits (i ∷ is)) c

-- a body with definitions is a `letrec*`
abbrev pub body_core : List Line → PlainCore
body_core ls = with_inits (inits_in ls) (sequence_of (values_in ls))

unfoldable pub finish : Inside → Span → ℕ → Tree → Taken → Does PlainCore
finish go place level t done s = if done.has_expression then after (finish_all go level done.waiting s)
    (λ ls. give (body_core ls)) else fault_form kind.NoExpression t place s

abbrev pub lambda_at : FrameNo → Span → ℕ → BodyAt
lambda_at frame place level = record { frame = frame; place = place; level = level; kind = body_kind.Lambda }

abbrev pub body_in : Inside → Site → Tree → List Tree → FrameNo → Does PlainCore
body_in go site t forms frame s =
    after (splice go (lambda_at frame site.place site.level) site.depth begun (map (stamp frame) forms) s) (finish go site.place site.level t)

-- the body of a procedure or `letrec`, which is t: its frame comes first, on all its forms
unfoldable pub body : Inside → Site → Tree → List Tree → Does PlainCore
body go site t forms = within (λ s. after (fresh_frame s) (body_in go site t forms))
