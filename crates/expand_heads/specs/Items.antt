-- Forms of a body (R6RS 10 and 11.3), in the first of two passes: what each adds to what was taken before it.
use Rattle.std.specs.Prelude.{ℕ, Bool, true, false, ◌&&◌, ◌||◌, not, List, [], ◌∷◌, ◌++◌, Option, None, Some, Result, Ok, Err, if◌then◌else◌}
use Rattle.base_data.specs.Act.{after, give}
use Rattle.base_data.specs.declared.fault.Fault.{Fault}
use Rattle.base_data.specs.declared.fault.FaultKind.TheVariants as kind
use Rattle.base_data.specs.declared.name.Label.{Label}
use Rattle.stx_tree.specs.Tree.{Tree, atom, leaf, pair, vector}
use Rattle.stx_scope.specs.Stands.{stands, symbol_of}
use Rattle.core_language.specs.Labels.{same_label}
use Rattle.core_language.specs.declared.core_form.CoreForm.{CoreForm}
use Rattle.core_shapes.specs.Lists.{is_leaf}
use Rattle.core_shapes.specs.Forms.{shape}
use Rattle.core_shapes.specs.declared.shape.BindingSpec.{BindingSpec}
use Rattle.core_shapes.specs.declared.shape.Shape.{Shape}
use Rattle.core_shapes.specs.declared.shape.Shape.TheVariants as shapes
use Rattle.expand_standing.specs.State.{State, Does, fault_form, fault_word}
use Rattle.expand_standing.specs.Standing.{standing_of, label_standing, is_keyword_standing, role_of}
use Rattle.expand_standing.specs.Binders.{bind_variable}
use Rattle.expand_standing.specs.Uses.{bind_keyword}
use Rattle.expand_standing.specs.declared.binders.BoundSpec.{BoundSpec}
use Rattle.expand_heads.specs.Kept.{heads_of, with_head}
use Rattle.expand_heads.specs.Plan.{is_letrec_syntax}
use Rattle.expand_standing.specs.declared.standing.Standing.{Standing}
use Rattle.expand_standing.specs.declared.standing.Standing.TheVariants as standing
use Rattle.expand_standing.specs.declared.standing.Role.{Role}
use Rattle.expand_standing.specs.declared.standing.Role.TheVariants as role
use Rattle.expand_heads.specs.declared.item.HeadItem.{HeadItem}
use Rattle.expand_heads.specs.declared.item.HeadItem.TheVariants as head_items
use Rattle.expand_heads.specs.declared.item.Item.TheVariants as items
use Rattle.expand_heads.specs.declared.plan.KeywordUse.TheVariants as keyword_use
use Rattle.expand_heads.specs.declared.taken.BodyAt.{BodyAt}
use Rattle.expand_heads.specs.declared.taken.BodyKind.{BodyKind}
use Rattle.expand_heads.specs.declared.taken.BodyKind.TheVariants as body_kind
use Rattle.expand_heads.specs.declared.taken.KeptHead.{KeptHead}
use Rattle.expand_heads.specs.declared.taken.Taken.{Taken}
use Rattle.expand_heads.specs.declared.taken.Waiting.{Waiting}
use Rattle.expand_heads.specs.declared.taken.Waits.{Waits}
use Rattle.expand_heads.specs.declared.taken.Waits.TheVariants as waits

-- no form was taken
abbrev pub begun : Taken
begun = record { waiting = []; kept = []; has_expression = false; moved = false }

abbrev pub waiting_at : BodyAt → ℕ → Waits → Waiting
waiting_at at depth what = record { place = at.place; depth = depth; what = what }

-- an expression waits for the second pass
abbrev pub wait : BodyAt → ℕ → Taken → Tree → Does Taken
wait at depth done t = give (record done { waiting = done.waiting ++ waiting_at at depth (waits.Expression t) ∷ []; has_expression = true })

-- a head is kept with the label that it stands for now
abbrev pub kept_head : State → Tree → KeptHead
kept_head s id = record { symbol = symbol_of id; leaf = id; label = stands s.frames id }

unfoldable pub keep : Taken → Tree → Does Taken
keep done id s = Ok (record done { kept = with_head done.kept (kept_head s id) }, s)

-- what a kept identifier stands for
unfoldable pub kept_standing : Taken → Tree → Does (Taken × Standing)
kept_standing done id s = after (keep done id s) (λ kept s'. Ok ((kept, standing_of s' id), s'))

abbrev pub same_standing : Option Label → Option Label → Bool
same_standing None None = true
same_standing None (Some m) = false
same_standing (Some l) None = false
same_standing (Some l) (Some m) = same_label l m

abbrev pub is_keyword_label : State → Option Label → Bool
is_keyword_label s None = false
is_keyword_label s (Some l) = is_keyword_standing (label_standing s l)

-- whether a head stands for another label now, where it stood for a keyword or the definition is one of a keyword
unfoldable pub is_changed : Bool → State → KeptHead → Bool
is_changed keyword s k = if keyword || is_keyword_label s k.label then not (same_standing (stands s.frames k.leaf) k.label) else false

abbrev pub any_changed : Bool → State → List KeptHead → Bool
any_changed keyword s [] = false
any_changed keyword s (k ∷ ks) = if is_changed keyword s k then true else any_changed keyword s ks

-- a program mixes definitions and expressions; elsewhere definitions come first
abbrev pub is_mixed : BodyKind → Bool
is_mixed body_kind.Lambda = false
is_mixed body_kind.Library = false
is_mixed body_kind.Program = true

abbrev pub is_top : BodyKind → Bool
is_top body_kind.Lambda = false
is_top body_kind.Library = true
is_top body_kind.Program = true

abbrev pub with_waiting : BodyAt → ℕ → Taken → Waits → Taken
with_waiting at depth done what = record done { waiting = done.waiting ++ waiting_at at depth what ∷ [] }

abbrev pub heads_like : Taken → Tree → List KeptHead
heads_like done id = heads_of (symbol_of id) done.kept

-- The definition of a variable must not change what a head before it stands for, if that was a keyword. Only heads of its symbol can be
-- changed.
unfoldable pub in_time : BodyAt → Taken → Tree → Does Taken
in_time at done id s =
    if any_changed false s (heads_like done id) then fault_word kind.LateDefinition id id at.place s
    else Ok (record done { moved = done.moved || any_changed true s (heads_like done id) }, s)

-- the definition of a keyword must not stand behind any head that stands for another label now
unfoldable pub keyword_in_time : BodyAt → Taken → Tree → Does (Unit {0})
keyword_in_time at done id s =
    if done.moved || any_changed true s (heads_like done id) then fault_word kind.LateDefinition id id at.place s else Ok (tt, s)

unfoldable pub define : BodyAt → Taken → Tree → Tree → Does (Taken × Label)
define at done t id s =
    if done.has_expression && not (is_mixed at.kind) then fault_form kind.DefinitionPlace t at.place s
    else after (bind_variable at.frame at.place at.level (is_top at.kind) id s) (λ l s'. after (in_time at done id s') (λ taken. give (taken, l)))

-- the definition of a keyword, with its expression
unfoldable pub define_keyword : BodyAt → Taken → Tree → BindingSpec → Does BoundSpec
define_keyword at done t b s =
    if done.has_expression && not (is_mixed at.kind) then fault_form kind.DefinitionPlace t at.place s
    else after (bind_keyword at.frame at.place at.level b s) (λ k s'. after (keyword_in_time at done b.id s') (λ _. give k))

unfoldable pub define_item : BodyAt → ℕ → Taken → Tree → Shape → Does Taken
define_item at depth done t (shapes.Define id value) s = after (define at done t id s) (λ d. give (with_waiting at depth d.0 (waits.Variable d.1 value)))
define_item at depth done t (shapes.DefineProcedure id ids forms) s
    = after (define at done t id s) (λ d. give (with_waiting at depth d.0 (waits.Procedure d.1 t ids forms)))
define_item at depth done t x s = fault_form kind.BadForm t at.place s

-- What comes of a form: what was taken with it, and what its head asks for.
abbrev pub Taking : Type 0
Taking = Does (Taken × HeadItem)

abbrev pub alone : Does Taken → Taking
alone m s = after (m s) (λ done. give (done, head_items.Item items.Nothing))

unfoldable pub begin_item : BodyAt → Taken → Tree → Shape → Taking
begin_item at done t (shapes.Begin forms) s = Ok ((done, head_items.Item (items.Forms forms)), s)
begin_item at done t x s = fault_form kind.BadForm t at.place s

unfoldable pub keywords_item : BodyAt → Taken → Tree → CoreForm → Shape → Taking
keywords_item at done t f (shapes.DefineSyntax id value) s = Ok ((done, head_items.Item (items.Keyword (record { id = id; init = value }))), s)
keywords_item at done t f (shapes.LetSyntax bs forms) s = Ok ((done, head_items.Item (items.Keywords (is_letrec_syntax f) bs forms)), s)
keywords_item at done t f x s = fault_form kind.BadForm t at.place s

abbrev pub with_shape : Result Shape Fault → (Shape → Taking) → Taking
with_shape (Err e) k s = Err e
with_shape (Ok x) k s = k x s

-- The forms of a body, at one depth.
module _ (at : BodyAt) (depth : ℕ) where
  -- the target of an assignment is kept, too; an assignment to a keyword may be a use of it
  abbrev pub target_item : Taken → Tree → Standing → Taking
  target_item done t (standing.Keyword l) = give (done, head_items.SetUse l)
  target_item done t x = alone (wait at depth done t)

  abbrev pub set_item : Taken → Tree → Result Shape Fault → Taking
  set_item done t (Ok (shapes.Set id value)) s = after (keep done id s) (λ kept s'. target_item kept t (standing_of s' id) s')
  set_item done t (Ok x) s = alone (wait at depth done t) s
  set_item done t (Err e) s = alone (wait at depth done t) s

  abbrev pub item_by : Taken → Tree → CoreForm → Role → Taking
  item_by done t f role.Expression = alone (wait at depth done t)
  item_by done t f role.Assignment = set_item done t (shape f t at.place)
  item_by done t f role.Sequence = with_shape (shape f t at.place) (begin_item at done t)
  item_by done t f role.Definition = with_shape (shape f t at.place) (λ x. alone (define_item at depth done t x))
  item_by done t f role.Keywords = with_shape (shape f t at.place) (keywords_item at done t f)
  item_by done t f role.Record = give (done, head_items.Use (keyword_use.Record f))
  item_by done t f role.RecordValue = give (done, head_items.Use (keyword_use.Record f))
  item_by done t f role.Auxiliary = alone (wait at depth done t)

  unfoldable pub core_item : Taken → Tree → CoreForm → Taking
  core_item done t f = item_by done t f (role_of f)

  abbrev pub headed_item : Taken → Tree → Standing → Taking
  headed_item done t standing.Nothing = alone (wait at depth done t)
  headed_item done t (standing.Variable v) = alone (wait at depth done t)
  headed_item done t standing.PatternVariable = alone (wait at depth done t)
  headed_item done t (standing.Primitive op) = alone (wait at depth done t)
  headed_item done t (standing.Core f) = core_item done t f
  headed_item done t (standing.Keyword l) = give (done, head_items.Use (keyword_use.Macro l))

  unfoldable pub list_item : Taken → Tree → Tree → Taking
  list_item done t head s =
      if is_leaf head then after (keep done head s) (λ kept s'. headed_item kept t (standing_of s' head) s')
      else alone (wait at depth done t) s

  abbrev pub leaf_by : Taken → Tree → Standing → Taking
  leaf_by done t standing.Nothing = alone (wait at depth done t)
  leaf_by done t (standing.Variable v) = alone (wait at depth done t)
  leaf_by done t standing.PatternVariable = alone (wait at depth done t)
  leaf_by done t (standing.Primitive op) = alone (wait at depth done t)
  leaf_by done t (standing.Core f) = alone (wait at depth done t)
  leaf_by done t (standing.Keyword l) = give (done, head_items.Use (keyword_use.Macro l))

  unfoldable pub leaf_item : Taken → Tree → Taking
  leaf_item done t s = after (keep done t s) (λ kept s'. leaf_by kept t (standing_of s' t) s')

  abbrev pub item_plan : Taken → Tree → Taking
  item_plan done (atom s a) = alone (wait at depth done (atom s a))
  item_plan done (leaf s x c) = leaf_item done (leaf s x c)
  item_plan done (pair s a d) = list_item done (pair s a d) a
  item_plan done (vector s d) = alone (wait at depth done (vector s d))
