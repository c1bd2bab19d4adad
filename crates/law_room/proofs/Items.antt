-- What is done with the forms of a body leaves nothing that stands less deep than they do; where they are too deep, it is at fault.
use Rattle.std.proofs.Common.{◌≡◌, ◌≤◌, ℕ, zero, suc, ◌+◌, Bool, true, false, List, [], ◌∷◌, map, refl, sym, ◌∙◌, ap, if◌then◌else◌, arith}
use Rattle.std.specs.Prelude.{nat_lt}
use Rattle.base_data.specs.Act.{after, give, gather}
use Rattle.base_data.specs.declared.fault.FaultKind.TheVariants as kind
use Rattle.base_data.specs.declared.name.FrameNo.{FrameNo}
use Rattle.base_data.specs.declared.span.Span.{Span}
use Rattle.stx_tree.specs.Changes.{stamp}
use Rattle.stx_tree.specs.Tree.{Tree}
use Rattle.core_language.specs.declared.record.CompiledLibrary.{CompiledLibrary}
use Rattle.core_shapes.specs.declared.shape.FormalIds.{FormalIds}
use Rattle.expand_standing.specs.Binders.{bind_formals}
use Rattle.expand_standing.specs.State.{State, fault_form}
use Rattle.expand_heads.specs.Depth.{deeper, most_round}
use Rattle.expand_heads.specs.Items.{begun}
use Rattle.expand_heads.specs.declared.item.Item.{Item}
use Rattle.expand_heads.specs.declared.item.Item.TheVariants as items
use Rattle.expand_heads.specs.declared.taken.BodyAt.{BodyAt}
use Rattle.expand_heads.specs.declared.taken.Taken.{Taken}
use Rattle.expand_forms.specs.Body.{splice, perform_item, item, finish, lambda_at, body_in, body}
use Rattle.expand_forms.specs.Body as bodies
use Rattle.expand_forms.specs.Expression.{inside, case_in, lambda_case}
use Rattle.expand_forms.specs.Inside.{Inside}
use Rattle.expand_forms.specs.Keywords.{define_syntax, with_keywords}
use Rattle.expand_forms.specs.ExpandUses.{expand_item_uses}
use Rattle.expand_forms.specs.declared.expand_uses.PlannedItem.{PlannedItem}
use Rattle.expand_forms.specs.Site.{site_at}
use Rattle.expand_forms.specs.Forms.{definition_parts, let_syntax_parts, procedure_parts}
use Rattle.law_room.proofs.Same.{Gave, gave-after, gave-any, gave-if, gave-gather, same-after, same-framed}
use Rattle.law_room.proofs.Waiting.{WaitsFrom, from-expand_uses}

pub deeper-from : (n depth : ℕ) → n ≤ depth → n ≤ deeper depth
deeper-from n depth le = by (nat_lt most_round depth)
  where
    by : (b : Bool) → n ≤ (if b then depth else depth + 1)
    by true = le
    by false = omega (arith, le)

abbrev pub Keeps : Inside → Type 0
Keeps go = (n : ℕ) (at : BodyAt) (depth : ℕ) (done : Taken) (t : Tree) (s : State) → n ≤ depth → WaitsFrom n done → Gave (WaitsFrom n) (go.item at depth done t s)

module _ (go : Inside) (keeps : Keeps go) (n : ℕ) where
  pub keeps-splice : (at : BodyAt) (depth : ℕ) (done : Taken) (forms : List Tree) (s : State) → n ≤ depth → WaitsFrom n done → Gave (WaitsFrom n) (splice go at depth done forms s)
  keeps-splice at depth done forms s le h = gave-gather (WaitsFrom n) (go.item at depth) (λ d x u k. keeps n at depth d x u le k) done forms s h

  keeps-perform : (at : BodyAt) (depth : ℕ) (done : Taken) (t : Tree) (i : Item) (s : State) → n ≤ depth → WaitsFrom n done → Gave (WaitsFrom n) (perform_item go at depth done t i s)
  unfolding perform_item
  keeps-perform at depth done t items.Nothing s le h = h
  keeps-perform at depth done t (items.Forms forms) s le h = keeps-splice at (deeper depth) done forms s (deeper-from n depth le) h
  keeps-perform at depth done t (items.Keyword b) s le h = gave-any (WaitsFrom n) (define_syntax go at (deeper depth) done (definition_parts t b) s) (λ _. give done) (λ a u. h)
  keeps-perform at depth done t (items.Keywords recursive bs forms) s le h =
      gave-any (WaitsFrom n) (with_keywords go (site_at at.place at.level (deeper depth)) (let_syntax_parts recursive bs forms) s) (splice go at (deeper depth) done)
      (λ fs u. keeps-splice at (deeper depth) done fs u (deeper-from n depth le) h)

  keeps-item : (at : BodyAt) (depth : ℕ) (done : Taken) (t : Tree) (s : State) → n ≤ depth → WaitsFrom n done → Gave (WaitsFrom n) (item go at depth done t s)
  unfolding item
  keeps-item at depth done t s le h = gave-if (WaitsFrom n) (nat_lt most_round depth) _ _ tt
      (gave-after (λ (p : Taken × PlannedItem). WaitsFrom n p.0) (WaitsFrom n) (expand_item_uses go.earlier at depth done t s) (bodies.perform_settled go depth) (from-expand_uses n depth le go.earlier at done t s h)
      (λ p u k. keeps-perform p.1.at depth p.0 p.1.form p.1.item u le k))

pub keeps-inside : (rs : List CompiledLibrary) (room : ℕ) → Keeps (inside rs room)
unfolding inside
keeps-inside rs zero n at depth done t s le h = tt
keeps-inside rs (suc room) n at depth done t s le h = keeps-item (inside rs room) (keeps-inside rs room) n at depth done t s le h

-- Forms that are too deep.

abbrev pub IsShallow : Inside → Type 0
IsShallow go = (at : BodyAt) (depth : ℕ) (done : Taken) (t : Tree) (s : State) → nat_lt most_round depth ≡ true → go.item at depth done t s ≡ fault_form kind.TooDeep t at.place s

pub too-deep-item : (go : Inside) → IsShallow (record { earlier = go.earlier; form = go.form; procedure = go.procedure; item = item go })
unfolding item
too-deep-item go at depth done t s deep = ap (λ b. if b then fault_form kind.TooDeep t at.place s else after (expand_item_uses go.earlier at depth done t s) (bodies.perform_settled go depth)) deep

pub shallow-inside : (rs : List CompiledLibrary) (room : ℕ) → IsShallow (inside rs room)
unfolding inside
shallow-inside rs zero at depth done t s deep = refl
shallow-inside rs (suc room) at depth done t s deep = too-deep-item (inside rs room) at depth done t s deep

-- so a body and a case that are too deep answer the same, whatever is done with what lies inside
module _ (go ho : Inside) (low : IsShallow go) (lower : IsShallow ho) (depth : ℕ) (deep : nat_lt most_round depth ≡ true) where
  deep-finish : (place : Span) (level : ℕ) (t : Tree) (s : State) → finish go place level t begun s ≡ finish ho place level t begun s
  unfolding finish
  deep-finish place level t s = refl

  deep-body-in : (place : Span) (level : ℕ) (t : Tree) (forms : List Tree) (frame : FrameNo) (s : State) → body_in go (site_at place level depth) t forms frame s ≡ body_in ho (site_at place level depth) t forms frame s
  unfolding gather
  deep-body-in place level t [] frame s = deep-finish place level t s
  deep-body-in place level t (x ∷ xs) frame s =
      ap (λ r. after (after r (λ e. gather (go.item (lambda_at frame place level) depth) e (map (stamp frame) xs))) (finish go place level t)) (low (lambda_at frame place level) depth begun (stamp frame x) s deep)
      ∙ sym (ap (λ r. after (after r (λ e. gather (ho.item (lambda_at frame place level) depth) e (map (stamp frame) xs))) (finish ho place level t)) (lower (lambda_at frame place level) depth begun (stamp frame x) s deep))

  pub deep-body : (place : Span) (level : ℕ) (t : Tree) (forms : List Tree) (s : State) → body go (site_at place level depth) t forms s ≡ body ho (site_at place level depth) t forms s
  unfolding body
  deep-body place level t forms s = same-framed (body_in go (site_at place level depth) t forms) (body_in ho (site_at place level depth) t forms) s (λ frame u. deep-body-in place level t forms frame u)

  deep-case-in : (place : Span) (level : ℕ) (t : Tree) (ids : FormalIds) (forms : List Tree) (frame : FrameNo) (s : State) → case_in go (site_at place level depth) (procedure_parts t ids forms) frame s ≡ case_in ho (site_at place level depth) (procedure_parts t ids forms) frame s
  deep-case-in place level t ids forms frame s =
      same-after (bind_formals frame place level ids s) _ _
      (λ formals u. ap (λ r. after r (λ c. give (record { formals = formals; body = c }))) (deep-body place level t (map (stamp frame) forms) u))

  pub deep-case : (place : Span) (level : ℕ) (t : Tree) (ids : FormalIds) (forms : List Tree) (s : State) → lambda_case go (site_at place level depth) (procedure_parts t ids forms) s ≡ lambda_case ho (site_at place level depth) (procedure_parts t ids forms) s
  unfolding lambda_case
  deep-case place level t ids forms s =
      same-framed (case_in go (site_at place level depth) (procedure_parts t ids forms)) (case_in ho (site_at place level depth) (procedure_parts t ids forms)) s (λ frame u. deep-case-in place level t ids forms frame u)
