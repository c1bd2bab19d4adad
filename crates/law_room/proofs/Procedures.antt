-- Bodies of one form, which waits for the second pass, and what has such a body.
use Rattle.std.proofs.Common.{◌≡◌, ◌≤◌, ℕ, zero, suc, ◌+◌, Bool, true, false, List, [], ◌∷◌, length, None, Some, Result, Ok, Err, refl, ◌∙◌, ap, if◌then◌else◌}
use Rattle.base_data.specs.Act.{after, give, each, gather}
use Rattle.base_data.specs.declared.fault.Fault.{Fault}
use Rattle.base_data.specs.declared.fault.FaultKind.TheVariants as kind
use Rattle.base_data.specs.declared.name.FrameNo.{FrameNo}
use Rattle.base_data.specs.declared.name.Label.{Label}
use Rattle.base_data.specs.declared.span.Span.{Span}
use Rattle.stx_tree.specs.Changes.{stamp}
use Rattle.stx_tree.specs.Tree.{Tree, pair}
use Rattle.core_language.specs.Core.{PlainCore, procedure, letrec}
use Rattle.core_language.specs.CoreView.{cases, inits}
use Rattle.core_language.specs.declared.core_form.CoreForm.{CoreForm}
use Rattle.core_language.specs.declared.code.Init.{Init}
use Rattle.core_language.specs.declared.code.Lambda.{Lambda}
use Rattle.core_language.specs.declared.formals.Formals.{Formals}
use Rattle.core_language.specs.declared.record.CompiledLibrary.{CompiledLibrary}
use Rattle.core_language.specs.declared.record.Line.TheVariants as line
use Rattle.core_shapes.specs.declared.shape.BindingSpec.{BindingSpec}
use Rattle.core_shapes.specs.declared.shape.FormalIds.{FormalIds}
use Rattle.core_shapes.specs.declared.shape.LambdaCase.{LambdaCase}
use Rattle.expand_standing.specs.Binders.{bind_variable, bind_spec, bind_formals}
use Rattle.expand_standing.specs.InScope.{leaving, cut}
use Rattle.expand_standing.specs.Standing.{standing_of}
use Rattle.expand_standing.specs.State.{State, fresh, fresh_frame, fault_form}
use Rattle.expand_standing.specs.declared.binders.BoundSpec.{BoundSpec}
use Rattle.expand_heads.specs.declared.item.HeadItem.{HeadItem}
use Rattle.expand_heads.specs.declared.item.HeadItem.TheVariants as head_items
use Rattle.expand_heads.specs.Items.{alone, begun, core_item, headed_item, item_plan, keep, kept_head, list_item, wait, waiting_at}
use Rattle.expand_heads.specs.Kept.{Heads, with_head}
use Rattle.expand_heads.specs.declared.item.Item.TheVariants as items
use Rattle.expand_heads.specs.declared.taken.BodyAt.{BodyAt}
use Rattle.expand_heads.specs.declared.taken.Taken.{Taken}
use Rattle.expand_heads.specs.declared.taken.Waits.TheVariants as waits
use Rattle.expand_heads.specs.Depth.{most_round}
use Rattle.expand_forms.specs.Body.{body, body_core, finish, finish_as, finish_one, item, lambda_at, perform_item, perform_settled}
use Rattle.expand_forms.specs.Expression.{all_inits, case_lambda, lambda, lambda_case, letrec_form, one_case, one_init, inside}
use Rattle.expand_forms.specs.Inside.{Inside}
use Rattle.expand_forms.specs.ExpandUses.{at_use, item_by, item_step, item_step_of, next_form, expand_item_uses, expand_item_uses_to, too_many}
use Rattle.expand_forms.specs.Site.{site_at}
use Rattle.expand_forms.specs.Forms.{letrec_parts, procedure_parts}
use Rattle.law_room.specs.Counted.{IsKeywordWord, counted}
use Rattle.law_room.proofs.Limits.{within-limit}

-- what was taken where one expression waits, behind these heads
abbrev pub one_waits : BodyAt → ℕ → Tree → Heads → Taken
one_waits at depth t kept = record { waiting = waiting_at at depth (waits.Expression t) ∷ []; kept = kept; has_expression = true; moved = false }

-- the first pass takes a form as an expression, and leaves the state
pub record IsTaken (go : Inside) (at : BodyAt) (depth : ℕ) (t : Tree) (s : State) : Type 0 where
  pub kept : Heads
  pub taken : go.item at depth begun t s ≡ Ok (one_waits at depth t kept, s)

pub record IsPlanned (at : BodyAt) (depth : ℕ) (t : Tree) (s : State) : Type 0 where
  pub kept : Heads
  pub planned : item_plan at depth begun t s ≡ Ok ((one_waits at depth t kept, head_items.Item items.Nothing), s)

item-is : (rs : List CompiledLibrary) (room : ℕ) (at : BodyAt) (depth : ℕ) (done : Taken) (t : Tree) (s : State) → (inside rs (suc room)).item at depth done t s ≡ item (inside rs room) at depth done t s
unfolding inside
item-is rs room at depth done t s = refl

module _ (go : Inside) (at : BodyAt) (depth : ℕ) (t : Tree) (s : State) (done : Taken) where
  settled : (left : ℕ) → item_plan at depth begun t s ≡ Ok ((done, head_items.Item items.Nothing), s) → expand_item_uses_to go.earlier left at depth begun t s ≡ Ok ((done, record { at = at; form = t; item = items.Nothing }), s)
  unfolding expand_item_uses_to item_step
  settled zero e = ap (λ r. after (after r (λ (p : Taken × HeadItem). item_step_of go.earlier at depth t p.0 p.1)) (item_by (λ done k. too_many t at.place) at t)) e
  settled (suc left) e =
      ap (λ r. after (after r (λ (p : Taken × HeadItem). item_step_of go.earlier at depth t p.0 p.1))
      (item_by (λ taken k s'. after (next_form go.earlier left at.place t k (Some at.frame) s') (expand_item_uses_to go.earlier left (at_use at t) depth taken)) at t)) e

  item-taken : depth ≤ most_round → item_plan at depth begun t s ≡ Ok ((done, head_items.Item items.Nothing), s) → item go at depth begun t s ≡ Ok (done, s)
  unfolding item perform_item
  item-taken few e =
      ap (λ b. if b then fault_form kind.TooDeep t at.place s else after (expand_item_uses go.earlier at depth begun t s) (perform_settled go depth)) (within-limit depth few)
      ∙ ap (λ r. after r (perform_settled go depth)) (settled s.uses_left e)

pub is-taken : (rs : List CompiledLibrary) (room : ℕ) (at : BodyAt) (depth : ℕ) (t : Tree) (s : State) → depth ≤ most_round → IsPlanned at depth t s → IsTaken (inside rs (suc room)) at depth t s
is-taken rs room at depth t s few p = record {
  kept = p.kept;
  taken = item-is rs room at depth begun t s ∙ item-taken (inside rs room) at depth t s (one_waits at depth t p.kept) few p.planned;
}

-- a form whose head is a keyword, by what the keyword does
pub headed : (at : BodyAt) (depth : ℕ) (f : CoreForm) (word rest : Tree) (s : State) → IsKeywordWord s f word
    → item_plan at depth begun (pair None word rest) s ≡ core_item at depth (record begun { kept = with_head begun.kept (kept_head s word) }) (pair None word rest) f s
unfolding list_item keep
headed at depth f word rest s is =
    ap (λ b. if b then after (keep begun word s) (λ kept s'. headed_item at depth kept (pair None word rest) (standing_of s' word) s') else alone (wait at depth begun (pair None word rest)) s) is.leaf
    ∙ ap (λ x. headed_item at depth (record begun { kept = with_head begun.kept (kept_head s word) }) (pair None word rest) x s) is.stands

-- The body, from what comes of its form.
module _ (go : Inside) (place : Span) (level depth : ℕ) (t form : Tree) (s : State) where
  abbrev pub f : FrameNo
  f = record { 0 = s.names }

  abbrev pub u : State
  u = record s { names = record { library = s.names.library; number = s.names.number + 1 } }

  pub body-too-deep : (e : Fault) → go.item (lambda_at f place level) depth begun (stamp f form) u ≡ Err e → body go (site_at place level depth) t (form ∷ []) s ≡ Err e
  unfolding body fresh_frame gather
  body-too-deep e h =
      ap (λ r. after (after (after r (λ d. gather (go.item (lambda_at f place level) depth) d [])) (finish go place level t)) (leaving (length s.scope))) h

  started : (done : Taken) → go.item (lambda_at f place level) depth begun (stamp f form) u ≡ Ok (done, u) → body go (site_at place level depth) t (form ∷ []) s ≡ after (finish go place level t done u) (leaving (length s.scope))
  unfolding body fresh_frame gather
  started done h =
      ap (λ r. after (after (after r (λ d. gather (go.item (lambda_at f place level) depth) d [])) (finish go place level t)) (leaving (length s.scope))) h

  ended : (kept : Heads) (r : Result (PlainCore × State) Fault) → go.form (site_at place level depth) (stamp f form) u ≡ r
      → finish go place level t (one_waits (lambda_at f place level) depth (stamp f form) kept) u ≡ after (after (after r (λ c. give (line.Expr c))) (λ x. each (finish_one go level) (x ∷ []) [])) (λ ls. give (body_core ls))
  unfolding finish finish_as each
  ended kept r h = ap (λ x. after (after (after x (λ c. give (line.Expr c))) (λ y. each (finish_one go level) (y ∷ []) [])) (λ ls. give (body_core ls))) h

  pub body-faulted : (e : Fault) → IsTaken go (lambda_at f place level) depth (stamp f form) u → go.form (site_at place level depth) (stamp f form) u ≡ Err e → body go (site_at place level depth) t (form ∷ []) s ≡ Err e
  body-faulted e is h = started (one_waits (lambda_at f place level) depth (stamp f form) is.kept) is.taken ∙ ap (λ r. after r (leaving (length s.scope))) (ended is.kept (Err e) h)

  pub body-made : (c : PlainCore) (v : State) → IsTaken go (lambda_at f place level) depth (stamp f form) u → go.form (site_at place level depth) (stamp f form) u ≡ Ok (c, v) → body go (site_at place level depth) t (form ∷ []) s ≡ Ok (c, cut (length s.scope) v)
  unfolding each
  body-made c v is h = started (one_waits (lambda_at f place level) depth (stamp f form) is.kept) is.taken ∙ ap (λ r. after r (leaving (length s.scope))) (ended is.kept (Ok (c, v)) h)

abbrev pub no_ids : FormalIds
no_ids = record { required = []; rest = None }

abbrev pub no_formals : Formals
no_formals = record { required = []; rest = None }

-- A procedure, from what comes of its body.
module _ (go : Inside) (place : Span) (level depth : ℕ) (t form : Tree) (s : State) where
  module _ (ids : FormalIds) (fs : Formals) (v : State) (bound : bind_formals (record { 0 = (counted s).names }) place level ids (counted (counted s)) ≡ Ok (fs, v)) where
    lambda-is : (r : Result (PlainCore × State) Fault) → body go (site_at place level depth) t (stamp (record { 0 = (counted s).names }) form ∷ []) v ≡ r
        → lambda go (site_at place level depth) (procedure_parts t ids (form ∷ [])) s
        ≡ after (after (after r (λ c. give (record { formals = fs; body = c }))) (leaving (length s.scope))) (λ (c : Lambda). give (procedure (record { 0 = s.names }) (cases (c ∷ [])) true))
    unfolding lambda lambda_case fresh fresh_frame
    lambda-is r h =
        ap (λ x. after (after (after x (λ formals s'. after (body go (site_at place level depth) t (stamp (record { 0 = (counted s).names }) form ∷ []) s') (λ c. give (record { formals = formals; body = c })))) (leaving (length s.scope)))
        (λ (c : Lambda). give (procedure (record { 0 = s.names }) (cases (c ∷ [])) true))) bound
        ∙ ap (λ x. after (after (after x (λ c. give (record { formals = fs; body = c }))) (leaving (length s.scope))) (λ (c : Lambda). give (procedure (record { 0 = s.names }) (cases (c ∷ [])) true))) h

    pub lambda-faulted : (e : Fault) → body go (site_at place level depth) t (stamp (record { 0 = (counted s).names }) form ∷ []) v ≡ Err e → lambda go (site_at place level depth) (procedure_parts t ids (form ∷ [])) s ≡ Err e
    lambda-faulted e h = lambda-is (Err e) h

    pub lambda-made : (c : PlainCore) (u : State) → body go (site_at place level depth) t (stamp (record { 0 = (counted s).names }) form ∷ []) v ≡ Ok (c, u)
        → lambda go (site_at place level depth) (procedure_parts t ids (form ∷ [])) s ≡ Ok (procedure (record { 0 = s.names }) (cases (record { formals = fs; body = c } ∷ [])) true, cut (length s.scope) u)
    lambda-made c u h = lambda-is (Ok (c, u)) h

  -- and one case of `case-lambda`
  abbrev pub the_case : LambdaCase
  the_case = record { formals = no_ids; body = form ∷ [] }

  cases-are : (r : Result (PlainCore × State) Fault) → body go (site_at place level depth) t (stamp (record { 0 = (counted s).names }) form ∷ []) (counted (counted s)) ≡ r
      → case_lambda go (site_at place level depth) t (the_case ∷ []) s
      ≡ after (after (after (after r (λ c. give (record { formals = no_formals; body = c }))) (leaving (length s.scope))) (λ (c : Lambda). each (one_case go (site_at place level depth) t) (c ∷ []) [])) (λ cs. give (procedure (record { 0 = s.names }) (cases cs) false))
  unfolding case_lambda lambda_case fresh fresh_frame bind_formals each
  cases-are r h =
      ap (λ x. after (after (after (after x (λ c. give (record { formals = no_formals; body = c }))) (leaving (length s.scope))) (λ (c : Lambda). each (one_case go (site_at place level depth) t) (c ∷ []) []))
      (λ cs. give (procedure (record { 0 = s.names }) (cases cs) false))) h

  pub cases-faulted : (e : Fault) → body go (site_at place level depth) t (stamp (record { 0 = (counted s).names }) form ∷ []) (counted (counted s)) ≡ Err e → case_lambda go (site_at place level depth) t (the_case ∷ []) s ≡ Err e
  cases-faulted e h = cases-are (Err e) h

  pub cases-made : (c : PlainCore) (v : State) → body go (site_at place level depth) t (stamp (record { 0 = (counted s).names }) form ∷ []) (counted (counted s)) ≡ Ok (c, v)
      → case_lambda go (site_at place level depth) t (the_case ∷ []) s ≡ Ok (procedure (record { 0 = s.names }) (cases (record { formals = no_formals; body = c } ∷ [])) false, cut (length s.scope) v)
  unfolding each
  cases-made c v h = cases-are (Ok (c, v)) h

  -- `letrec` and `letrec*` without variables
  block-is : (star : Bool) (r : Result (PlainCore × State) Fault) → body go (site_at place level depth) t (stamp (record { 0 = s.names }) form ∷ []) (counted s) ≡ r
      → letrec_form go (site_at place level depth) (letrec_parts t star [] (form ∷ [])) s ≡ after (after r (λ c. give (letrec star (inits []) c))) (leaving (length s.scope))
  unfolding letrec_form fresh_frame each
  block-is star r h = ap (λ x. after (after x (λ c. give (letrec star (inits []) c))) (leaving (length s.scope))) h

  pub block-faulted : (star : Bool) (e : Fault) → body go (site_at place level depth) t (stamp (record { 0 = s.names }) form ∷ []) (counted s) ≡ Err e → letrec_form go (site_at place level depth) (letrec_parts t star [] (form ∷ [])) s ≡ Err e
  block-faulted star e h = block-is star (Err e) h

  pub block-made : (star : Bool) (c : PlainCore) (v : State) → body go (site_at place level depth) t (stamp (record { 0 = s.names }) form ∷ []) (counted s) ≡ Ok (c, v)
      → letrec_form go (site_at place level depth) (letrec_parts t star [] (form ∷ [])) s ≡ Ok (letrec star (inits []) c, cut (length s.scope) v)
  block-made star c v h = block-is star (Ok (c, v)) h

-- `letrec` and `letrec*` with one variable, from what comes of its expression and then of the body.
module _ (go : Inside) (place : Span) (level depth : ℕ) (t form : Tree) (s : State) (star : Bool) (id : Tree) (l : Label) (v : State) (bound : bind_variable (record { 0 = s.names }) place level false id (counted s) ≡ Ok (l, v)) where
  abbrev pub variable : BindingSpec
  variable = record { id = id; init = form }

  abbrev ended_by : Tree → List Init → State → Result (PlainCore × State) Fault
  ended_by last is u = after (body go (site_at place level depth) t (stamp (record { 0 = s.names }) last ∷ []) u) (λ c. give (letrec star (inits is) c))

  initial-is : (last : Tree) (r : Result (PlainCore × State) Fault) → go.form (site_at place level depth) (stamp (record { 0 = s.names }) form) v ≡ r
      → letrec_form go (site_at place level depth) (letrec_parts t star (variable ∷ []) (last ∷ [])) s
      ≡ after (after (after (after r (λ c. give (record { label = l; value = c }))) (λ (i : Init). each (one_init go (site_at place level depth) (record { 0 = s.names })) (i ∷ []) [])) (ended_by last)) (leaving (length s.scope))
  unfolding letrec_form fresh_frame bind_spec one_init each
  initial-is last r h =
      ap (λ x. after (after (after (after x (λ l. give (record { label = l; init = form }))) (λ (b : BoundSpec). each (bind_spec (record { 0 = s.names }) place level) (b ∷ []) []))
      (λ bs u. after (all_inits go (site_at place level depth) (record { 0 = s.names }) bs u) (ended_by last))) (leaving (length s.scope))) bound
      ∙ ap (λ x. after (after (after (after x (λ c. give (record { label = l; value = c }))) (λ (i : Init). each (one_init go (site_at place level depth) (record { 0 = s.names })) (i ∷ []) [])) (ended_by last)) (leaving (length s.scope))) h

  pub initial-faulted : (last : Tree) (e : Fault) → go.form (site_at place level depth) (stamp (record { 0 = s.names }) form) v ≡ Err e → letrec_form go (site_at place level depth) (letrec_parts t star (variable ∷ []) (last ∷ [])) s ≡ Err e
  initial-faulted last e h = initial-is last (Err e) h

  pub initial-made : (last : Tree) (c d : PlainCore) (u w : State) → go.form (site_at place level depth) (stamp (record { 0 = s.names }) form) v ≡ Ok (c, u) → body go (site_at place level depth) t (stamp (record { 0 = s.names }) last ∷ []) u ≡ Ok (d, w)
      → letrec_form go (site_at place level depth) (letrec_parts t star (variable ∷ []) (last ∷ [])) s ≡ Ok (letrec star (inits (record { label = l; value = c } ∷ [])) d, cut (length s.scope) w)
  unfolding each
  initial-made last c d u w h k = initial-is last (Ok (c, u)) h ∙ ap (λ x. after (after x (λ e. give (letrec star (inits (record { label = l; value = c } ∷ [])) e))) (leaving (length s.scope))) k
