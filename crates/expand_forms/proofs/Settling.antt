-- Uses of keywords, one after another.
use Rattle.std.proofs.Common.{◌≡◌, ℕ, ◌-◌, zero, suc, refl, ap, sym, ◌∙◌, arith, List, [], Option, None, Some, Result, Ok, Err}
use Rattle.base_data.specs.Act.{after}
use Rattle.base_data.specs.Gives.{Stops, StopsWith}
use Rattle.base_data.specs.declared.fault.Fault.{Fault}
use Rattle.base_data.specs.declared.fault.FaultKind.TheVariants as kind
use Rattle.base_data.specs.declared.fault.Stop.{Stop}
use Rattle.base_data.specs.declared.fault.Stop.TheVariants as stops
use Rattle.base_data.specs.declared.span.Span.{Span}
use Rattle.stx_tree.specs.Tree.{Tree}
use Rattle.core_language.specs.declared.record.CompiledLibrary.{CompiledLibrary}
use Rattle.core_shapes.specs.At.{fault_at, place_of}
use Rattle.expand_standing.specs.State.{State, Does}
use Rattle.expand_heads.specs.declared.item.Item.{Item}
use Rattle.expand_heads.specs.declared.plan.KeywordUse.{KeywordUse}
use Rattle.expand_heads.specs.declared.plan.Plan.{Plan}
use Rattle.expand_heads.specs.declared.taken.BodyAt.{BodyAt}
use Rattle.expand_heads.specs.declared.taken.Taken.{Taken}
use Rattle.expand_forms.specs.ExpandUses.{next_form, step, too_many, linked, planned_by, expand_uses_to, at_use, item_step, item_by, expand_item_uses_to}
use Rattle.expand_forms.specs.declared.expand_uses.PlanOrUse.TheVariants as steps
use Rattle.expand_forms.specs.declared.expand_uses.PlannedForm.{PlannedForm}
use Rattle.expand_forms.specs.declared.expand_uses.ItemOrUse.TheVariants as item_steps
use Rattle.expand_forms.specs.declared.expand_uses.PlannedItem.{PlannedItem}

-- a fault that a whole gives stops it
pub faulted : {A : Type 0} (stop : Stop) (f : Fault) (total : Result A Fault) → StopsWith stop f → total ≡ Err f → Stops stop total
faulted stops.Memory f total h e = tt
faulted (stops.Fault g) f total h e = e ∙ ap (λ x. Err x) h

module _ (rs : List CompiledLibrary) (place : Span) (level : ℕ) (t : Tree) (s : State) (total : Result (PlannedForm × State) Fault) where
  -- what a use gives, where so many are left
  abbrev onward : ℕ → KeywordUse → Does PlannedForm
  onward zero = λ l. too_many t place
  onward (suc left) = λ l u. after (next_form rs left place t l None u) (expand_uses_to rs left (place_of t place) level)

  settle_here : (left : ℕ) → expand_uses_to rs left place level t s ≡ after (step rs place level t s) (planned_by (onward left) place t)
  unfolding expand_uses_to
  settle_here zero = refl
  settle_here (suc left) = refl

  -- no plan of the form is found
  pub settle_stops : (left : ℕ) (stop : Stop) → Stops stop (step rs place level t s) → expand_uses_to rs left place level t s ≡ total → Stops stop total
  settle_stops left stops.Memory h so_far = tt
  settle_stops left (stops.Fault f) h so_far = sym so_far ∙ settle_here left ∙ ap (λ r. after r (planned_by (onward left) place t)) h

  -- the form is no use
  pub settle_ends : (left : ℕ) (p : Plan) (new : State) → step rs place level t s ≡ Ok (steps.Plan p, new) → expand_uses_to rs left place level t s ≡ total
      → total ≡ Ok (record { place = place; form = t; plan = p }, linked t p new)
  settle_ends left p new h so_far = sym so_far ∙ settle_here left ∙ ap (λ r. after r (planned_by (onward left) place t)) h

  -- a use: what it gives comes in place of the form
  used_here : (left : ℕ) (l : KeywordUse) (new : State) → step rs place level t s ≡ Ok (steps.Use l, new) → expand_uses_to rs left place level t s ≡ onward left l new
  used_here left l new h = settle_here left ∙ ap (λ r. after r (planned_by (onward left) place t)) h

  -- a use, where none is left
  pub settle_spent : (left : ℕ) (l : KeywordUse) (new : State) (stop : Stop) → left ≡ 0 → step rs place level t s ≡ Ok (steps.Use l, new)
      → StopsWith stop (fault_at kind.TooManyExpansions t place []) → expand_uses_to rs left place level t s ≡ total → Stops stop total
  settle_spent zero l new stop none h e so_far = faulted stop (fault_at kind.TooManyExpansions t place []) total e (sym so_far ∙ used_here zero l new h)
  settle_spent (suc left) l new stop none h e so_far = absurd (omega (arith, none))

  -- a use, where more are left
  pub settle_on : (left : ℕ) (l : KeywordUse) (new : State) (u : Tree) (last : State) → (left ≡ 0 → ⊥) → step rs place level t s ≡ Ok (steps.Use l, new)
      → next_form rs (left - 1) place t l None new ≡ Ok (u, last) → expand_uses_to rs left place level t s ≡ total → expand_uses_to rs (left - 1) (place_of t place) level u last ≡ total
  settle_on zero l new u last some h next so_far = absurd (some refl)
  settle_on (suc left) l new u last some h next so_far =
      let e : suc left - 1 ≡ left = omega arith in
      let given : next_form rs left place t l None new ≡ Ok (u, last) = sym (ap (λ n. next_form rs n place t l None new) e) ∙ next in
      ap (λ n. expand_uses_to rs n (place_of t place) level u last) e ∙ sym (used_here (suc left) l new h ∙ ap (λ r. after r (expand_uses_to rs left (place_of t place) level)) given) ∙ so_far

  pub settle_breaks : (left : ℕ) (l : KeywordUse) (new : State) (stop : Stop) → (left ≡ 0 → ⊥) → step rs place level t s ≡ Ok (steps.Use l, new)
      → Stops stop (next_form rs (left - 1) place t l None new) → expand_uses_to rs left place level t s ≡ total → Stops stop total
  settle_breaks zero l new stop some h next so_far = absurd (some refl)
  settle_breaks (suc left) l new stops.Memory some h next so_far = tt
  settle_breaks (suc left) l new (stops.Fault f) some h next so_far =
      let e : suc left - 1 ≡ left = omega arith in
      let given : next_form rs left place t l None new ≡ Err f = sym (ap (λ n. next_form rs n place t l None new) e) ∙ next in
      sym so_far ∙ used_here (suc left) l new h ∙ ap (λ r. after r (expand_uses_to rs left (place_of t place) level)) given

module _ (rs : List CompiledLibrary) (at : BodyAt) (depth : ℕ) (done : Taken) (t : Tree) (s : State) (total : Result ((Taken × PlannedItem) × State) Fault) where
  -- what a use gives, where so many are left
  abbrev item_onward : ℕ → Taken → KeywordUse → Does (Taken × PlannedItem)
  item_onward zero = λ taken l. too_many t at.place
  item_onward (suc left) = λ taken l u. after (next_form rs left at.place t l (Some at.frame) u) (expand_item_uses_to rs left (at_use at t) depth taken)

  item_here : (left : ℕ) → expand_item_uses_to rs left at depth done t s ≡ after (item_step rs at depth done t s) (item_by (item_onward left) at t)
  unfolding expand_item_uses_to
  item_here zero = refl
  item_here (suc left) = refl

  -- no item of the form is found
  pub item_stops : (left : ℕ) (stop : Stop) → Stops stop (item_step rs at depth done t s) → expand_item_uses_to rs left at depth done t s ≡ total → Stops stop total
  item_stops left stops.Memory h so_far = tt
  item_stops left (stops.Fault f) h so_far = sym so_far ∙ item_here left ∙ ap (λ r. after r (item_by (item_onward left) at t)) h

  -- the form is no use
  pub item_ends : (left : ℕ) (taken : Taken) (i : Item) (new : State) → item_step rs at depth done t s ≡ Ok ((taken, item_steps.Item i), new)
      → expand_item_uses_to rs left at depth done t s ≡ total → total ≡ Ok ((taken, record { at = at; form = t; item = i }), new)
  item_ends left taken i new h so_far = sym so_far ∙ item_here left ∙ ap (λ r. after r (item_by (item_onward left) at t)) h

  -- a use: what it gives comes in place of the form
  item_used : (left : ℕ) (taken : Taken) (l : KeywordUse) (new : State) → item_step rs at depth done t s ≡ Ok ((taken, item_steps.Use l), new)
      → expand_item_uses_to rs left at depth done t s ≡ item_onward left taken l new
  item_used left taken l new h = item_here left ∙ ap (λ r. after r (item_by (item_onward left) at t)) h

  -- a use, where none is left
  pub item_spent : (left : ℕ) (taken : Taken) (l : KeywordUse) (new : State) (stop : Stop) → left ≡ 0 → item_step rs at depth done t s ≡ Ok ((taken, item_steps.Use l), new)
      → StopsWith stop (fault_at kind.TooManyExpansions t at.place []) → expand_item_uses_to rs left at depth done t s ≡ total → Stops stop total
  item_spent zero taken l new stop none h e so_far = faulted stop (fault_at kind.TooManyExpansions t at.place []) total e (sym so_far ∙ item_used zero taken l new h)
  item_spent (suc left) taken l new stop none h e so_far = absurd (omega (arith, none))

  -- a use, where more are left
  pub item_on : (left : ℕ) (taken : Taken) (l : KeywordUse) (new : State) (u : Tree) (last : State) → (left ≡ 0 → ⊥)
      → item_step rs at depth done t s ≡ Ok ((taken, item_steps.Use l), new) → next_form rs (left - 1) at.place t l (Some at.frame) new ≡ Ok (u, last)
      → expand_item_uses_to rs left at depth done t s ≡ total → expand_item_uses_to rs (left - 1) (at_use at t) depth taken u last ≡ total
  item_on zero taken l new u last some h next so_far = absurd (some refl)
  item_on (suc left) taken l new u last some h next so_far =
      let e : suc left - 1 ≡ left = omega arith in
      let given : next_form rs left at.place t l (Some at.frame) new ≡ Ok (u, last) = sym (ap (λ n. next_form rs n at.place t l (Some at.frame) new) e) ∙ next in
      ap (λ n. expand_item_uses_to rs n (at_use at t) depth taken u last) e ∙ sym (item_used (suc left) taken l new h ∙ ap (λ r. after r (expand_item_uses_to rs left (at_use at t) depth taken)) given) ∙ so_far

  pub item_breaks : (left : ℕ) (taken : Taken) (l : KeywordUse) (new : State) (stop : Stop) → (left ≡ 0 → ⊥)
      → item_step rs at depth done t s ≡ Ok ((taken, item_steps.Use l), new) → Stops stop (next_form rs (left - 1) at.place t l (Some at.frame) new)
      → expand_item_uses_to rs left at depth done t s ≡ total → Stops stop total
  item_breaks zero taken l new stop some h next so_far = absurd (some refl)
  item_breaks (suc left) taken l new stops.Memory some h next so_far = tt
  item_breaks (suc left) taken l new (stops.Fault f) some h next so_far =
      let e : suc left - 1 ≡ left = omega arith in
      let given : next_form rs left at.place t l (Some at.frame) new ≡ Err f = sym (ap (λ n. next_form rs n at.place t l (Some at.frame) new) e) ∙ next in
      sym so_far ∙ item_used (suc left) taken l new h ∙ ap (λ r. after r (expand_item_uses_to rs left (at_use at t) depth taken)) given
