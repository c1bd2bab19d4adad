-- The plan of a planned form stands under what the form may refer to.
use Rattle.std.proofs.Common.{ℕ, zero, suc, Bool, true, false, List, None}
use Rattle.base_data.specs.Act.{after}
use Rattle.base_data.specs.declared.library.LibName.{LibName}
use Rattle.base_data.specs.declared.name.Label.{Label}
use Rattle.base_data.specs.declared.span.Span.{Span}
use Rattle.stx_tree.specs.Tree.{Tree}
use Rattle.core_language.specs.declared.record.CompiledLibrary.{CompiledLibrary}
use Rattle.law_core.specs.Templates.{Depths}
use Rattle.core_shapes.specs.At.{place_of}
use Rattle.expand_standing.specs.State.{State}
use Rattle.expand_standing.specs.Uses.{asks_variable}
use Rattle.expand_heads.specs.declared.plan.HeadPlan.{HeadPlan}
use Rattle.expand_heads.specs.declared.plan.HeadPlan.TheVariants as head_plans
use Rattle.expand_heads.specs.Plan.{plan_of}
use Rattle.expand_forms.specs.ExpandUses.{next_form, too_many, set_step, step_of, step, planned_by, expand_uses_to}
use Rattle.expand_forms.specs.declared.expand_uses.PlannedForm.{PlannedForm}
use Rattle.expand_forms.specs.declared.expand_uses.PlanOrUse.{PlanOrUse}
use Rattle.expand_forms.specs.declared.expand_uses.PlanOrUse.TheVariants as steps
use Rattle.expand_forms.proofs.Linked.{linked-keeps}
use Rattle.law_expand.specs.States.{Later}
use Rattle.law_expand.proofs.Acts.{Gave, gave-after, gave-less, gave-both}
use Rattle.law_expand.proofs.Expand.{Starts, starts-later}
use Rattle.law_expand.proofs.Later.{later-links, later-then}
use Rattle.law_expand.proofs.Meanings.{Planned, HeadPlanned, planned-of}
use Rattle.law_expand.proofs.Plans.{plan-later}
use Rattle.law_expand.proofs.Uses.{asks-later, next-later}

module _ (own : LibName) (given : List Label) (rs : List CompiledLibrary) (vs : Depths) (level : ℕ) (ls : List Label) where
  abbrev pub SettlesTo : State → PlannedForm → State → Type 0
  SettlesTo s d u = Later own s u × Planned own u.bindings vs ls u.names.number d.plan

  abbrev StepPlanned : PlanOrUse → State → Type 0
  StepPlanned (steps.Plan p) u = Planned own u.bindings vs ls u.names.number p
  StepPlanned (steps.Use l) u = Unit {0}

  abbrev StepsTo : State → PlanOrUse → State → Type 0
  StepsTo s x u = Later own s u × StepPlanned x u

  abbrev S : State → Type 0
  S = Starts own given vs level ls

  set-planned : (place : Span) (t : Tree) (l : Label) (id : Tree) (b : Bool) (s u : State) → Later own s u → Gave (StepsTo s) (set_step place t l id b u)
  set-planned place t l id true s u h = (h, tt)
  set-planned place t l id false s u h = tt

  steps-planned : (place : Span) (t : Tree) (p : HeadPlan) (s u : State) → Later own s u → HeadPlanned own u.bindings vs ls u.names.number p → Gave (StepsTo s) (step_of rs place t p u)
  steps-planned place t (head_plans.Plan p) s u h k = (h, k)
  steps-planned place t (head_plans.Use l) s u h k = (h, tt)
  steps-planned place t (head_plans.SetUse l id) s u h k =
      gave-after (λ b v. Later own u v) (StepsTo s) (asks_variable rs (place_of t place) l u) (set_step place t l id) (asks-later own rs (place_of t place) l u h.next) (λ b v j. set-planned place t l id b s v (later-then own s u v h j))

  step-planned : (place : Span) (t : Tree) (s : State) → S s → Gave (StepsTo s) (step rs place level t s)
  unfolding step
  step-planned place t s h =
      gave-after (λ p u. Later own s u × HeadPlanned own u.bindings vs ls u.names.number p) (StepsTo s) (plan_of place level t s) (step_of rs place t)
      (gave-both (λ p u. Later own s u) (λ p u. HeadPlanned own u.bindings vs ls u.names.number p) (plan_of place level t s) (plan-later own place level s h.0.next t) (planned-of own given vs level ls s h.0 h.1 place t))
      (λ p u k. steps-planned place t p s u k.0 k.1)

  pub expand_uses-planned : (left : ℕ) (place : Span) (t : Tree) (s : State) → S s → Gave (SettlesTo s) (expand_uses_to rs left place level t s)
  unfolding expand_uses_to
  expand_uses-planned zero place t s h = gave-after (StepsTo s) (SettlesTo s) (step rs place level t s) (planned_by (λ l. too_many t place) place t) (step-planned place t s h) by
    where
      by : (x : PlanOrUse) (u : State) → StepsTo s x u → Gave (SettlesTo s) (planned_by (λ l. too_many t place) place t x u)
      by (steps.Plan p) u k = linked-keeps (λ v. Later own s v × Planned own v.bindings vs ls v.names.number p) t u (λ ks. (later-then own s u (record u { links = ks }) k.0 (later-links own u ks k.0.next), k.1)) p
      by (steps.Use l) u k = tt
  expand_uses-planned (suc left) place t s h =
      gave-after (StepsTo s) (SettlesTo s) (step rs place level t s) (planned_by (λ l s'. after (next_form rs left place t l None s') (expand_uses_to rs left (place_of t place) level)) place t) (step-planned place t s h)
      (λ x u k. by x u k (λ y v j. expand_uses-planned left (place_of t place) y v j))
    where
      by : (x : PlanOrUse) (u : State) → StepsTo s x u → ((y : Tree) (v : State) → S v → Gave (SettlesTo v) (expand_uses_to rs left (place_of t place) level y v))
          → Gave (SettlesTo s) (planned_by (λ l s'. after (next_form rs left place t l None s') (expand_uses_to rs left (place_of t place) level)) place t x u)
      by (steps.Plan p) u k next = linked-keeps (λ v. Later own s v × Planned own v.bindings vs ls v.names.number p) t u (λ ks. (later-then own s u (record u { links = ks }) k.0 (later-links own u ks k.0.next), k.1)) p
      by (steps.Use l) u k next =
          gave-after (λ y v. Later own u v) (SettlesTo s) (next_form rs left place t l None u) (expand_uses_to rs left (place_of t place) level) (next-later own rs left place t l None u k.0.next)
          (λ y v j. let i = later-then own s u v k.0 j in
          gave-less (SettlesTo v) (SettlesTo s) (expand_uses_to rs left (place_of t place) level y v) (next y v (starts-later own given vs level ls s v h i)) (λ d w m. (later-then own s v w i m.0, m.1)))
