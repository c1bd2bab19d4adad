-- How states change while uses are expanded.
use Rattle.std.proofs.Common.{ℕ, zero, suc, Bool, true, false, List, None}
use Rattle.base_data.specs.Act.{after}
use Rattle.base_data.specs.declared.library.LibName.{LibName}
use Rattle.base_data.specs.declared.name.Label.{Label}
use Rattle.base_data.specs.declared.span.Span.{Span}
use Rattle.stx_tree.specs.Tree.{Tree}
use Rattle.core_language.specs.declared.record.CompiledLibrary.{CompiledLibrary}
use Rattle.core_shapes.specs.At.{place_of}
use Rattle.expand_standing.specs.State.{State}
use Rattle.expand_standing.specs.Uses.{asks_variable}
use Rattle.expand_heads.specs.declared.plan.HeadPlan.{HeadPlan}
use Rattle.expand_heads.specs.declared.plan.HeadPlan.TheVariants as head_plans
use Rattle.expand_heads.specs.Plan.{plan_of}
use Rattle.expand_forms.specs.ExpandUses.{next_form, too_many, set_step, step_of, step, planned_by, expand_uses_to}
use Rattle.expand_forms.specs.declared.expand_uses.PlanOrUse.{PlanOrUse}
use Rattle.expand_forms.specs.declared.expand_uses.PlanOrUse.TheVariants as steps
use Rattle.expand_forms.proofs.Linked.{linked-keeps}
use Rattle.law_expand.proofs.Acts.{Gave}
use Rattle.law_expand.proofs.Later.{later-self, later-links}
use Rattle.law_expand.specs.States.{Later}
use Rattle.law_expand.proofs.Moved.{Names, Moved, moved-after}
use Rattle.law_expand.proofs.Plans.{plan-later}
use Rattle.law_expand.proofs.Uses.{asks-later, next-later}

module _ (own : LibName) (rs : List CompiledLibrary) where
  set-later : (place : Span) (t : Tree) (l : Label) (id : Tree) (b : Bool) (s : State) → Names own s → Gave (Moved own s) (set_step place t l id b s)
  set-later place t l id true s n = later-self own s n
  set-later place t l id false s n = tt

  steps-later : (place : Span) (t : Tree) (p : HeadPlan) (s : State) → Names own s → Gave (Moved own s) (step_of rs place t p s)
  steps-later place t (head_plans.Plan p) s n = later-self own s n
  steps-later place t (head_plans.Use l) s n = later-self own s n
  steps-later place t (head_plans.SetUse l id) s n = moved-after own s (asks_variable rs (place_of t place) l s) (set_step place t l id) (asks-later own rs (place_of t place) l s n) (λ b u m. set-later place t l id b u m)

  step-later : (place : Span) (level : ℕ) (t : Tree) (s : State) → Names own s → Gave (Moved own s) (step rs place level t s)
  unfolding step
  step-later place level t s n = moved-after own s (plan_of place level t s) (step_of rs place t) (plan-later own place level s n t) (λ p u m. steps-later place t p u m)

  pub expand_uses-later : (left : ℕ) (place : Span) (level : ℕ) (t : Tree) (s : State) → Names own s → Gave (Moved own s) (expand_uses_to rs left place level t s)
  unfolding expand_uses_to
  expand_uses-later zero place level t s n = moved-after own s (step rs place level t s) (planned_by (λ l. too_many t place) place t) (step-later place level t s n) by
    where
      by : (x : PlanOrUse) (u : State) → Names own u → Gave (Moved own u) (planned_by (λ l. too_many t place) place t x u)
      by (steps.Plan p) u m = linked-keeps (λ v. Later own u v) t u (λ ls. later-links own u ls m) p
      by (steps.Use l) u m = tt
  expand_uses-later (suc left) place level t s n =
      moved-after own s (step rs place level t s) (planned_by (λ l s'. after (next_form rs left place t l None s') (expand_uses_to rs left (place_of t place) level)) place t) (step-later place level t s n)
      (λ x u m. by x u m (λ y v k. expand_uses-later left (place_of t place) level y v k))
    where
      by : (x : PlanOrUse) (u : State) → Names own u → ((y : Tree) (v : State) → Names own v → Gave (Moved own v) (expand_uses_to rs left (place_of t place) level y v))
          → Gave (Moved own u) (planned_by (λ l s'. after (next_form rs left place t l None s') (expand_uses_to rs left (place_of t place) level)) place t x u)
      by (steps.Plan p) u m next = linked-keeps (λ v. Later own u v) t u (λ ls. later-links own u ls m) p
      by (steps.Use l) u m next = moved-after own u (next_form rs left place t l None u) (expand_uses_to rs left (place_of t place) level) (next-later own rs left place t l None u m) next
