-- What is done with a form, and with a form of a body, is found out with no binds but those of uses and definitions.
use Rattle.std.proofs.Common.{◌≡◌, ℕ, zero, suc, Bool, true, false, List, None, Some, Ok, refl, sym, subst, if◌then◌else◌}
use Rattle.std.specs.Prelude.{◌||◌, ◌&&◌, not}
use Rattle.base_data.specs.Act.{after, give}
use Rattle.base_data.specs.declared.fault.FaultKind.TheVariants as kind
use Rattle.base_data.specs.declared.library.LibName.{LibName}
use Rattle.base_data.specs.declared.name.Label.{Label}
use Rattle.base_data.specs.declared.span.Span.{Span}
use Rattle.stx_tree.specs.Tree.{Tree}
use Rattle.core_language.specs.Core.{instance}
use Rattle.core_language.specs.declared.record.CompiledLibrary.{CompiledLibrary}
use Rattle.core_shapes.specs.At.{place_of}
use Rattle.core_shapes.specs.declared.shape.BindingSpec.{BindingSpec}
use Rattle.core_shapes.specs.declared.shape.Shape.{Shape}
use Rattle.core_shapes.specs.declared.shape.Shape.TheVariants as shapes
use Rattle.expand_standing.specs.Binders.{bind_variable}
use Rattle.expand_standing.specs.Standing.{standing_of}
use Rattle.expand_standing.specs.State.{State, Does, fault_word}
use Rattle.expand_standing.specs.Uses.{asks_variable, bind_keyword}
use Rattle.expand_standing.specs.declared.standing.Standing.{Standing}
use Rattle.expand_standing.specs.declared.standing.Standing.TheVariants as standing
use Rattle.expand_heads.specs.declared.item.HeadItem.{HeadItem}
use Rattle.expand_heads.specs.declared.item.HeadItem.TheVariants as head_items
use Rattle.expand_heads.specs.declared.plan.HeadPlan.{HeadPlan}
use Rattle.expand_heads.specs.declared.plan.HeadPlan.TheVariants as head_plans
use Rattle.expand_heads.specs.Items.{is_mixed, is_top, any_changed, heads_like, in_time, keyword_in_time, define, define_keyword, define_item, item_plan}
use Rattle.expand_heads.specs.Plan.{reference, assign, plan_of}
use Rattle.expand_heads.specs.declared.item.Item.TheVariants as items
use Rattle.expand_heads.specs.declared.plan.KeywordUse.{KeywordUse}
use Rattle.expand_heads.specs.declared.plan.Plan.TheVariants as plans
use Rattle.expand_heads.specs.declared.taken.BodyAt.{BodyAt}
use Rattle.expand_heads.specs.declared.taken.Taken.{Taken}
use Rattle.expand_forms.specs.ExpandUses.{next_form, too_many, set_step, step_of, step, planned_by, expand_uses_to, at_use, set_item_step, item_step_of, item_step, expand_item_uses_to}
use Rattle.expand_forms.specs.ExpandUses as expand_uses
use Rattle.expand_forms.specs.declared.expand_uses.PlanOrUse.{PlanOrUse}
use Rattle.expand_forms.specs.declared.expand_uses.PlanOrUse.TheVariants as steps
use Rattle.expand_forms.specs.declared.expand_uses.ItemOrUse.{ItemOrUse}
use Rattle.expand_forms.specs.declared.expand_uses.ItemOrUse.TheVariants as item_steps
use Rattle.expand_forms.specs.declared.expand_uses.PlannedItem.{PlannedItem}
use Rattle.expand_forms.proofs.Linked.{linked-keeps}
use Rattle.law_expand.proofs.Acts.{Gave, gave-after, gave-less, gave-if}
use Rattle.law_expand.proofs.Items.{item-cases}
use Rattle.law_expand.proofs.Plans.{plan-cases}
use Rattle.law_expand.proofs.References.{Refers, AssignsBy, marked, reference-is, assign-is}
use Rattle.law_run.proofs.Binding.{steps-variable, steps-keyword, steps-asks, steps-next, steps-template}
use Rattle.law_run.proofs.Steps.{Steps, Names, St, stays, self, steps-then, steps-after}

module _ (own : LibName) (rs : List CompiledLibrary) where
  -- Expressions.

  module _ (place : Span) (level : ℕ) (s : State) (n : Names own s) where
    assigned : (id value : Tree) (st : Standing) (p : HeadPlan) (u : State) → AssignsBy place level s id value st p u → Steps own s u
    assigned id value standing.Nothing p u k = elim k [ ]
    assigned id value (standing.Variable v) p u k = subst (Steps own s) (sym k.1.0) (stays own s (marked v.label s) n refl)
    assigned id value standing.PatternVariable p u k = elim k [ ]
    assigned id value (standing.Primitive op) p u k = elim k [ ]
    assigned id value (standing.Core f) p u k = elim k [ ]
    assigned id value (standing.Keyword l) p u k = subst (Steps own s) (sym k.1) (self own s n)

    steps-plan : (t : Tree) → Gave (St own s) (plan_of place level t s)
    steps-plan t = plan-cases (λ p u. Steps own s u) place level s (λ d. self own s n)
        (λ id. gave-less (Refers place level s (standing_of s id)) (St own s) (reference place level id s) (reference-is place level s id) (λ p u k. subst (Steps own s) (sym k.0) (self own s n)))
        (λ x id value. gave-less (AssignsBy place level s id value (standing_of s id)) (St own s) (assign place level x id value s) (assign-is place level s x id value) (λ p u k. assigned id value (standing_of s id) p u k))
        (λ x operand. steps-template own place level operand (λ y. head_plans.Plan (plans.Done (instance y (place_of x place)))) s n) (λ p h. self own s n) t

  set-steps : (place : Span) (t : Tree) (l : Label) (id : Tree) (b : Bool) (s : State) → Names own s → Gave (St own s) (set_step place t l id b s)
  set-steps place t l id true s n = self own s n
  set-steps place t l id false s n = tt

  steps-of : (place : Span) (t : Tree) (p : HeadPlan) (s : State) → Names own s → Gave (St own s) (step_of rs place t p s)
  steps-of place t (head_plans.Plan p) s n = self own s n
  steps-of place t (head_plans.Use l) s n = self own s n
  steps-of place t (head_plans.SetUse l id) s n = steps-after own s (asks_variable rs (place_of t place) l s) (set_step place t l id) (steps-asks own rs (place_of t place) l s n) (λ b u m. set-steps place t l id b u m)

  steps-step : (place : Span) (level : ℕ) (t : Tree) (s : State) → Names own s → Gave (St own s) (step rs place level t s)
  unfolding step
  steps-step place level t s n = steps-after own s (plan_of place level t s) (step_of rs place t) (steps-plan place level s n t) (λ p u m. steps-of place t p u m)

  pub steps-expand_uses : (left : ℕ) (place : Span) (level : ℕ) (t : Tree) (s : State) → Names own s → Gave (St own s) (expand_uses_to rs left place level t s)
  unfolding expand_uses_to
  steps-expand_uses zero place level t s n = steps-after own s (step rs place level t s) (planned_by (λ l. too_many t place) place t) (steps-step place level t s n) by
    where
      by : (x : PlanOrUse) (u : State) → Names own u → Gave (St own u) (planned_by (λ l. too_many t place) place t x u)
      by (steps.Plan p) u m = linked-keeps (Steps own u) t u (λ ls. stays own u (record u { links = ls }) m refl) p
      by (steps.Use l) u m = tt
  steps-expand_uses (suc left) place level t s n =
      steps-after own s (step rs place level t s) (planned_by (λ l s'. after (next_form rs left place t l None s') (expand_uses_to rs left (place_of t place) level)) place t) (steps-step place level t s n)
      (λ x u m. by x u m (λ y v k. steps-expand_uses left (place_of t place) level y v k))
    where
      by : (x : PlanOrUse) (u : State) → Names own u → ((y : Tree) (v : State) → Names own v → Gave (St own v) (expand_uses_to rs left (place_of t place) level y v))
          → Gave (St own u) (planned_by (λ l s'. after (next_form rs left place t l None s') (expand_uses_to rs left (place_of t place) level)) place t x u)
      by (steps.Plan p) u m next = linked-keeps (Steps own u) t u (λ ls. stays own u (record u { links = ls }) m refl) p
      by (steps.Use l) u m next = steps-after own u (next_form rs left place t l None u) (expand_uses_to rs left (place_of t place) level) (steps-next own rs left place t l None u m) next

  -- Forms of a body, whose frame is one of the library.

  module _ (at : BodyAt) (mine : at.frame.0.library ≡ own) where
    steps-in-time : (d : Taken) (id : Tree) (s : State) → Names own s → Gave (St own s) (in_time at d id s)
    unfolding in_time
    steps-in-time d id s n = by (any_changed false s (heads_like d id)) (d.moved || any_changed true s (heads_like d id))
      where
        by : (c m : Bool) → Gave (St own s) (if c then fault_word kind.LateDefinition id id at.place s else Ok (record d { moved = m }, s))
        by true m = tt
        by false m = self own s n

    steps-define : (d : Taken) (t id : Tree) (s : State) → Names own s → Gave (St own s) (define at d t id s)
    unfolding define
    steps-define d t id s n = gave-if (St own s) (d.has_expression && not (is_mixed at.kind)) _ _ (λ e. tt)
        (λ e. steps-after own s (bind_variable at.frame at.place at.level (is_top at.kind) id s) (λ l s'. after (in_time at d id s') (λ taken. give (taken, l)))
        (steps-variable own at.frame mine at.place at.level (is_top at.kind) id s n)
        (λ l u m. steps-after own u (in_time at d id u) (λ taken. give (taken, l)) (steps-in-time d id u m) (λ x v k. self own v k)))

    steps-definition : (depth : ℕ) (d : Taken) (t : Tree) (x : Shape) (s : State) → Names own s → Gave (St own s) (define_item at depth d t x s)
    unfolding define_item
    steps-definition depth d t (shapes.Define id value) s n = steps-after own s (define at d t id s) _ (steps-define d t id s n) (λ e u m. self own u m)
    steps-definition depth d t (shapes.DefineProcedure id ids forms) s n = steps-after own s (define at d t id s) _ (steps-define d t id s n) (λ e u m. self own u m)
    steps-definition depth d t _ s n = tt

    keyword-in-time : (d : Taken) (id : Tree) (s : State) → Names own s → Gave (St own s) (keyword_in_time at d id s)
    unfolding keyword_in_time
    keyword-in-time d id s n = gave-if (St own s) (d.moved || any_changed true s (heads_like d id)) _ _ (λ e. tt) (λ e. self own s n)

    pub steps-define-keyword : (d : Taken) (t : Tree) (b : BindingSpec) (s : State) → Names own s → Gave (St own s) (define_keyword at d t b s)
    unfolding define_keyword
    steps-define-keyword d t b s n = gave-if (St own s) (d.has_expression && not (is_mixed at.kind)) _ _ (λ e. tt)
        (λ e. steps-after own s (bind_keyword at.frame at.place at.level b s) (λ k s'. after (keyword_in_time at d b.id s') (λ _. give k)) (steps-keyword own at.frame mine at.place at.level b s n)
        (λ k u m. steps-after own u (keyword_in_time at d b.id u) (λ _. give k) (keyword-in-time d b.id u m) (λ x v j. self own v j)))

    steps-item-plan : (depth : ℕ) (d : Taken) (t : Tree) (s : State) → Names own s → Gave (St own s) (item_plan at depth d t s)
    steps-item-plan depth d t s n = item-cases (λ e. Unit {0}) (λ p u. Steps own s u) at depth s (λ e id k. tt) (λ e x k. self own s n)
        (λ e x y k. steps-after own s (define_item at depth e x y s) (λ z. give (z, head_items.Item items.Nothing)) (steps-definition depth e x y s n) (λ z u m. self own u m)) (λ e i k. self own s n) d t tt

    set-item-steps : (depth : ℕ) (d : Taken) (t : Tree) (l : Label) (b : Bool) (s : State) → Names own s → Gave (St own s) (set_item_step at depth d t l b s)
    set-item-steps depth d t l true s n = self own s n
    set-item-steps depth d t l false s n = self own s n

    steps-item-of : (depth : ℕ) (t : Tree) (d : Taken) (i : HeadItem) (s : State) → Names own s → Gave (St own s) (item_step_of rs at depth t d i s)
    steps-item-of depth t d (head_items.Use k) s n = self own s n
    steps-item-of depth t d (head_items.SetUse l) s n =
        steps-after own s (asks_variable rs (place_of t at.place) l s) (set_item_step at depth d t l) (steps-asks own rs (place_of t at.place) l s n) (λ b u m. set-item-steps depth d t l b u m)
    steps-item-of depth t d (head_items.Item i) s n = self own s n

    steps-item-step : (depth : ℕ) (d : Taken) (t : Tree) (s : State) → Names own s → Gave (St own s) (item_step rs at depth d t s)
    unfolding item_step
    steps-item-step depth d t s n = steps-after own s (item_plan at depth d t s) (λ p. item_step_of rs at depth t p.0 p.1) (steps-item-plan depth d t s n) (λ p u m. steps-item-of depth t p.0 p.1 u m)

  -- in the same frame
  abbrev pub SettlesAt : BodyAt → State → Taken × PlannedItem → State → Type 0
  SettlesAt at s p u = Steps own s u × (p.1.at.frame ≡ at.frame)

  abbrev Onward : Type 0
  Onward = Taken → KeywordUse → Does (Taken × PlannedItem)

  item-by : (at : BodyAt) (t : Tree) (onward : Onward) (s u : State) → Steps own s u → ((d : Taken) (k : KeywordUse) → Gave (SettlesAt at s) (onward d k u)) → (p : Taken × ItemOrUse) → Gave (SettlesAt at s) (expand_uses.item_by onward at t p u)
  item-by at t onward s u h next (d, item_steps.Item i) = (h, refl)
  item-by at t onward s u h next (d, item_steps.Use k) = next d k

  pub steps-expand_uses-item : (left : ℕ) (at : BodyAt) (mine : at.frame.0.library ≡ own) (depth : ℕ) (d : Taken) (t : Tree) (s : State) → Names own s → Gave (SettlesAt at s) (expand_item_uses_to rs left at depth d t s)
  unfolding expand_item_uses_to
  steps-expand_uses-item zero at mine depth d t s n =
      gave-after (St own s) (SettlesAt at s) (item_step rs at depth d t s) (expand_uses.item_by (λ taken k. too_many t at.place) at t) (steps-item-step at mine depth d t s n)
      (λ p u h. item-by at t (λ taken k. too_many t at.place) s u h (λ e k. tt) p)
  steps-expand_uses-item (suc left) at mine depth d t s n =
      gave-after (St own s) (SettlesAt at s) (item_step rs at depth d t s) (expand_uses.item_by (λ taken k s'. after (next_form rs left at.place t k (Some at.frame) s') (expand_item_uses_to rs left (at_use at t) depth taken)) at t) (steps-item-step at mine depth d t s n)
      (λ p u h. item-by at t (λ taken k s'. after (next_form rs left at.place t k (Some at.frame) s') (expand_item_uses_to rs left (at_use at t) depth taken)) s u h
      (λ e k. gave-after (St own u) (SettlesAt at s) (next_form rs left at.place t k (Some at.frame) u) (expand_item_uses_to rs left (at_use at t) depth e) (steps-next own rs left at.place t k (Some at.frame) u h.next)
      (λ x v j. gave-less (SettlesAt (at_use at t) v) (SettlesAt at s) (expand_item_uses_to rs left (at_use at t) depth e x v) (steps-expand_uses-item left (at_use at t) mine depth e x v j.next)
      (λ y w m. (steps-then own s v w (steps-then own s u v h j) m.0, m.1)))) p)
