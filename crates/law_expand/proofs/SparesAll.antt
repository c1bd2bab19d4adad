-- All forms spare the names of keywords, however deep they may nest.
use Rattle.std.proofs.Common.{◌≡◌, ℕ, zero, suc, Bool, true, false, List, None, refl, sym, ap, subst}
use Rattle.std.specs.Prelude.{nat_lt}
use Rattle.base_data.specs.Act.{after}
use Rattle.base_data.specs.declared.library.LibName.{LibName}
use Rattle.base_data.specs.declared.name.Label.{Label}
use Rattle.base_data.specs.declared.span.Span.{Span}
use Rattle.stx_tree.specs.Tree.{Tree}
use Rattle.core_language.specs.Core.{instance}
use Rattle.core_language.specs.declared.record.CompiledLibrary.{CompiledLibrary}
use Rattle.core_language.specs.declared.link.Link.{Link}
use Rattle.core_shapes.specs.At.{place_of}
use Rattle.expand_standing.specs.Patterns.{template_of}
use Rattle.expand_standing.specs.Standing.{standing_of}
use Rattle.expand_standing.specs.State.{State}
use Rattle.expand_standing.specs.Uses.{asks_variable}
use Rattle.expand_standing.specs.declared.standing.Standing.{Standing}
use Rattle.expand_standing.specs.declared.standing.Standing.TheVariants as standing
use Rattle.expand_heads.specs.declared.plan.HeadPlan.{HeadPlan}
use Rattle.expand_heads.specs.declared.plan.HeadPlan.TheVariants as head_plans
use Rattle.expand_heads.specs.Depth.{most_round}
use Rattle.expand_heads.specs.Plan.{done, reference, assign, plan_of}
use Rattle.expand_heads.specs.declared.plan.Plan.{Plan}
use Rattle.expand_heads.specs.declared.plan.Plan.TheVariants as plans
use Rattle.expand_forms.specs.Expression.{perform_settled, form_at, inside}
use Rattle.expand_forms.specs.Inside.{Inside}
use Rattle.expand_forms.specs.ExpandUses.{next_form, too_many, set_step, step_of, step, planned_by, expand_uses_to, expand_uses}
use Rattle.expand_forms.specs.declared.expand_uses.PlannedForm.{PlannedForm}
use Rattle.expand_forms.specs.declared.expand_uses.PlanOrUse.{PlanOrUse}
use Rattle.expand_forms.specs.declared.expand_uses.PlanOrUse.TheVariants as steps
use Rattle.expand_forms.specs.Site.{site_at}
use Rattle.expand_forms.proofs.Linked.{linked-keeps}
use Rattle.law_expand.specs.States.{Later}
use Rattle.law_expand.proofs.Acts.{Gave, gave-after, gave-less, gave-both, gave-if}
use Rattle.law_expand.proofs.Forms.{inside-safe}
use Rattle.law_expand.proofs.Plans.{IsOfForms, IsTemplate, template-is, plan-later, plan-cases}
use Rattle.law_expand.proofs.References.{RefersBy, AssignsBy, Refers, reference-is, assign-is}
use Rattle.law_expand.proofs.Uses.{asks-later, next-later}
use Rattle.law_expand.specs.Kept.{IsGoodState}
use Rattle.law_expand.proofs.Later.{later-links}
use Rattle.law_expand.proofs.Spent.{Onward, Tracks}
use Rattle.law_expand.proofs.SpentOnStage.{Tells, next-told, variable-told}
use Rattle.law_expand.proofs.SpentBinding.{onward-self, onward-then, onward-later}
use Rattle.law_expand.proofs.Spares.{Spares, Gives, goes, C, core-lift}
use Rattle.law_expand.proofs.SparesItems.{spares-item}
use Rattle.law_expand.proofs.SparesForms.{PlanAway, HeadAway, spares-case, spares-perform, same-told}

module _ (own : LibName) (given : List Label) (go : Inside) (spares : Spares own given go) where
  abbrev B : State → Type 0
  B = IsGoodState own given

  abbrev O : State → State → Type 0
  O = Onward own given

  abbrev W : State → Plan → Type 0
  W u p = PlanAway own given go spares u p

  abbrev HW : State → HeadPlan → Type 0
  HW u p = HeadAway own given go spares u p

  module _ (place : Span) (level : ℕ) (s : State) where
    abbrev P : HeadPlan → State → Type 0
    P p u = (u.keywords ≡ s.keywords) × HW u p

    refers-away : (st : Standing) (p : HeadPlan) → RefersBy level s st p → HW s p
    refers-away standing.Nothing p k = elim k [ ]
    refers-away (standing.Variable v) p k = subst (HW s) (sym k.0) (record { labels = tt; codes = (tt, tt) })
    refers-away standing.PatternVariable p k = elim k [ ]
    refers-away (standing.Primitive op) p k = subst (HW s) (sym k) (record { labels = tt; codes = (tt, tt) })
    refers-away (standing.Core f) p k = elim k [ ]
    refers-away (standing.Keyword l) p k = subst (HW s) (sym k) tt

    assigns-away : (id value : Tree) (st : Standing) (p : HeadPlan) (u : State) → AssignsBy place level s id value st p u → P p u
    assigns-away id value standing.Nothing p u k = elim k [ ]
    assigns-away id value (standing.Variable v) p u k = (ap (λ (x : State). x.keywords) k.1.0, subst (HW u) (sym k.0) tt)
    assigns-away id value standing.PatternVariable p u k = elim k [ ]
    assigns-away id value (standing.Primitive op) p u k = elim k [ ]
    assigns-away id value (standing.Core f) p u k = elim k [ ]
    assigns-away id value (standing.Keyword l) p u k = (ap (λ (x : State). x.keywords) k.1, subst (HW u) (sym k.0) tt)

    forms-away : (p : HeadPlan) → IsOfForms p → HW s p
    forms-away (head_plans.Plan (plans.Done c)) h = elim h [ ]
    forms-away (head_plans.Plan (plans.Call operator operands)) h = tt
    forms-away (head_plans.Plan (plans.Conditional test consequent other)) h = tt
    forms-away (head_plans.Plan (plans.Assignment l value)) h = tt
    forms-away (head_plans.Plan (plans.Sequence forms)) h = tt
    forms-away (head_plans.Plan (plans.Lambda ids forms)) h = tt
    forms-away (head_plans.Plan (plans.CaseLambda cs)) h = tt
    forms-away (head_plans.Plan (plans.Letrec star bs forms)) h = tt
    forms-away (head_plans.Plan (plans.Matching subject literals cs span)) h = tt
    forms-away (head_plans.Plan (plans.Keywords recursive bs forms)) h = tt
    forms-away (head_plans.Plan (plans.Quasi which template)) h = tt
    forms-away (head_plans.Use l) h = tt
    forms-away (head_plans.SetUse l id) h = tt

    plan-away : (t : Tree) → Gave P (plan_of place level t s)
    plan-away t = plan-cases P place level s (λ d. (refl, record { labels = tt; codes = (tt, tt) }))
        (λ id. gave-less (Refers place level s (standing_of s id)) P (reference place level id s) (reference-is place level s id) (λ p u k. subst (P p) (sym k.0) (refl, refers-away (standing_of s id) p k.1)))
        (λ x id value. gave-less (AssignsBy place level s id value (standing_of s id)) P (assign place level x id value s) (assign-is place level s x id value) (λ p u k. assigns-away id value (standing_of s id) p u k))
        (λ x operand. gave-after (IsTemplate place level operand s) P (template_of place level operand s) (λ y. done (instance y (place_of x place))) (template-is place level operand s) (λ y u k. (ap (λ (z : State). z.keywords) k.same, record { labels = tt; codes = (tt, tt) })))
        (λ p h. (refl, forms-away p h)) t

  plan-goes : (place : Span) (level : ℕ) (t : Tree) (s : State) → B s → Gave (Gives own given HW s) (plan_of place level t s)
  plan-goes place level t s b =
      gave-less (λ p u. Later own s u × P place level s p u) (Gives own given HW s) (plan_of place level t s)
      (gave-both (λ p u. Later own s u) (P place level s) (plan_of place level t s) (plan-later own place level s b.sound.next t) (plan-away place level s t))
      (λ p u k. (onward-later own given s u k.0 (same-told own given s u k.1.0) b, k.1.1))

  -- Uses are expanded.

  module _ (rs : List CompiledLibrary) (level : ℕ) where
    abbrev StepAway : State → PlanOrUse → Type 0
    StepAway u (steps.Plan p) = W u p
    StepAway u (steps.Use l) = Unit {0}

    set-spares : (place : Span) (t : Tree) (l : Label) (id : Tree) (b : Bool) (s : State) → B s → Gave (Gives own given StepAway s) (set_step place t l id b s)
    set-spares place t l id true s b = (onward-self own given s b, tt)
    set-spares place t l id false s b = tt

    steps-spare : (place : Span) (t : Tree) (p : HeadPlan) (s : State) → B s → HW s p → Gave (Gives own given StepAway s) (step_of rs place t p s)
    steps-spare place t (head_plans.Plan p) s b k = (onward-self own given s b, k)
    steps-spare place t (head_plans.Use l) s b k = (onward-self own given s b, tt)
    steps-spare place t (head_plans.SetUse l id) s b k =
        gave-after (λ x u. Later own s u × Tells s.keywords u.keywords) (Gives own given StepAway s) (asks_variable rs (place_of t place) l s) (set_step place t l id)
        (gave-both (λ x u. Later own s u) (λ x u. Tells s.keywords u.keywords) (asks_variable rs (place_of t place) l s) (asks-later own rs (place_of t place) l s b.sound.next) (variable-told rs (place_of t place) l s))
        (λ x u j. let o = onward-later own given s u j.0 j.1 b in
        gave-less (Gives own given StepAway u) (Gives own given StepAway s) (set_step place t l id x u) (set-spares place t l id x u o.0) (λ y v g. (onward-then own given s u v o g.0, g.1)))

    step-spares : (place : Span) (t : Tree) (s : State) → B s → Gave (Gives own given StepAway s) (step rs place level t s)
    unfolding step
    step-spares place t s b = goes own given HW StepAway s (plan_of place level t s) (step_of rs place t) (plan-goes place level t s b) (λ p u o w. steps-spare place t p u o.0 w)

    abbrev SettledAway : State → PlannedForm → Type 0
    SettledAway u d = W u d.plan

    plan-lift : (t u : State) (p : Plan) → Tracks own t u → W t p → W u p
    plan-lift t u (plans.Done c) k w = core-lift own given t u c k w
    plan-lift t u (plans.Call operator operands) k w = tt
    plan-lift t u (plans.Conditional test consequent other) k w = tt
    plan-lift t u (plans.Assignment l value) k w = tt
    plan-lift t u (plans.Sequence forms) k w = tt
    plan-lift t u (plans.Lambda ids forms) k w = tt
    plan-lift t u (plans.CaseLambda cs) k w = tt
    plan-lift t u (plans.Letrec star bs forms) k w = tt
    plan-lift t u (plans.Matching subject literals cs span) k w = tt
    plan-lift t u (plans.Keywords recursive bs forms) k w = tt
    plan-lift t u (plans.Quasi which template) k w = tt

    -- links are no part of what is spared
    links-spare : (u : State) (ls : List Link) (p : Plan) → B u → W u p → O u (record u { links = ls }) × W (record u { links = ls }) p
    links-spare u ls p b w =
        let o = onward-later own given u (record u { links = ls }) (later-links own u ls b.sound.next) (λ l c e. e) b in
        (o, plan-lift u (record u { links = ls }) p o.1 w)

    expand_uses-spares : (left : ℕ) (place : Span) (t : Tree) (s : State) → B s → Gave (Gives own given SettledAway s) (expand_uses_to rs left place level t s)
    unfolding expand_uses_to
    expand_uses-spares zero place t s b = goes own given StepAway SettledAway s (step rs place level t s) (planned_by (λ l. too_many t place) place t) (step-spares place t s b) by
      where
        by : (x : PlanOrUse) (u : State) → O s u → StepAway u x → Gave (Gives own given SettledAway u) (planned_by (λ l. too_many t place) place t x u)
        by (steps.Plan p) u o w = linked-keeps (λ v. Gives own given SettledAway u (record { place = place; form = t; plan = p }) v) t u (λ ls. links-spare u ls p o.0 w) p
        by (steps.Use l) u o w = tt
    expand_uses-spares (suc left) place t s b =
        goes own given StepAway SettledAway s (step rs place level t s) (planned_by (λ l s'. after (next_form rs left place t l None s') (expand_uses_to rs left (place_of t place) level)) place t) (step-spares place t s b)
        (λ x u o w. by x u o w (λ y v j. expand_uses-spares left (place_of t place) y v j))
      where
        by : (x : PlanOrUse) (u : State) → O s u → StepAway u x → ((y : Tree) (v : State) → B v → Gave (Gives own given SettledAway v) (expand_uses_to rs left (place_of t place) level y v))
            → Gave (Gives own given SettledAway u) (planned_by (λ l s'. after (next_form rs left place t l None s') (expand_uses_to rs left (place_of t place) level)) place t x u)
        by (steps.Plan p) u o w next = linked-keeps (λ v. Gives own given SettledAway u (record { place = place; form = t; plan = p }) v) t u (λ ls. links-spare u ls p o.0 w) p
        by (steps.Use l) u o w next =
            gave-after (λ y v. Later own u v × Tells u.keywords v.keywords) (Gives own given SettledAway u) (next_form rs left place t l None u) (expand_uses_to rs left (place_of t place) level)
            (gave-both (λ y v. Later own u v) (λ y v. Tells u.keywords v.keywords) (next_form rs left place t l None u) (next-later own rs left place t l None u o.0.sound.next) (next-told rs left place t l None u))
            (λ y v j. let n = onward-later own given u v j.0 j.1 o.0 in
            gave-less (Gives own given SettledAway v) (Gives own given SettledAway u) (expand_uses_to rs left (place_of t place) level y v) (next y v n.0) (λ d z g. (onward-then own given u v z n g.0, g.1)))

  -- A form.

  pub spares-form : (place : Span) (level depth : ℕ) (t : Tree) (s : State) → B s → Gave (Gives own given (C own given) s) (form_at go (site_at place level depth) t s)
  unfolding form_at
  spares-form place level depth t s b =
      gave-if (Gives own given (C own given) s) (nat_lt most_round depth) _ (after (expand_uses go.earlier place level t s) (perform_settled go level depth)) (λ e. tt)
      (λ e. goes own given (SettledAway go.earlier level) (C own given) s (expand_uses go.earlier place level t s) (perform_settled go level depth) (expand_uses-spares go.earlier level s.uses_left place t s b)
      (λ d u o w. spares-perform own given go spares d.place level depth d.form d.plan u o.0 w))

-- So it is inside forms.
pub inside-spares : (own : LibName) (given : List Label) (rs : List CompiledLibrary) (room : ℕ) → Spares own given (inside rs room)
unfolding inside
inside-spares own given rs zero = record {
  safe = inside-safe own given rs zero;
  form = λ place level depth t s b. tt;
  procedure = λ place level depth t ids forms s b. tt;
  item = λ at depth d t s low b k. tt;
}
inside-spares own given rs (suc room) =
    let spares = inside-spares own given rs room in
    record {
      safe = inside-safe own given rs (suc room);
      form = λ place level depth t s b. spares-form own given (inside rs room) spares place level depth t s b;
      procedure = λ place level depth t ids forms s b. spares-case own given (inside rs room) spares place level depth t ids forms s b;
      item = λ at depth d t s low b k. spares-item own given (inside rs room) spares at depth d t s low b k;
    }
