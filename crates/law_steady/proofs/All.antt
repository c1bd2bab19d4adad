-- All forms are expanded safely, however deep they may nest.
use Rattle.std.proofs.Common.{ℕ, zero, suc, Bool, true, false, List, None, refl, sym, subst, nat_lt}
use Rattle.std.specs.List.{flat_map}
use Rattle.base_data.specs.Act.{after}
use Rattle.base_data.specs.declared.library.LibName.{LibName}
use Rattle.base_data.specs.declared.name.CodeNo.{CodeNo}
use Rattle.base_data.specs.declared.name.Label.{Label}
use Rattle.base_data.specs.declared.span.Span.{Span}
use Rattle.stx_tree.specs.Tree.{Tree}
use Rattle.core_language.specs.declared.record.CompiledLibrary.{CompiledLibrary}
use Rattle.law_core.specs.Records.{defined}
use Rattle.core_shapes.specs.At.{place_of}
use Rattle.expand_standing.specs.State.{State}
use Rattle.expand_standing.specs.Uses.{asks_variable}
use Rattle.expand_heads.specs.declared.plan.HeadPlan.{HeadPlan}
use Rattle.expand_heads.specs.declared.plan.HeadPlan.TheVariants as head_plans
use Rattle.expand_heads.specs.Depth.{deeper, most_round}
use Rattle.expand_heads.specs.Plan.{plan_of}
use Rattle.expand_heads.specs.declared.plan.Plan.{Plan}
use Rattle.expand_heads.specs.declared.plan.Plan.TheVariants as plans
use Rattle.expand_forms.specs.Expression.{perform, perform_settled, form_at, inside}
use Rattle.expand_forms.specs.Inside.{Inside}
use Rattle.expand_forms.specs.ExpandUses.{next_form, too_many, set_step, step_of, step, planned_by, expand_uses_to, expand_uses}
use Rattle.expand_forms.specs.declared.expand_uses.PlanOrUse.{PlanOrUse}
use Rattle.expand_forms.specs.declared.expand_uses.PlanOrUse.TheVariants as steps
use Rattle.expand_forms.specs.Site.{site_at}
use Rattle.expand_forms.proofs.Linked.{linked-keeps}
use Rattle.law_expand.proofs.Plans.{plan-later}
use Rattle.law_expand.proofs.SparesAll.{inside-spares}
use Rattle.law_stuck.specs.Uses.{Around}
use Rattle.law_steady.proofs.Bodies.{Runs, gives, application-runs, conditional-runs, set-runs, sequence-runs, case-runs, lambda-runs, cases-run, letrec-runs, syntax-case-runs, keywords-form-runs}
use Rattle.law_steady.proofs.Items.{item-goes}
use Rattle.law_steady.proofs.Keywords.{Holds}
use Rattle.law_steady.proofs.OnStage.{asks-go, next-go}
use Rattle.law_steady.proofs.Plans.{plan-light}
use Rattle.law_steady.proofs.Quasi.{quasi-runs}
use Rattle.law_steady.proofs.Sure.{Sure, sure-if}
use Rattle.law_steady.proofs.Safe.{Safe, B, Goes, goes-self, goes-links, goes-light, go}

module _ (own : LibName) (texts : List CodeNo) (rs : List CompiledLibrary) (x : Around own texts rs) where
  abbrev S : State → Type 0
  S = Safe own texts rs

  abbrev Bs : State → Type 0
  Bs = B own texts rs

  abbrev R : {A : Type 0} → State → A → State → Type 0
  R s a u = Goes own texts rs s u

  -- Uses are expanded.

  module _ (level : ℕ) where
    plan-goes : (place : Span) (t : Tree) (s : State) → Bs s → S s → Sure (R s) (plan_of place level t s)
    plan-goes place t s b h = goes-light own texts rs s (plan_of place level t s) b (plan-light own texts rs place level t s h) (plan-later own place level s b.sound.next t)

    set-goes : (place : Span) (t : Tree) (l : Label) (id : Tree) (c : Bool) (s : State) → Bs s → S s → Sure (R s) (set_step place t l id c s)
    set-goes place t l id true s b h = goes-self own texts rs s b h
    set-goes place t l id false s b h = tt

    steps-go : (place : Span) (t : Tree) (p : HeadPlan) (s : State) → Bs s → S s → Sure (R s) (step_of rs place t p s)
    steps-go place t (head_plans.Plan p) s b h = goes-self own texts rs s b h
    steps-go place t (head_plans.Use l) s b h = goes-self own texts rs s b h
    steps-go place t (head_plans.SetUse l id) s b h =
        go own texts rs s (asks_variable rs (place_of t place) l s) (set_step place t l id) (asks-go own texts rs x (place_of t place) l s b h) (λ c u g. set-goes place t l id c u g.onward.0 g.safe)

    step-goes : (place : Span) (t : Tree) (s : State) → Bs s → S s → Sure (R s) (step rs place level t s)
    unfolding step
    step-goes place t s b h = go own texts rs s (plan_of place level t s) (step_of rs place t) (plan-goes place t s b h) (λ p u g. steps-go place t p u g.onward.0 g.safe)

    expand_uses-goes : (left : ℕ) (place : Span) (t : Tree) (s : State) → Bs s → S s → Sure (R s) (expand_uses_to rs left place level t s)
    unfolding expand_uses_to
    expand_uses-goes zero place t s b h = go own texts rs s (step rs place level t s) (planned_by (λ l. too_many t place) place t) (step-goes place t s b h) by
      where
        by : (z : PlanOrUse) (u : State) → Goes own texts rs s u → Sure (R u) (planned_by (λ l. too_many t place) place t z u)
        by (steps.Plan p) u g = linked-keeps (Goes own texts rs u) t u (λ ls. goes-links own texts rs u ls g.onward.0 g.safe) p
        by (steps.Use l) u g = tt
    expand_uses-goes (suc left) place t s b h =
        go own texts rs s (step rs place level t s) (planned_by (λ l s'. after (next_form rs left place t l None s') (expand_uses_to rs left (place_of t place) level)) place t) (step-goes place t s b h)
        (λ z u g. by z u g (λ y v c j. expand_uses-goes left (place_of t place) y v c j))
      where
        by : (z : PlanOrUse) (u : State) → Goes own texts rs s u → ((y : Tree) (v : State) → Bs v → S v → Sure (R v) (expand_uses_to rs left (place_of t place) level y v))
            → Sure (R u) (planned_by (λ l s'. after (next_form rs left place t l None s') (expand_uses_to rs left (place_of t place) level)) place t z u)
        by (steps.Plan p) u g next = linked-keeps (Goes own texts rs u) t u (λ ls. goes-links own texts rs u ls g.onward.0 g.safe) p
        by (steps.Use l) u g next =
            go own texts rs u (next_form rs left place t l None u) (expand_uses_to rs left (place_of t place) level) (next-go own texts rs x left place t l None u g.onward.0 g.safe) (λ y v j. next y v j.onward.0 j.safe)

  -- A form.

  module _ (inner : Inside) (holds : Holds own texts rs inner) where
    performs : (place : Span) (level depth : ℕ) (t : Tree) (p : Plan) → Runs own texts rs x inner holds (perform inner (site_at place level depth) t p)
    unfolding perform
    performs place level depth t (plans.Done c) = gives own texts rs x inner holds c
    performs place level depth t (plans.Call operator operands) = application-runs own texts rs x inner holds place level (deeper depth) operator operands
    performs place level depth t (plans.Conditional test consequent other) = conditional-runs own texts rs x inner holds place level (deeper depth) test consequent other
    performs place level depth t (plans.Assignment l value) = set-runs own texts rs x inner holds place level (deeper depth) l value
    performs place level depth t (plans.Sequence forms) = sequence-runs own texts rs x inner holds place level (deeper depth) forms
    performs place level depth t (plans.Lambda ids forms) = lambda-runs own texts rs x inner holds place level (deeper depth) t ids forms
    performs place level depth t (plans.CaseLambda cs) = cases-run own texts rs x inner holds place level (deeper depth) t cs
    performs place level depth t (plans.Letrec star bs forms) = letrec-runs own texts rs x inner holds place level (deeper depth) t star bs forms
    performs place level depth t (plans.Matching subject literals cs span) = syntax-case-runs own texts rs x inner holds place level (deeper depth) literals subject cs span
    performs place level depth t (plans.Keywords recursive bs forms) = keywords-form-runs own texts rs x inner holds place level (deeper depth) recursive bs forms
    performs place level depth t (plans.Quasi which template) = quasi-runs own texts rs x inner holds place level t (deeper depth) which template

    pub form-goes : (place : Span) (level depth : ℕ) (t : Tree) (s : State) → Bs s → S s → Sure (R s) (form_at inner (site_at place level depth) t s)
    unfolding form_at
    form-goes place level depth t s b h =
        sure-if (R s) (nat_lt most_round depth) _ (after (expand_uses inner.earlier place level t s) (perform_settled inner level depth)) (λ e. tt)
        (λ e. go own texts rs s (expand_uses inner.earlier place level t s) (perform_settled inner level depth)
        (subst (λ (qs : List CompiledLibrary). Sure (R s) (expand_uses qs place level t s)) (sym holds.earlier) (expand_uses-goes level s.uses_left place t s b h))
        (λ d u g. performs d.place level depth d.form d.plan u g.onward.0 g.safe))

  pub inside-holds : (room : ℕ) → Holds own texts rs (inside rs room)
  unfolding inside
  inside-holds zero = record {
    spares = inside-spares own (flat_map defined rs) rs zero;
    earlier = refl;
    form = λ place level depth t s b h. tt;
    procedure = λ place level depth t ids forms s b h. tt;
    item = λ at depth d t s low b h k. tt;
  }
  inside-holds (suc room) =
      let holds = inside-holds room in
      record {
        spares = inside-spares own (flat_map defined rs) rs (suc room);
        earlier = refl;
        form = λ place level depth t s b h. form-goes (inside rs room) holds place level depth t s b h;
        procedure = λ place level depth t ids forms s b h. case-runs own texts rs x (inside rs room) holds place level depth t ids forms s b h;
        item = λ at depth d t s low b h k. item-goes own texts rs x (inside rs room) holds at depth d t s low b h k;
      }
