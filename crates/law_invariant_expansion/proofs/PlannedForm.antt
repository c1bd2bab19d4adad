-- The uses in forms and items are expanded, forms and items are done with, and what lies inside forms keeps an invariant.
use Rattle.std.proofs.Common.{ℕ, zero, suc, Bool, true, false, List, Option, None, Some}
use Rattle.std.specs.Prelude.{nat_lt}
use Rattle.base_data.proofs.ElementLemmas.{each-and}
use Rattle.base_data.specs.Act.{after, give}
use Rattle.base_data.specs.declared.name.FrameNo.{FrameNo}
use Rattle.base_data.specs.declared.name.Label.{Label}
use Rattle.base_data.specs.declared.span.Span.{Span}
use Rattle.stx_tree.specs.Tree.{Tree}
use Rattle.core_language.specs.declared.record.CompiledLibrary.{CompiledLibrary}
use Rattle.core_shapes.specs.At.{place_of}
use Rattle.core_shapes.specs.declared.shape.BindingSpec.{BindingSpec}
use Rattle.expand_standing.specs.State.{State}
use Rattle.expand_standing.specs.Uses.{asks_variable}
use Rattle.expand_heads.specs.declared.item.HeadItem.{HeadItem}
use Rattle.expand_heads.specs.declared.item.HeadItem.TheVariants as head_items
use Rattle.expand_heads.specs.declared.plan.HeadPlan.{HeadPlan}
use Rattle.expand_heads.specs.declared.plan.HeadPlan.TheVariants as head_plans
use Rattle.expand_heads.specs.Depth.{deeper, most_round}
use Rattle.expand_heads.specs.Items.{waiting_at, define_keyword, item_plan}
use Rattle.expand_heads.specs.Plan.{plan_of}
use Rattle.expand_heads.specs.declared.item.Item.{Item}
use Rattle.expand_heads.specs.declared.item.Item.TheVariants as items
use Rattle.expand_heads.specs.declared.plan.KeywordUse.{KeywordUse}
use Rattle.expand_heads.specs.declared.plan.KeywordUse.TheVariants as keyword_use
use Rattle.expand_heads.specs.declared.plan.Plan.{Plan}
use Rattle.expand_heads.specs.declared.plan.Plan.TheVariants as plans
use Rattle.expand_heads.specs.declared.taken.BodyAt.{BodyAt}
use Rattle.expand_heads.specs.declared.taken.Taken.{Taken}
use Rattle.expand_heads.specs.declared.taken.Waits.TheVariants as waits
use Rattle.expand_forms.specs.Body.{splice, perform_item, item}
use Rattle.expand_forms.specs.Body as expand_body
use Rattle.expand_forms.specs.Expression.{perform, perform_settled, form_at, inside}
use Rattle.expand_forms.specs.Inside.{Inside}
use Rattle.expand_forms.specs.Keywords.{expand_transformer, with_keywords, define_syntax}
use Rattle.expand_forms.specs.ExpandUses.{used_form, next_form, too_many, set_step, step_of, step, planned_by, expand_uses_to, expand_uses, at_use, set_item_step, item_step_of, item_step, item_by, expand_item_uses_to, expand_item_uses}
use Rattle.expand_forms.specs.declared.expand_uses.ItemOrUse.{ItemOrUse}
use Rattle.expand_forms.specs.declared.expand_uses.ItemOrUse.TheVariants as item_steps
use Rattle.expand_forms.specs.declared.expand_uses.PlannedForm.{PlannedForm}
use Rattle.expand_forms.specs.declared.expand_uses.PlannedItem.{PlannedItem}
use Rattle.expand_forms.specs.declared.expand_uses.PlanOrUse.{PlanOrUse}
use Rattle.expand_forms.specs.declared.expand_uses.PlanOrUse.TheVariants as steps
use Rattle.expand_forms.specs.Site.{site_at}
use Rattle.expand_forms.specs.Forms.{definition_parts, let_syntax_parts}
use Rattle.expand_forms.proofs.Linked.{linked-keeps}
use Rattle.law_invariants.specs.Stages.{RecordsHold}
use Rattle.law_invariant_expansion.proofs.Forms.{Keeps, splice-holds, case-holds, lambda-holds, case-lambda-holds, letrec-holds, application-holds, conditional-holds, set-holds, in-sequence-holds, syntax-case-holds, keyword-holds, with-keywords-holds, keywords-form-holds}
use Rattle.law_invariant_expansion.proofs.Inserts.{quasi-form-holds}
use Rattle.law_invariant_expansion.proofs.Items.{WaitingAt, TakenAt, ItemAt, HeadItemAt, BothAt, define-keyword-holds, item-plan-holds}
use Rattle.law_invariant_expansion.proofs.Plans.{PlanAt, HeadAt, plan-holds}
use Rattle.law_invariant_expansion.proofs.Standing.{F, Ts, C, state-links, Gave, gave-after, gave-if, SpecAt, BoundHolds, asks-variable-holds, use-keyword-holds, use-record-holds}
use Rattle.law_invariants.specs.Invariant.{Invariant}
use Rattle.law_invariant_expansion.specs.Kept.{IsKeptByExpansion}

module _ (I : Invariant) (kept : IsKeptByExpansion I) where
  abbrev Any : {A : Type 0} → A → Type 0
  Any x = Unit {0}

  module _ (rs : List CompiledLibrary) (records : RecordsHold I rs) where
    -- Uses.

    used-form-holds : (place : Span) (t : Tree) (k : KeywordUse) (frame : Option FrameNo) (s : State) → F I kept s → I.trees t → Gave I kept I.trees (used_form rs place t k frame s)
    used-form-holds place t (keyword_use.Macro l) frame s h g = use-keyword-holds I kept rs records place t l frame s h g
    used-form-holds place t (keyword_use.Record f) frame s h g = use-record-holds I kept place t f frame s h g

    pub next-form-holds : (left : ℕ) (place : Span) (t : Tree) (k : KeywordUse) (frame : Option FrameNo) (s : State) → F I kept s → I.trees t → Gave I kept I.trees (next_form rs left place t k frame s)
    unfolding next_form
    next-form-holds left place t k frame s h g =
        let u : State = record s { uses_left = left } in
        let i = h in
        (used-form-holds (place_of t place) t k frame u (record { stage = h.stage; bindings = h.bindings }) g)

    -- Expressions.

    abbrev StepAt : PlanOrUse → Type 0
    StepAt (steps.Plan p) = PlanAt I kept p
    StepAt (steps.Use k) = Unit {0}

    set-step-holds : (place : Span) (t : Tree) (l : Label) (id : Tree) (b : Bool) (s : State) → F I kept s → Gave I kept StepAt (set_step place t l id b s)
    set-step-holds place t l id true s h = (h, tt)
    set-step-holds place t l id false s h = tt

    step-of-holds : (place : Span) (t : Tree) (p : HeadPlan) (s : State) → F I kept s → HeadAt I kept p → Gave I kept StepAt (step_of rs place t p s)
    step-of-holds place t (head_plans.Use k) s h g = (h, tt)
    step-of-holds place t (head_plans.SetUse l id) s h g = gave-after I kept Any StepAt (asks_variable rs (place_of t place) l s) (set_step place t l id) (asks-variable-holds I kept rs records (place_of t place) l s h) (λ b u i y. set-step-holds place t l id b u i)
    step-of-holds place t (head_plans.Plan p) s h g = (h, g)

    step-holds : (place : Span) (level : ℕ) (t : Tree) (s : State) → F I kept s → I.trees t → Gave I kept StepAt (step rs place level t s)
    unfolding step
    step-holds place level t s h g = gave-after I kept (HeadAt I kept) StepAt (plan_of place level t s) (step_of rs place t) (plan-holds I kept place level s h t g) (λ p u i y. step-of-holds place t p u i y)

    abbrev pub SettledAt : PlannedForm → Type 0
    SettledAt d = I.trees d.form × PlanAt I kept d.plan

    expand_uses-to-holds : (left : ℕ) (place : Span) (level : ℕ) (t : Tree) (s : State) → F I kept s → I.trees t → Gave I kept SettledAt (expand_uses_to rs left place level t s)
    unfolding expand_uses_to
    expand_uses-to-holds zero place level t s h g = gave-after I kept StepAt SettledAt (step rs place level t s) (planned_by (λ k. too_many t place) place t) (step-holds place level t s h g) by
      where
        by : (x : PlanOrUse) (u : State) → F I kept u → StepAt x → Gave I kept SettledAt (planned_by (λ k. too_many t place) place t x u)
        by (steps.Plan p) u i y = linked-keeps (λ v. F I kept v × SettledAt (record { place = place; form = t; plan = p })) t u (λ ls. (state-links I kept u ls i, (g, y))) p
        by (steps.Use k) u i y = tt
    expand_uses-to-holds (suc left) place level t s h g =
        gave-after I kept StepAt SettledAt (step rs place level t s) (planned_by (λ k s'. after (next_form rs left place t k None s') (expand_uses_to rs left (place_of t place) level)) place t) (step-holds place level t s h g)
        (λ x u i y. by x u i y (λ v w j z. expand_uses-to-holds left (place_of t place) level v w j z))
      where
        by : (x : PlanOrUse) (u : State) → F I kept u → StepAt x → ((v : Tree) (w : State) → F I kept w → I.trees v → Gave I kept SettledAt (expand_uses_to rs left (place_of t place) level v w))
            → Gave I kept SettledAt (planned_by (λ k s'. after (next_form rs left place t k None s') (expand_uses_to rs left (place_of t place) level)) place t x u)
        by (steps.Plan p) u i y again = linked-keeps (λ v. F I kept v × SettledAt (record { place = place; form = t; plan = p })) t u (λ ls. (state-links I kept u ls i, (g, y))) p
        by (steps.Use k) u i y again =
            let hu = i in
            gave-after I kept I.trees SettledAt (next_form rs left place t k None u) (expand_uses_to rs left (place_of t place) level) (next-form-holds left place t k None u hu g)
            (λ v w j z. again v w j z)

    -- Forms of a body.

    abbrev ItemStepAt : Taken × ItemOrUse → Type 0
    ItemStepAt (d, item_steps.Item i) = TakenAt I kept d × ItemAt I kept i
    ItemStepAt (d, item_steps.Use k) = TakenAt I kept d

    set-item-holds : (at : BodyAt) (depth : ℕ) (d : Taken) (t : Tree) (l : Label) (b : Bool) (s : State) → F I kept s → TakenAt I kept d → I.trees t → Gave I kept ItemStepAt (set_item_step at depth d t l b s)
    set-item-holds at depth d t l true s h k g = (h, k)
    set-item-holds at depth d t l false s h k g = (h, (each-and (WaitingAt I kept) d.waiting (waiting_at at depth (waits.Expression t)) k g, tt))

    item-step-of-holds : (at : BodyAt) (depth : ℕ) (t : Tree) (d : Taken) (i : HeadItem) (s : State) → F I kept s → TakenAt I kept d → I.trees t → HeadItemAt I kept i → Gave I kept ItemStepAt (item_step_of rs at depth t d i s)
    item-step-of-holds at depth t d (head_items.Use k) s h j g y = (h, j)
    item-step-of-holds at depth t d (head_items.SetUse l) s h j g y =
        gave-after I kept Any ItemStepAt (asks_variable rs (place_of t at.place) l s) (set_item_step at depth d t l) (asks-variable-holds I kept rs records (place_of t at.place) l s h)
        (λ b u i z. set-item-holds at depth d t l b u i j g)
    item-step-of-holds at depth t d (head_items.Item i) s h j g y = (h, (j, y))

    item-step-holds : (at : BodyAt) (depth : ℕ) (d : Taken) (t : Tree) (s : State) → F I kept s → TakenAt I kept d → I.trees t → Gave I kept ItemStepAt (item_step rs at depth d t s)
    unfolding item_step
    item-step-holds at depth d t s h k g =
        gave-after I kept (BothAt I kept) ItemStepAt (item_plan at depth d t s) (λ p. item_step_of rs at depth t p.0 p.1) (item-plan-holds I kept at depth d t s h k g)
        (λ p u i y. item-step-of-holds at depth t p.0 p.1 u i y.0 g y.1)

    abbrev pub SettledItemAt : Taken × PlannedItem → Type 0
    SettledItemAt p = TakenAt I kept p.0 × (I.trees p.1.form × ItemAt I kept p.1.item)

    expand_uses-item-to-holds : (left : ℕ) (at : BodyAt) (depth : ℕ) (d : Taken) (t : Tree) (s : State) → F I kept s → TakenAt I kept d → I.trees t → Gave I kept SettledItemAt (expand_item_uses_to rs left at depth d t s)
    unfolding expand_item_uses_to
    expand_uses-item-to-holds zero at depth d t s h k g = gave-after I kept ItemStepAt SettledItemAt (item_step rs at depth d t s) (item_by (λ done k. too_many t at.place) at t) (item-step-holds at depth d t s h k g) by
      where
        by : (p : Taken × ItemOrUse) (u : State) → F I kept u → ItemStepAt p → Gave I kept SettledItemAt (item_by (λ done k. too_many t at.place) at t p u)
        by (e, item_steps.Item i) u j y = (j, (y.0, (g, y.1)))
        by (e, item_steps.Use l) u j y = tt
    expand_uses-item-to-holds (suc left) at depth d t s h k g =
        gave-after I kept ItemStepAt SettledItemAt (item_step rs at depth d t s) (item_by (λ taken l s'. after (next_form rs left at.place t l (Some at.frame) s') (expand_item_uses_to rs left (at_use at t) depth taken)) at t) (item-step-holds at depth d t s h k g)
        (λ p u i y. by p u i y (λ e v w j x z. expand_uses-item-to-holds left (at_use at t) depth e v w j x z))
      where
        by : (p : Taken × ItemOrUse) (u : State) → F I kept u → ItemStepAt p
            → ((e : Taken) (v : Tree) (w : State) → F I kept w → TakenAt I kept e → I.trees v → Gave I kept SettledItemAt (expand_item_uses_to rs left (at_use at t) depth e v w))
            → Gave I kept SettledItemAt (item_by (λ taken l s'. after (next_form rs left at.place t l (Some at.frame) s') (expand_item_uses_to rs left (at_use at t) depth taken)) at t p u)
        by (e, item_steps.Item i) u j y again = (j, (y.0, (g, y.1)))
        by (e, item_steps.Use l) u j y again =
            let hu = j in
            gave-after I kept I.trees SettledItemAt (next_form rs left at.place t l (Some at.frame) u) (expand_item_uses_to rs left (at_use at t) depth e) (next-form-holds left at.place t l (Some at.frame) u hu g)
            (λ v w x z. again e v w x y z)

  -- What is done with a form.

  module _ (go : Inside) (keeps : Keeps I kept go) where
    perform-holds : (place : Span) (level depth : ℕ) (t : Tree) (p : Plan) (s : State) → F I kept s → I.trees t → PlanAt I kept p → Gave I kept (C I kept) (perform go (site_at place level depth) t p s)
    unfolding perform
    perform-holds place level depth t (plans.Done c) s h g k = (h, k)
    perform-holds place level depth t (plans.Call operator operands) s h g k = application-holds I kept go keeps place level (deeper depth) operator operands s h k.0 k.1
    perform-holds place level depth t (plans.Conditional test consequent other) s h g k = conditional-holds I kept go keeps place level (deeper depth) test consequent other s h k.0 k.1.0 k.1.1
    perform-holds place level depth t (plans.Assignment l value) s h g k = set-holds I kept go keeps place level (deeper depth) l value s h k
    perform-holds place level depth t (plans.Sequence forms) s h g k = in-sequence-holds I kept go keeps place level (deeper depth) forms s h k
    perform-holds place level depth t (plans.Lambda ids forms) s h g k = lambda-holds I kept go keeps place level (deeper depth) t ids forms s h k.0 k.1
    perform-holds place level depth t (plans.CaseLambda cs) s h g k = case-lambda-holds I kept go keeps place level (deeper depth) t cs s h k
    perform-holds place level depth t (plans.Letrec star bs forms) s h g k = letrec-holds I kept go keeps place level (deeper depth) t star bs forms s h k.0 k.1
    perform-holds place level depth t (plans.Matching subject literals cs span) s h g k = syntax-case-holds I kept go keeps place level (deeper depth) subject literals cs span s h k.0 k.1.1
    perform-holds place level depth t (plans.Keywords recursive bs forms) s h g k = keywords-form-holds I kept go keeps place level (deeper depth) recursive bs forms s h k.0 k.1
    perform-holds place level depth t (plans.Quasi which template) s h g k = quasi-form-holds I kept place level t go keeps (deeper depth) which template s h g k

    pub form-at-holds : (place : Span) (level depth : ℕ) (t : Tree) (s : State) → F I kept s → I.trees t → Gave I kept (C I kept) (form_at go (site_at place level depth) t s)
    unfolding form_at
    form-at-holds place level depth t s h g =
        gave-if I kept (C I kept) (nat_lt most_round depth) _ (after (expand_uses go.earlier place level t s) (perform_settled go level depth)) tt
        (gave-after I kept (SettledAt go.earlier keeps.records) (C I kept) (expand_uses go.earlier place level t s) (perform_settled go level depth) (expand_uses-to-holds go.earlier keeps.records s.uses_left place level t s h g)
        (λ d u i y. perform-holds d.place level depth d.form d.plan u i y.0 y.1))

    keyword-item-holds : (at : BodyAt) (depth : ℕ) (d : Taken) (t : Tree) (b : BindingSpec) (s : State) → F I kept s → TakenAt I kept d → SpecAt I kept b → Gave I kept (TakenAt I kept) (after (define_syntax go at depth d (definition_parts t b) s) (λ _. give d))
    unfolding define_syntax
    keyword-item-holds at depth d t b s h k g =
        gave-after I kept Any (TakenAt I kept) (after (define_keyword at d t b s) (expand_transformer go (site_at at.place at.level depth))) (λ _. give d)
        (gave-after I kept (BoundHolds I kept) Any (define_keyword at d t b s) (expand_transformer go (site_at at.place at.level depth)) (define-keyword-holds I kept at depth d t b s h g) (λ x u i y. keyword-holds I kept go keeps at.place at.level depth x u i y))
        (λ x u i y. (i, k))

    perform-item-holds : (at : BodyAt) (depth : ℕ) (d : Taken) (t : Tree) (i : Item) (s : State) → F I kept s → TakenAt I kept d → I.trees t → ItemAt I kept i → Gave I kept (TakenAt I kept) (perform_item go at depth d t i s)
    unfolding perform_item
    perform-item-holds at depth d t items.Nothing s h k g y = (h, k)
    perform-item-holds at depth d t (items.Forms forms) s h k g y = splice-holds I kept go keeps at (deeper depth) d forms s h k y
    perform-item-holds at depth d t (items.Keyword b) s h k g y = keyword-item-holds at (deeper depth) d t b s h k y
    perform-item-holds at depth d t (items.Keywords recursive bs forms) s h k g y =
        gave-after I kept (Ts I kept) (TakenAt I kept) (with_keywords go (site_at at.place at.level (deeper depth)) (let_syntax_parts recursive bs forms) s) (splice go at (deeper depth) d) (with-keywords-holds I kept go keeps at.place at.level (deeper depth) recursive bs forms s h y.0 y.1)
        (λ xs u i z. splice-holds I kept go keeps at (deeper depth) d xs u i k z)

    pub item-holds : (at : BodyAt) (depth : ℕ) (d : Taken) (t : Tree) (s : State) → F I kept s → TakenAt I kept d → I.trees t → Gave I kept (TakenAt I kept) (item go at depth d t s)
    unfolding item
    item-holds at depth d t s h k g =
        gave-if I kept (TakenAt I kept) (nat_lt most_round depth) _ (after (expand_item_uses go.earlier at depth d t s) (expand_body.perform_settled go depth)) tt
        (gave-after I kept (SettledItemAt go.earlier keeps.records) (TakenAt I kept) (expand_item_uses go.earlier at depth d t s) (expand_body.perform_settled go depth) (expand_uses-item-to-holds go.earlier keeps.records s.uses_left at depth d t s h k g)
        (λ p u i y. perform-item-holds p.1.at depth p.0 p.1.form p.1.item u i y.0 y.1.0 y.1.1))

  -- So it is inside forms, however deep they nest.
  pub inside-keeps : (rs : List CompiledLibrary) (room : ℕ) → RecordsHold I rs → Keeps I kept (inside rs room)
  unfolding inside
  inside-keeps rs zero r = record {
    records = r;
    form = λ place level depth t s h g. tt;
    procedure = λ place level depth t ids forms s h k g. tt;
    item = λ at depth d t s h k g. tt;
  }
  inside-keeps rs (suc room) r =
      let keeps = inside-keeps rs room r in
      record {
        records = r;
        form = λ place level depth t s h g. form-at-holds (inside rs room) keeps place level depth t s h g;
        procedure = λ place level depth t ids forms s h k g. case-holds I kept (inside rs room) keeps place level depth t ids forms s h k g;
        item = λ at depth d t s h k g. item-holds (inside rs room) keeps at depth d t s h k g;
      }
