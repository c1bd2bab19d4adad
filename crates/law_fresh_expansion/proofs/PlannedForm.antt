-- Uses in forms are expanded, and all forms keep that all in the state of an expansion may be met.
use Rattle.std.proofs.Common.{ℕ, zero, suc, Bool, true, false, List, Option, None, Some, arith}
use Rattle.std.specs.Prelude.{nat_lt}
use Rattle.base_data.proofs.ElementLemmas.{each-and}
use Rattle.base_data.specs.Act.{after, give}
use Rattle.base_data.specs.declared.library.LibName.{LibName}
use Rattle.base_data.specs.declared.name.FrameNo.{FrameNo}
use Rattle.base_data.specs.declared.name.Label.{Label}
use Rattle.base_data.specs.declared.name.Mark.{Mark}
use Rattle.base_data.specs.declared.span.Span.{Span}
use Rattle.stx_tree.specs.Context.{LeafContext}
use Rattle.stx_tree.specs.Tree.{Tree}
use Rattle.core_language.specs.declared.record.CompiledLibrary.{CompiledLibrary}
use Rattle.core_shapes.specs.At.{place_of}
use Rattle.core_shapes.specs.declared.shape.BindingSpec.{BindingSpec}
use Rattle.expand_standing.specs.State.{State}
use Rattle.expand_standing.specs.Uses.{asks_variable}
use Rattle.expand_heads.specs.declared.item.HeadItem.{HeadItem}
use Rattle.expand_heads.specs.declared.item.HeadItem.TheVariants as head_items
use Rattle.expand_heads.specs.declared.plan.HeadPlan.{HeadPlan}
use Rattle.expand_heads.specs.declared.plan.HeadPlan.TheVariants as head_plans
use Rattle.expand_heads.specs.Depth.{deeper, most_round}
use Rattle.expand_heads.specs.Items.{waiting_at, define_keyword, item_plan}
use Rattle.expand_heads.specs.Plan.{plan_of}
use Rattle.expand_heads.specs.declared.item.Item.{Item}
use Rattle.expand_heads.specs.declared.item.Item.TheVariants as items
use Rattle.expand_heads.specs.declared.plan.KeywordUse.{KeywordUse}
use Rattle.expand_heads.specs.declared.plan.KeywordUse.TheVariants as keyword_use
use Rattle.expand_heads.specs.declared.plan.Plan.{Plan}
use Rattle.expand_heads.specs.declared.plan.Plan.TheVariants as plans
use Rattle.expand_heads.specs.declared.taken.BodyAt.{BodyAt}
use Rattle.expand_heads.specs.declared.taken.Taken.{Taken}
use Rattle.expand_heads.specs.declared.taken.Waits.TheVariants as waits
use Rattle.expand_forms.specs.Body.{splice, perform_item, item}
use Rattle.expand_forms.specs.Body as expand_body
use Rattle.expand_forms.specs.Expression.{perform, perform_settled, form_at, inside}
use Rattle.expand_forms.specs.Inside.{Inside}
use Rattle.expand_forms.specs.Keywords.{expand_transformer, with_keywords, define_syntax}
use Rattle.expand_forms.specs.ExpandUses.{used_form, next_form, too_many, set_step, step_of, step, planned_by, expand_uses_to, expand_uses, at_use, set_item_step, item_step_of, item_step, item_by, expand_item_uses_to, expand_item_uses}
use Rattle.expand_forms.specs.declared.expand_uses.ItemOrUse.{ItemOrUse}
use Rattle.expand_forms.specs.declared.expand_uses.ItemOrUse.TheVariants as item_steps
use Rattle.expand_forms.specs.declared.expand_uses.PlannedForm.{PlannedForm}
use Rattle.expand_forms.specs.declared.expand_uses.PlannedItem.{PlannedItem}
use Rattle.expand_forms.specs.declared.expand_uses.PlanOrUse.{PlanOrUse}
use Rattle.expand_forms.specs.declared.expand_uses.PlanOrUse.TheVariants as steps
use Rattle.expand_forms.specs.Site.{site_at}
use Rattle.expand_forms.specs.Forms.{definition_parts, let_syntax_parts}
use Rattle.expand_forms.proofs.Linked.{linked-keeps}
use Rattle.law_fresh.specs.Leaves.{OptionHolds}
use Rattle.law_fresh_expansion.specs.Living.{Lives}
use Rattle.law_fresh_expansion.specs.States.{RecordsHold}
use Rattle.law_fresh_expansion.proofs.Forms.{KeepsFresh, splice-holds, case-holds, lambda-holds, case-lambda-holds, letrec-holds, application-holds, conditional-holds, set-holds, in-sequence-holds, syntax-case-holds, keyword-holds, with-keywords-holds, keywords-form-holds}
use Rattle.law_fresh_expansion.proofs.Inserts.{quasi-form-holds}
use Rattle.law_fresh_expansion.proofs.Items.{WaitingAt, TakenAt, ItemAt, HeadItemAt, BothAt, taken-up, define-keyword-holds, item-plan-holds}
use Rattle.law_fresh_expansion.proofs.Plans.{PlanAt, HeadAt, plan-holds}
use Rattle.law_fresh_expansion.proofs.Standing.{F, From, T, Ts, C, tree-up, state-self, state-links, state-then, Gave, gave-from, gave-after, gave-if, SpecAt, BoundHolds, asks-variable-holds, use-keyword-holds, use-record-holds}

module _ (own : LibName) (K : ℕ → Mark → Type 0) (J : ℕ → FrameNo → Type 0) (P : ℕ → LeafContext → Type 0) (lives : Lives own K J P) (first : ℕ) where
  abbrev Any : {A : Type 0} → ℕ → A → Type 0
  Any n x = Unit {0}

  module _ (rs : List CompiledLibrary) (records : RecordsHold (P first) rs) where
    -- Uses.

    used-form-holds : (place : Span) (t : Tree) (k : KeywordUse) (frame : Option FrameNo) (s : State) → (F own K J P lives first) s → (T own K J P lives first) s.names.number t → OptionHolds (J s.names.number) frame → (Gave own K J P lives first) (T own K J P lives first) s (used_form rs place t k frame s)
    used-form-holds place t (keyword_use.Macro l) frame s h g q = (use-keyword-holds own K J P lives first) rs records place t l frame s h g q
    used-form-holds place t (keyword_use.Record f) frame s h g q = (use-record-holds own K J P lives first) place t f frame s h g q

    pub next-form-holds : (left : ℕ) (place : Span) (t : Tree) (k : KeywordUse) (frame : Option FrameNo) (s : State) → (F own K J P lives first) s → (T own K J P lives first) s.names.number t → OptionHolds (J s.names.number) frame → (Gave own K J P lives first) (T own K J P lives first) s (next_form rs left place t k frame s)
    unfolding next_form
    next-form-holds left place t k frame s h g q =
        let u : State = record s { uses_left = left } in
        let i = (state-self own K J P lives first) s h in
        (gave-from own K J P lives first) (T own K J P lives first) s u (used_form rs (place_of t place) t k frame u) (record { stage = i.stage; bindings = i.bindings }) (used-form-holds (place_of t place) t k frame u (record { stage = h.stage; bindings = h.bindings }) g q)

    -- Expressions.

    abbrev StepAt : ℕ → PlanOrUse → Type 0
    StepAt n (steps.Plan p) = (PlanAt own K J P lives first) n p
    StepAt n (steps.Use k) = Unit {0}

    set-step-holds : (place : Span) (t : Tree) (l : Label) (id : Tree) (b : Bool) (s : State) → (F own K J P lives first) s → (Gave own K J P lives first) StepAt s (set_step place t l id b s)
    set-step-holds place t l id true s h = ((state-self own K J P lives first) s h, tt)
    set-step-holds place t l id false s h = tt

    step-of-holds : (place : Span) (t : Tree) (p : HeadPlan) (s : State) → (F own K J P lives first) s → (HeadAt own K J P lives first) s.names.number p → (Gave own K J P lives first) StepAt s (step_of rs place t p s)
    step-of-holds place t (head_plans.Use k) s h g = ((state-self own K J P lives first) s h, tt)
    step-of-holds place t (head_plans.SetUse l id) s h g = (gave-after own K J P lives first) Any StepAt s (asks_variable rs (place_of t place) l s) (set_step place t l id) ((asks-variable-holds own K J P lives first) rs records (place_of t place) l s h) (λ b u i y. set-step-holds place t l id b u ((state-then own K J P lives first) s u h i))
    step-of-holds place t (head_plans.Plan p) s h g = ((state-self own K J P lives first) s h, g)

    step-holds : (place : Span) (level : ℕ) (t : Tree) (s : State) → (F own K J P lives first) s → (T own K J P lives first) s.names.number t → (Gave own K J P lives first) StepAt s (step rs place level t s)
    unfolding step
    step-holds place level t s h g = (gave-after own K J P lives first) (HeadAt own K J P lives first) StepAt s (plan_of place level t s) (step_of rs place t) ((plan-holds own K J P lives first) place level s h t g) (λ p u i y. step-of-holds place t p u ((state-then own K J P lives first) s u h i) y)

    abbrev pub SettledAt : ℕ → PlannedForm → Type 0
    SettledAt n d = (T own K J P lives first) n d.form × (PlanAt own K J P lives first) n d.plan

    pub expand_uses-to-holds : (left : ℕ) (place : Span) (level : ℕ) (t : Tree) (s : State) → (F own K J P lives first) s → (T own K J P lives first) s.names.number t → (Gave own K J P lives first) SettledAt s (expand_uses_to rs left place level t s)
    unfolding expand_uses_to
    expand_uses-to-holds zero place level t s h g = (gave-after own K J P lives first) StepAt SettledAt s (step rs place level t s) (planned_by (λ k. too_many t place) place t) (step-holds place level t s h g) by
      where
        by : (x : PlanOrUse) (u : State) → (From own K J P lives first) s u → StepAt u.names.number x → (Gave own K J P lives first) SettledAt u (planned_by (λ k. too_many t place) place t x u)
        by (steps.Plan p) u i y = linked-keeps (λ v. (From own K J P lives first) u v × SettledAt v.names.number (record { place = place; form = t; plan = p })) t u
            (λ ls. ((state-links own K J P lives first) u u ls ((state-self own K J P lives first) u ((state-then own K J P lives first) s u h i)), ((tree-up own K J P lives first) s.names.number u.names.number i.stage.up t g, y))) p
        by (steps.Use k) u i y = tt
    expand_uses-to-holds (suc left) place level t s h g =
        (gave-after own K J P lives first) StepAt SettledAt s (step rs place level t s) (planned_by (λ k s'. after (next_form rs left place t k None s') (expand_uses_to rs left (place_of t place) level)) place t) (step-holds place level t s h g)
        (λ x u i y. by x u i y (λ v w j z. expand_uses-to-holds left (place_of t place) level v w j z))
      where
        by : (x : PlanOrUse) (u : State) → (From own K J P lives first) s u → StepAt u.names.number x → ((v : Tree) (w : State) → (F own K J P lives first) w → (T own K J P lives first) w.names.number v → (Gave own K J P lives first) SettledAt w (expand_uses_to rs left (place_of t place) level v w))
            → (Gave own K J P lives first) SettledAt u (planned_by (λ k s'. after (next_form rs left place t k None s') (expand_uses_to rs left (place_of t place) level)) place t x u)
        by (steps.Plan p) u i y again = linked-keeps (λ v. (From own K J P lives first) u v × SettledAt v.names.number (record { place = place; form = t; plan = p })) t u
            (λ ls. ((state-links own K J P lives first) u u ls ((state-self own K J P lives first) u ((state-then own K J P lives first) s u h i)), ((tree-up own K J P lives first) s.names.number u.names.number i.stage.up t g, y))) p
        by (steps.Use k) u i y again =
            let hu = (state-then own K J P lives first) s u h i in
            (gave-after own K J P lives first) (T own K J P lives first) SettledAt u (next_form rs left place t k None u) (expand_uses_to rs left (place_of t place) level) (next-form-holds left place t k None u hu ((tree-up own K J P lives first) s.names.number u.names.number i.stage.up t g) tt)
            (λ v w j z. again v w ((state-then own K J P lives first) u w hu j) z)

    -- Forms of a body.

    abbrev ItemStepAt : ℕ → Taken × ItemOrUse → Type 0
    ItemStepAt n (d, item_steps.Item i) = (TakenAt own K J P lives first) n d × (ItemAt own K J P lives first) n i
    ItemStepAt n (d, item_steps.Use k) = (TakenAt own K J P lives first) n d

    set-item-holds : (at : BodyAt) (depth : ℕ) (d : Taken) (t : Tree) (l : Label) (b : Bool) (s : State) → (F own K J P lives first) s → (TakenAt own K J P lives first) s.names.number d → (T own K J P lives first) s.names.number t → (Gave own K J P lives first) ItemStepAt s (set_item_step at depth d t l b s)
    set-item-holds at depth d t l true s h k g = ((state-self own K J P lives first) s h, k)
    set-item-holds at depth d t l false s h k g = ((state-self own K J P lives first) s h, (each-and ((WaitingAt own K J P lives first) s.names.number) d.waiting (waiting_at at depth (waits.Expression t)) k g, tt))

    item-step-of-holds : (at : BodyAt) (depth : ℕ) (t : Tree) (d : Taken) (i : HeadItem) (s : State) → (F own K J P lives first) s → (TakenAt own K J P lives first) s.names.number d → (T own K J P lives first) s.names.number t → (HeadItemAt own K J P lives first) s.names.number i → (Gave own K J P lives first) ItemStepAt s (item_step_of rs at depth t d i s)
    item-step-of-holds at depth t d (head_items.Use k) s h j g y = ((state-self own K J P lives first) s h, j)
    item-step-of-holds at depth t d (head_items.SetUse l) s h j g y =
        (gave-after own K J P lives first) Any ItemStepAt s (asks_variable rs (place_of t at.place) l s) (set_item_step at depth d t l) ((asks-variable-holds own K J P lives first) rs records (place_of t at.place) l s h)
        (λ b u i z. set-item-holds at depth d t l b u ((state-then own K J P lives first) s u h i) ((taken-up own K J P lives first) s.names.number u.names.number i.stage.up d j) ((tree-up own K J P lives first) s.names.number u.names.number i.stage.up t g))
    item-step-of-holds at depth t d (head_items.Item i) s h j g y = ((state-self own K J P lives first) s h, (j, y))

    item-step-holds : (at : BodyAt) (depth : ℕ) (d : Taken) (t : Tree) (s : State) → (F own K J P lives first) s → (TakenAt own K J P lives first) s.names.number d → (T own K J P lives first) s.names.number t → (Gave own K J P lives first) ItemStepAt s (item_step rs at depth d t s)
    unfolding item_step
    item-step-holds at depth d t s h k g =
        (gave-after own K J P lives first) (BothAt own K J P lives first) ItemStepAt s (item_plan at depth d t s) (λ p. item_step_of rs at depth t p.0 p.1) ((item-plan-holds own K J P lives first) at depth d t s h k g)
        (λ p u i y. item-step-of-holds at depth t p.0 p.1 u ((state-then own K J P lives first) s u h i) y.0 ((tree-up own K J P lives first) s.names.number u.names.number i.stage.up t g) y.1)

    abbrev pub SettledItemAt : ℕ → Taken × PlannedItem → Type 0
    SettledItemAt n p = (TakenAt own K J P lives first) n p.0 × ((T own K J P lives first) n p.1.form × ((ItemAt own K J P lives first) n p.1.item × J n p.1.at.frame))

    expand_uses-item-to-holds : (left : ℕ) (at : BodyAt) (depth : ℕ) (d : Taken) (t : Tree) (s : State) → (F own K J P lives first) s → (TakenAt own K J P lives first) s.names.number d → (T own K J P lives first) s.names.number t → J s.names.number at.frame → (Gave own K J P lives first) SettledItemAt s (expand_item_uses_to rs left at depth d t s)
    unfolding expand_item_uses_to
    expand_uses-item-to-holds zero at depth d t s h k g q = (gave-after own K J P lives first) ItemStepAt SettledItemAt s (item_step rs at depth d t s) (item_by (λ done k. too_many t at.place) at t) (item-step-holds at depth d t s h k g) by
      where
        by : (p : Taken × ItemOrUse) (u : State) → (From own K J P lives first) s u → ItemStepAt u.names.number p → (Gave own K J P lives first) SettledItemAt u (item_by (λ done k. too_many t at.place) at t p u)
        by (e, item_steps.Item i) u j y = ((state-self own K J P lives first) u ((state-then own K J P lives first) s u h j), (y.0, ((tree-up own K J P lives first) s.names.number u.names.number j.stage.up t g, (y.1, lives.frames s.names.number u.names.number at.frame j.stage.up q))))
        by (e, item_steps.Use l) u j y = tt
    expand_uses-item-to-holds (suc left) at depth d t s h k g q =
        (gave-after own K J P lives first) ItemStepAt SettledItemAt s (item_step rs at depth d t s) (item_by (λ taken l s'. after (next_form rs left at.place t l (Some at.frame) s') (expand_item_uses_to rs left (at_use at t) depth taken)) at t) (item-step-holds at depth d t s h k g)
        (λ p u i y. by p u i y (λ e v w j x z r. expand_uses-item-to-holds left (at_use at t) depth e v w j x z r))
      where
        by : (p : Taken × ItemOrUse) (u : State) → (From own K J P lives first) s u → ItemStepAt u.names.number p
            → ((e : Taken) (v : Tree) (w : State) → (F own K J P lives first) w → (TakenAt own K J P lives first) w.names.number e → (T own K J P lives first) w.names.number v → J w.names.number at.frame → (Gave own K J P lives first) SettledItemAt w (expand_item_uses_to rs left (at_use at t) depth e v w))
            → (Gave own K J P lives first) SettledItemAt u (item_by (λ taken l s'. after (next_form rs left at.place t l (Some at.frame) s') (expand_item_uses_to rs left (at_use at t) depth taken)) at t p u)
        by (e, item_steps.Item i) u j y again = ((state-self own K J P lives first) u ((state-then own K J P lives first) s u h j), (y.0, ((tree-up own K J P lives first) s.names.number u.names.number j.stage.up t g, (y.1, lives.frames s.names.number u.names.number at.frame j.stage.up q))))
        by (e, item_steps.Use l) u j y again =
            let hu = (state-then own K J P lives first) s u h j in
            (gave-after own K J P lives first) (T own K J P lives first) SettledItemAt u (next_form rs left at.place t l (Some at.frame) u) (expand_item_uses_to rs left (at_use at t) depth e) (next-form-holds left at.place t l (Some at.frame) u hu ((tree-up own K J P lives first) s.names.number u.names.number j.stage.up t g) (lives.frames s.names.number u.names.number at.frame j.stage.up q))
            (λ v w x z. again e v w ((state-then own K J P lives first) u w hu x) ((taken-up own K J P lives first) u.names.number w.names.number x.stage.up e y) z (lives.frames s.names.number w.names.number at.frame (omega (arith, j.stage.up, x.stage.up)) q))

  -- What is done with a form.

  module _ (go : Inside) (keeps : (KeepsFresh own K J P lives first) go) where
    perform-holds : (place : Span) (level depth : ℕ) (t : Tree) (p : Plan) (s : State) → (F own K J P lives first) s → (T own K J P lives first) s.names.number t → (PlanAt own K J P lives first) s.names.number p → (Gave own K J P lives first) (C own K J P lives first) s (perform go (site_at place level depth) t p s)
    unfolding perform
    perform-holds place level depth t (plans.Done c) s h g k = ((state-self own K J P lives first) s h, k)
    perform-holds place level depth t (plans.Call operator operands) s h g k = (application-holds own K J P lives first) go keeps place level (deeper depth) operator operands s h k.0 k.1
    perform-holds place level depth t (plans.Conditional test consequent other) s h g k = (conditional-holds own K J P lives first) go keeps place level (deeper depth) test consequent other s h k.0 k.1.0 k.1.1
    perform-holds place level depth t (plans.Assignment l value) s h g k = (set-holds own K J P lives first) go keeps place level (deeper depth) l value s h k
    perform-holds place level depth t (plans.Sequence forms) s h g k = (in-sequence-holds own K J P lives first) go keeps place level (deeper depth) forms s h k
    perform-holds place level depth t (plans.Lambda ids forms) s h g k = (lambda-holds own K J P lives first) go keeps place level (deeper depth) t ids forms s h k.0 k.1
    perform-holds place level depth t (plans.CaseLambda cs) s h g k = (case-lambda-holds own K J P lives first) go keeps place level (deeper depth) t cs s h k
    perform-holds place level depth t (plans.Letrec star bs forms) s h g k = (letrec-holds own K J P lives first) go keeps place level (deeper depth) t star bs forms s h k.0 k.1
    perform-holds place level depth t (plans.Matching subject literals cs span) s h g k = (syntax-case-holds own K J P lives first) go keeps place level (deeper depth) subject literals cs span s h k.0 k.1.1
    perform-holds place level depth t (plans.Keywords recursive bs forms) s h g k = (keywords-form-holds own K J P lives first) go keeps place level (deeper depth) recursive bs forms s h k.0 k.1
    perform-holds place level depth t (plans.Quasi which template) s h g k = (quasi-form-holds own K J P lives first) place level t go keeps (deeper depth) which template s h g k

    pub form-at-holds : (place : Span) (level depth : ℕ) (t : Tree) (s : State) → (F own K J P lives first) s → (T own K J P lives first) s.names.number t → (Gave own K J P lives first) (C own K J P lives first) s (form_at go (site_at place level depth) t s)
    unfolding form_at
    form-at-holds place level depth t s h g =
        (gave-if own K J P lives first) (C own K J P lives first) s (nat_lt most_round depth) _ (after (expand_uses go.earlier place level t s) (perform_settled go level depth)) tt
        ((gave-after own K J P lives first) (SettledAt go.earlier keeps.records) (C own K J P lives first) s (expand_uses go.earlier place level t s) (perform_settled go level depth) (expand_uses-to-holds go.earlier keeps.records s.uses_left place level t s h g)
        (λ d u i y. perform-holds d.place level depth d.form d.plan u ((state-then own K J P lives first) s u h i) y.0 y.1))

    keyword-item-holds : (at : BodyAt) (depth : ℕ) (d : Taken) (t : Tree) (b : BindingSpec) (s : State) → (F own K J P lives first) s → (TakenAt own K J P lives first) s.names.number d → (SpecAt own K J P lives first) s.names.number b → (Gave own K J P lives first) (TakenAt own K J P lives first) s (after (define_syntax go at depth d (definition_parts t b) s) (λ _. give d))
    unfolding define_syntax
    keyword-item-holds at depth d t b s h k g =
        (gave-after own K J P lives first) Any (TakenAt own K J P lives first) s (after (define_keyword at d t b s) (expand_transformer go (site_at at.place at.level depth))) (λ _. give d)
        ((gave-after own K J P lives first) (BoundHolds own K J P lives first) Any s (define_keyword at d t b s) (expand_transformer go (site_at at.place at.level depth)) ((define-keyword-holds own K J P lives first) at depth d t b s h g) (λ x u i y. (keyword-holds own K J P lives first) go keeps at.place at.level depth x u ((state-then own K J P lives first) s u h i) y))
        (λ x u i y. ((state-self own K J P lives first) u ((state-then own K J P lives first) s u h i), (taken-up own K J P lives first) s.names.number u.names.number i.stage.up d k))

    perform-item-holds : (at : BodyAt) (depth : ℕ) (d : Taken) (t : Tree) (i : Item) (s : State) → (F own K J P lives first) s → (TakenAt own K J P lives first) s.names.number d → (T own K J P lives first) s.names.number t → (ItemAt own K J P lives first) s.names.number i → J s.names.number at.frame → (Gave own K J P lives first) (TakenAt own K J P lives first) s (perform_item go at depth d t i s)
    unfolding perform_item
    perform-item-holds at depth d t items.Nothing s h k g y q = ((state-self own K J P lives first) s h, k)
    perform-item-holds at depth d t (items.Forms forms) s h k g y q = (splice-holds own K J P lives first) go keeps at (deeper depth) d forms s h k y q
    perform-item-holds at depth d t (items.Keyword b) s h k g y q = keyword-item-holds at (deeper depth) d t b s h k y
    perform-item-holds at depth d t (items.Keywords recursive bs forms) s h k g y q =
        (gave-after own K J P lives first) (Ts own K J P lives first) (TakenAt own K J P lives first) s (with_keywords go (site_at at.place at.level (deeper depth)) (let_syntax_parts recursive bs forms) s) (splice go at (deeper depth) d) ((with-keywords-holds own K J P lives first) go keeps at.place at.level (deeper depth) recursive bs forms s h y.0 y.1)
        (λ xs u i z. (splice-holds own K J P lives first) go keeps at (deeper depth) d xs u ((state-then own K J P lives first) s u h i) ((taken-up own K J P lives first) s.names.number u.names.number i.stage.up d k) z (lives.frames s.names.number u.names.number at.frame i.stage.up q))

    pub item-holds : (at : BodyAt) (depth : ℕ) (d : Taken) (t : Tree) (s : State) → (F own K J P lives first) s → (TakenAt own K J P lives first) s.names.number d → (T own K J P lives first) s.names.number t → J s.names.number at.frame → (Gave own K J P lives first) (TakenAt own K J P lives first) s (item go at depth d t s)
    unfolding item
    item-holds at depth d t s h k g q =
        (gave-if own K J P lives first) (TakenAt own K J P lives first) s (nat_lt most_round depth) _ (after (expand_item_uses go.earlier at depth d t s) (expand_body.perform_settled go depth)) tt
        ((gave-after own K J P lives first) (SettledItemAt go.earlier keeps.records) (TakenAt own K J P lives first) s (expand_item_uses go.earlier at depth d t s) (expand_body.perform_settled go depth) (expand_uses-item-to-holds go.earlier keeps.records s.uses_left at depth d t s h k g q)
        (λ p u i y. perform-item-holds p.1.at depth p.0 p.1.form p.1.item u ((state-then own K J P lives first) s u h i) y.0 y.1.0 y.1.1.0 y.1.1.1))

  -- So it is inside forms, however deep they nest.
  pub inside-keeps : (rs : List CompiledLibrary) (room : ℕ) → RecordsHold (P first) rs → (KeepsFresh own K J P lives first) (inside rs room)
  unfolding inside
  inside-keeps rs zero r = record {
    records = r;
    form = λ place level depth t s h g. tt;
    procedure = λ place level depth t ids forms s h k g. tt;
    item = λ at depth d t s h k g q. tt;
  }
  inside-keeps rs (suc room) r =
      let keeps = inside-keeps rs room r in
      record {
        records = r;
        form = λ place level depth t s h g. form-at-holds (inside rs room) keeps place level depth t s h g;
        procedure = λ place level depth t ids forms s h k g. (case-holds own K J P lives first) (inside rs room) keeps place level depth t ids forms s h k g;
        item = λ at depth d t s h k g q. item-holds (inside rs room) keeps at depth d t s h k g q;
      }
