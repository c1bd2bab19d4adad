-- Forms nest as deep as they may, however deep they may nest inside.
use Rattle.std.proofs.Common.{◌≡◌, ℕ, zero, suc, ◌+◌, ◌≤◌, Bool, true, false, List, [], ◌∷◌, map, Option, None, Some, Result, refl, sym, subst, arith}
use Rattle.std.specs.Prelude.{nat_lt, nat_eq}
use Rattle.base_data.specs.Act.{after, give}
use Rattle.base_data.specs.Elements.{Each}
use Rattle.base_data.specs.declared.fault.Fault.{Fault}
use Rattle.base_data.specs.declared.library.LibName.{LibName}
use Rattle.base_data.specs.declared.name.FrameNo.{FrameNo}
use Rattle.base_data.specs.declared.name.Label.{Label}
use Rattle.base_data.specs.declared.span.Span.{Span}
use Rattle.stx_tree.specs.Changes.{stamp}
use Rattle.stx_tree.specs.Tree.{Tree}
use Rattle.core_language.specs.Core.{PlainCore, two_armed, assignment, letrec, call, matching, instance, cores}
use Rattle.core_language.specs.CoreView.{inits, clauses}
use Rattle.core_language.specs.References.{formals_labels}
use Rattle.core_language.specs.declared.code.Init.{Init}
use Rattle.core_language.specs.declared.code.Lambda.{Lambda}
use Rattle.core_language.specs.declared.record.CompiledLibrary.{CompiledLibrary}
use Rattle.core_shapes.specs.At.{place_of}
use Rattle.core_shapes.specs.declared.shape.BindingSpec.{BindingSpec}
use Rattle.core_shapes.specs.declared.shape.FormalIds.{FormalIds}
use Rattle.core_shapes.specs.declared.shape.LambdaCase.{LambdaCase}
use Rattle.core_shapes.specs.declared.shape.PatternCase.{PatternCase}
use Rattle.expand_standing.specs.Binders.{bind_specs, bind_formals}
use Rattle.expand_standing.specs.Patterns.{pattern_of, check_literals, bind_pattern, template_of}
use Rattle.expand_standing.specs.Standing.{standing_of}
use Rattle.expand_standing.specs.State.{State, fresh, fresh_frame}
use Rattle.expand_standing.specs.Uses.{asks_variable}
use Rattle.expand_standing.specs.declared.binders.BoundSpec.{BoundSpec}
use Rattle.expand_standing.specs.declared.standing.Standing.{Standing}
use Rattle.expand_standing.specs.declared.standing.Standing.TheVariants as standing
use Rattle.expand_standing.specs.declared.standing.Variable.{Variable}
use Rattle.expand_standing.specs.InScope.{is_in_scope}
use Rattle.expand_heads.specs.declared.plan.HeadPlan.{HeadPlan}
use Rattle.expand_heads.specs.declared.plan.HeadPlan.TheVariants as head_plans
use Rattle.expand_heads.specs.Depth.{deeper, most_round}
use Rattle.expand_heads.specs.Items.{is_top}
use Rattle.expand_heads.specs.Plan.{variable_at, refer, reference, target_by, assign_to, assign_by, assign, done, plan_of}
use Rattle.expand_heads.specs.declared.item.Item.{Item}
use Rattle.expand_heads.specs.declared.item.Item.TheVariants as items
use Rattle.expand_heads.specs.declared.plan.Plan.{Plan}
use Rattle.expand_heads.specs.declared.plan.Plan.TheVariants as plans
use Rattle.expand_heads.specs.declared.taken.BodyAt.{BodyAt}
use Rattle.expand_heads.specs.declared.taken.Taken.{Taken}
use Rattle.expand_forms.specs.Body as expand_body
use Rattle.expand_forms.specs.Body.{splice, perform_item, item, body, sequence_of}
use Rattle.expand_forms.specs.Expression.{in_order, case_in, lambda_case, lambda, one_case, all_cases, case_lambda, one_init, all_inits, letrec_in, letrec_form, application, alternate, conditional, set, in_sequence, fender, clause_in, pattern_clause, all_clauses, syntax_case, keywords_form, perform, perform_settled, form_at, inside}
use Rattle.expand_forms.specs.Inside.{Inside}
use Rattle.expand_forms.specs.Keywords.{with_keywords, define_syntax}
use Rattle.expand_forms.specs.Quasi.{quasi_form}
use Rattle.expand_forms.specs.ExpandUses.{step, step_of, set_step, planned_by, next_form, too_many, expand_uses, expand_uses_to, expand_item_uses}
use Rattle.expand_forms.specs.declared.expand_uses.PlannedForm.{PlannedForm}
use Rattle.expand_forms.specs.declared.expand_uses.PlanOrUse.{PlanOrUse}
use Rattle.expand_forms.specs.declared.expand_uses.PlanOrUse.TheVariants as steps
use Rattle.expand_forms.specs.Site.{site_at}
use Rattle.expand_forms.specs.Forms.{definition_parts, if_parts, let_syntax_parts, letrec_parts, procedure_parts, syntax_case_parts, template_parts}
use Rattle.law_expand.specs.States.{Later}
use Rattle.law_expand.specs.Shallow.{deepest}
use Rattle.law_expand.proofs.Acts.{Gave, gave-any, gave-after, gave-both, gave-if, gave-less, gave-within}
use Rattle.law_expand.proofs.Binding.{BindsAll, spec_label}
use Rattle.law_expand.proofs.Changes.{inside-moves, moved-body, moved-case, moved-clause, moved-keywords, BindsPattern, pattern-bound, pattern-adds, performs-item}
use Rattle.law_expand.proofs.Fresh.{each-map}
use Rattle.law_expand.proofs.Good.{Bindings}
use Rattle.law_expand.proofs.Items.{Took, Takes, took-later, expand_uses-takes, Settles}
use Rattle.law_expand.proofs.Later.{later-self, later-then}
use Rattle.law_expand.proofs.Naming.{as_frame, counted}
use Rattle.law_expand.proofs.Nesting.{not-deep, deeper-next, deeper-up, IsLeveled, defined-grown, Within, WithinCase, WithinInit, WithinFender, WithinClause, within-at, within-grown, case-grown, fender-grown, clause-grown, labels-grown, one_armed-within, two_armed-within, assignment-within, in-sequence-within, call-within, procedure-within, letrec-within, matching-within, IsAlone, alone-within}
use Rattle.law_expand.proofs.NestingBinding.{Here, here-but, here-counted, here-later, Pairs, pairs-each, gave-pairs, nothing-asked, binds-formals-leveled, binds-specs-leveled}
use Rattle.law_expand.proofs.NestingBodies.{Nests, Splices, splice-nests, body-nests}
use Rattle.law_expand.proofs.NestingItems.{AreWaiting, waiting-grown, expand_uses-waits}
use Rattle.law_expand.proofs.NestingQuasi.{quasi-nests}
use Rattle.law_expand.proofs.Plans.{IsOfForms, plan-cases}
use Rattle.law_expand.proofs.Scope.{adds-later}
use Rattle.law_expand.proofs.PlannedForm.{expand_uses-later}
use Rattle.law_expand.proofs.Uses.{Patterned, pattern-later, literals-later}

-- A plan that is done is one of a constant, a reference or a template.

abbrev pub IsShort : Plan → Type 0
IsShort (plans.Done c) = IsAlone c
IsShort (plans.Call operator operands) = Unit {0}
IsShort (plans.Conditional test consequent other) = Unit {0}
IsShort (plans.Assignment l value) = Unit {0}
IsShort (plans.Sequence forms) = Unit {0}
IsShort (plans.Lambda ids forms) = Unit {0}
IsShort (plans.CaseLambda cs) = Unit {0}
IsShort (plans.Letrec star bs forms) = Unit {0}
IsShort (plans.Matching subject literals cs span) = Unit {0}
IsShort (plans.Keywords recursive bs forms) = Unit {0}
IsShort (plans.Quasi which template) = Unit {0}

abbrev pub HeadIsShort : HeadPlan → Type 0
HeadIsShort (head_plans.Plan p) = IsShort p
HeadIsShort (head_plans.Use l) = Unit {0}
HeadIsShort (head_plans.SetUse l id) = Unit {0}

abbrev Short : HeadPlan → State → Type 0
Short p s = HeadIsShort p

forms-short : (p : HeadPlan) → IsOfForms p → HeadIsShort p
forms-short (head_plans.Plan (plans.Done c)) h = elim h [ ]
forms-short (head_plans.Plan (plans.Call operator operands)) h = tt
forms-short (head_plans.Plan (plans.Conditional test consequent other)) h = tt
forms-short (head_plans.Plan (plans.Assignment l value)) h = tt
forms-short (head_plans.Plan (plans.Sequence forms)) h = tt
forms-short (head_plans.Plan (plans.Lambda ids forms)) h = tt
forms-short (head_plans.Plan (plans.CaseLambda cs)) h = tt
forms-short (head_plans.Plan (plans.Letrec star bs forms)) h = tt
forms-short (head_plans.Plan (plans.Matching subject literals cs span)) h = tt
forms-short (head_plans.Plan (plans.Keywords recursive bs forms)) h = tt
forms-short (head_plans.Plan (plans.Quasi which template)) h = tt
forms-short (head_plans.Use l) h = tt
forms-short (head_plans.SetUse l id) h = tt

module _ (place : Span) (level : ℕ) where
  variable-short : (id : Tree) (v : Variable) (s : State) → Gave Short (variable_at place level id v s)
  unfolding variable_at
  variable-short id v s = gave-if Short v.own _ _
      (λ a. gave-if Short (nat_eq v.level level) _ _ (λ b. gave-if Short (is_in_scope s v) _ _ (λ c. tt) (λ c. tt)) (λ b. tt))
      (λ a. gave-if Short v.top _ _ (λ b. gave-if Short v.assigned _ _ (λ c. tt) (λ c. tt)) (λ b. tt))

  refer-short : (id : Tree) (st : Standing) (s : State) → Gave Short (refer place level id st s)
  refer-short id standing.Nothing s = tt
  refer-short id (standing.Variable v) s = variable-short id v s
  refer-short id standing.PatternVariable s = tt
  refer-short id (standing.Primitive op) s = tt
  refer-short id (standing.Core f) s = tt
  refer-short id (standing.Keyword l) s = tt

  reference-short : (id : Tree) (s : State) → Gave Short (reference place level id s)
  unfolding reference
  reference-short id s = refer-short id (standing_of s id) s

  target-short : (t id value : Tree) (st : Standing) (s : State) → Gave Short (after (target_by place level t id st s) (assign_to value))
  target-short t id value st s =
      gave-after (λ l u. Unit {0}) Short (target_by place level t id st s) (assign_to value) (gave-any (λ l u. Unit {0}) (target_by place level t id st s) (λ l u. tt)) (λ l u k. tt)

  assign-by-short : (t id value : Tree) (st : Standing) (s : State) → Gave Short (assign_by place level t id value st s)
  assign-by-short t id value standing.Nothing s = target-short t id value standing.Nothing s
  assign-by-short t id value (standing.Variable v) s = target-short t id value (standing.Variable v) s
  assign-by-short t id value standing.PatternVariable s = target-short t id value standing.PatternVariable s
  assign-by-short t id value (standing.Primitive op) s = target-short t id value (standing.Primitive op) s
  assign-by-short t id value (standing.Core f) s = target-short t id value (standing.Core f) s
  assign-by-short t id value (standing.Keyword l) s = tt

  assign-short : (t id value : Tree) (s : State) → Gave Short (assign place level t id value s)
  unfolding assign
  assign-short t id value s = assign-by-short t id value (standing_of s id) s

  plan-short : (t : Tree) (s : State) → Gave Short (plan_of place level t s)
  plan-short t s = plan-cases Short place level s (λ d. tt) (λ id. reference-short id s) (λ x id value. assign-short x id value s)
      (λ x operand. gave-after (λ y u. Unit {0}) Short (template_of place level operand s) (λ y. done (instance y (place_of x place))) (gave-any (λ y u. Unit {0}) (template_of place level operand s) (λ y u. tt)) (λ y u k. tt))
      (λ p h. forms-short p h) t

module _ (rs : List CompiledLibrary) where
  abbrev StepShort : PlanOrUse → State → Type 0
  StepShort (steps.Plan p) u = IsShort p
  StepShort (steps.Use l) u = Unit {0}

  set-short : (place : Span) (t : Tree) (l : Label) (id : Tree) (b : Bool) (u : State) → Gave StepShort (set_step place t l id b u)
  set-short place t l id true u = tt
  set-short place t l id false u = tt

  steps-short : (place : Span) (t : Tree) (p : HeadPlan) (u : State) → HeadIsShort p → Gave StepShort (step_of rs place t p u)
  steps-short place t (head_plans.Plan p) u k = k
  steps-short place t (head_plans.Use l) u k = tt
  steps-short place t (head_plans.SetUse l id) u k =
      gave-after (λ b v. Unit {0}) StepShort (asks_variable rs (place_of t place) l u) (set_step place t l id) (gave-any (λ b v. Unit {0}) (asks_variable rs (place_of t place) l u) (λ b v. tt)) (λ b v j. set-short place t l id b v)

  step-short : (place : Span) (level : ℕ) (t : Tree) (s : State) → Gave StepShort (step rs place level t s)
  unfolding step
  step-short place level t s = gave-after Short StepShort (plan_of place level t s) (step_of rs place t) (plan-short place level t s) (λ p u k. steps-short place t p u k)

  abbrev SettledShort : PlannedForm → State → Type 0
  SettledShort d u = IsShort d.plan

  pub expand_uses-short : (left : ℕ) (place : Span) (level : ℕ) (t : Tree) (s : State) → Gave SettledShort (expand_uses_to rs left place level t s)
  unfolding expand_uses_to
  expand_uses-short zero place level t s = gave-after StepShort SettledShort (step rs place level t s) (planned_by (λ l. too_many t place) place t) (step-short place level t s) by
    where
      by : (x : PlanOrUse) (u : State) → StepShort x u → Gave SettledShort (planned_by (λ l. too_many t place) place t x u)
      by (steps.Plan p) u k = k
      by (steps.Use l) u k = tt
  expand_uses-short (suc left) place level t s =
      gave-after StepShort SettledShort (step rs place level t s) (planned_by (λ l s'. after (next_form rs left place t l None s') (expand_uses_to rs left (place_of t place) level)) place t) (step-short place level t s)
      (λ x u k. by x u k (λ y v. expand_uses-short left (place_of t place) level y v))
    where
      by : (x : PlanOrUse) (u : State) → StepShort x u → ((y : Tree) (v : State) → Gave SettledShort (expand_uses_to rs left (place_of t place) level y v))
          → Gave SettledShort (planned_by (λ l s'. after (next_form rs left place t l None s') (expand_uses_to rs left (place_of t place) level)) place t x u)
      by (steps.Plan p) u k next = k
      by (steps.Use l) u k next =
          gave-after (λ y v. Unit {0}) SettledShort (next_form rs left place t l None u) (expand_uses_to rs left (place_of t place) level) (gave-any (λ y v. Unit {0}) (next_form rs left place t l None u) (λ y v. tt)) (λ y v j. next y v)

module _ (own : LibName) (go : Inside) (nests : Nests own go) where
  module _ (place : Span) (level depth : ℕ) where
    abbrev C : ℕ → PlainCore → State → Type 0
    C n c u = Within u.bindings level depth n c

    -- with a later state
    abbrev L : ℕ → State → PlainCore → State → Type 0
    L n s c u = Later own s u × C n c u

    form-both : (t : Tree) (s : State) → Here own s → Gave (L deepest s) (go.form (site_at place level depth) t s)
    form-both t s h = gave-both (λ c u. Later own s u) (C deepest) (go.form (site_at place level depth) t s) (nests.moves.form place level depth t s h.0) (nests.form place level depth t s h)

    abbrev All : State → List PlainCore → State → Type 0
    All s cs u = Later own s u × Each (Within u.bindings level depth deepest) cs

    order-nests : (forms : List Tree) (s : State) → Here own s → Gave (All s) (in_order go (site_at place level depth) forms s)
    order-nests forms s h =
        gave-less (λ cs u. Later own s u × Pairs (λ (x : Tree). Within u.bindings level depth deepest) forms cs) (All s) (in_order go (site_at place level depth) forms s)
        (gave-pairs own (go.form (site_at place level depth)) (λ x. Unit {0}) (λ bs x c. Within bs level depth deepest c) (λ bs cs ext x c k. within-grown bs cs ext level depth deepest c k) (λ x t q k. form-both x t k) forms s (nothing-asked forms) h)
        (λ cs u k. (k.0, pairs-each (λ (x : Tree). Within u.bindings level depth deepest) (Within u.bindings level depth deepest) (λ x c j. j) forms cs k.1))

    module _ (room : depth ≤ most_round + 1) where
      application-nests : (operator : Tree) (operands : List Tree) (s : State) → Here own s → Gave (C (deepest + 3)) (application go (site_at place level depth) operator operands s)
      unfolding application
      application-nests operator operands s h =
          gave-after (L deepest s) (C (deepest + 3)) (go.form (site_at place level depth) operator s) (λ c s'. after (in_order go (site_at place level depth) operands s') (λ cs. give (call c (cores cs)))) (form-both operator s h)
          (λ c t j. gave-after (All t) (C (deepest + 3)) (in_order go (site_at place level depth) operands t) (λ cs. give (call c (cores cs))) (order-nests operands t (here-later own s t h j.0))
          (λ cs u k. call-within u.bindings level depth deepest (deepest + 3) (omega arith) (omega (arith, room)) c cs (within-grown t.bindings u.bindings k.0.grows.bound level depth deepest c j.1) k.1))

      alternate-nests : (c d : PlainCore) (o : Option Tree) (s : State) → Here own s → C deepest c s → C deepest d s → Gave (C (deepest + 3)) (alternate go (site_at place level depth) c d o s)
      alternate-nests c d None s h j k = one_armed-within s.bindings level depth deepest (deepest + 3) (omega arith) c d j k
      alternate-nests c d (Some x) s h j k =
          gave-after (L deepest s) (C (deepest + 3)) (go.form (site_at place level depth) x s) (λ e. give (two_armed c d e)) (form-both x s h)
          (λ e u i. two_armed-within u.bindings level depth deepest (deepest + 3) (omega arith) c d e (within-grown s.bindings u.bindings i.0.grows.bound level depth deepest c j) (within-grown s.bindings u.bindings i.0.grows.bound level depth deepest d k) i.1)

      conditional-nests : (test consequent : Tree) (other : Option Tree) (s : State) → Here own s → Gave (C (deepest + 3)) (conditional go (site_at place level depth) (if_parts test consequent other) s)
      unfolding conditional
      conditional-nests test consequent other s h =
          gave-after (L deepest s) (C (deepest + 3)) (go.form (site_at place level depth) test s) (λ c s'. after (go.form (site_at place level depth) consequent s') (λ d. alternate go (site_at place level depth) c d other)) (form-both test s h)
          (λ c t j. let next = here-later own s t h j.0 in
          gave-after (L deepest t) (C (deepest + 3)) (go.form (site_at place level depth) consequent t) (λ d. alternate go (site_at place level depth) c d other) (form-both consequent t next)
          (λ d u k. alternate-nests c d other u (here-later own t u next k.0) (within-grown t.bindings u.bindings k.0.grows.bound level depth deepest c j.1) k.1))

      set-nests : (l : Label) (value : Tree) (s : State) → Here own s → Gave (C (deepest + 3)) (set go (site_at place level depth) l value s)
      unfolding set
      set-nests l value s h = gave-after (C deepest) (C (deepest + 3)) (go.form (site_at place level depth) value s) (λ c. give (assignment l c)) (nests.form place level depth value s h) (λ c u k. assignment-within u.bindings level depth deepest (deepest + 3) (omega arith) l c k)

      sequence-nests : (forms : List Tree) (s : State) → Here own s → Gave (C (deepest + 3)) (in_sequence go (site_at place level depth) forms s)
      unfolding in_sequence
      sequence-nests forms s h = gave-after (All s) (C (deepest + 3)) (in_order go (site_at place level depth) forms s) (λ cs. give (sequence_of cs)) (order-nests forms s h) (λ cs u k. in-sequence-within u.bindings level depth deepest (deepest + 3) (omega arith) (omega (arith, room)) cs k.1)

      keywords-nest : (recursive : Bool) (bs : List BindingSpec) (forms : List Tree) (s : State) → Here own s → Gave (C (deepest + 3)) (keywords_form go (site_at place level depth) (let_syntax_parts recursive bs forms) s)
      unfolding keywords_form
      keywords-nest recursive bs forms s h =
          gave-after (λ xs u. Later own s u) (C (deepest + 3)) (with_keywords go (site_at place level depth) (let_syntax_parts recursive bs forms) s) (in_sequence go (site_at place level depth)) (moved-keywords own go nests.moves place level depth recursive bs forms s h.0)
          (λ xs u k. sequence-nests xs u (here-later own s u h k))

      -- Procedures and `letrec`.

      module _ (t : Tree) where
        abbrev K : Lambda → State → Type 0
        K c u = WithinCase u.bindings level depth (deepest + 2) c

        pub case-nests : (ids : FormalIds) (forms : List Tree) (s : State) → Here own s → Gave K (lambda_case go (site_at place level depth) (procedure_parts t ids forms) s)
        unfolding lambda_case fresh_frame
        case-nests ids forms s h =
            let f = as_frame s.names in
            let next = here-counted own s h in
            gave-within K (λ u. after (fresh_frame u) (case_in go (site_at place level depth) (procedure_parts t ids forms))) s
            (gave-after (λ x u. BindsAll own f (counted s) (formals_labels x) u × Each (IsLeveled u.bindings level) (formals_labels x)) K (bind_formals f place level ids (counted s))
            (λ x u. after (body go (site_at place level depth) t (map (stamp f) forms) u) (λ c. give (record { formals = x; body = c })))
            (binds-formals-leveled own f place level ids (counted s) next)
            (λ x u k. let here = here-but own f (counted s) u next k.0.later in
            gave-after (λ c v. Later own u v × Within v.bindings level depth (deepest + 2) c) K (body go (site_at place level depth) t (map (stamp f) forms) u) (λ c. give (record { formals = x; body = c }))
            (gave-both (λ c v. Later own u v) (λ c v. Within v.bindings level depth (deepest + 2) c) (body go (site_at place level depth) t (map (stamp f) forms) u) (moved-body own go nests.moves place level depth t (map (stamp f) forms) u here.0) (body-nests own go nests place level depth t (map (stamp f) forms) u room here))
            (λ c v j. record { formals = labels-grown u.bindings v.bindings j.0.grows.bound level (formals_labels x) k.1; body = j.1 })))

        lambda-nests : (ids : FormalIds) (forms : List Tree) (s : State) → Here own s → Gave (C (deepest + 3)) (lambda go (site_at place level depth) (procedure_parts t ids forms) s)
        unfolding lambda fresh
        lambda-nests ids forms s h =
            gave-after K (C (deepest + 3)) (lambda_case go (site_at place level depth) (procedure_parts t ids forms) (counted s)) _ (case-nests ids forms (counted s) (here-counted own s h))
            (λ c u k. procedure-within u.bindings level depth (deepest + 2) (deepest + 3) (omega arith) (omega (arith, room)) (record { 0 = s.names }) (c ∷ []) true (k, tt))

        case_lambda-nests : (cs : List LambdaCase) (s : State) → Here own s → Gave (C (deepest + 3)) (case_lambda go (site_at place level depth) t cs s)
        unfolding case_lambda fresh
        case_lambda-nests cs s h =
            gave-after (λ xs u. Later own (counted s) u × Pairs (λ (x : LambdaCase). WithinCase u.bindings level depth (deepest + 2)) cs xs) (C (deepest + 3)) (all_cases go (site_at place level depth) t cs (counted s)) _
            (gave-pairs own (one_case go (site_at place level depth) t) (λ x. Unit {0}) (λ bs x c. WithinCase bs level depth (deepest + 2) c) (λ bs ds ext x c k. case-grown bs ds ext level depth (deepest + 2) c k)
            (λ x u q k. gave-both (λ c v. Later own u v) K (one_case go (site_at place level depth) t x u) (moved-case own go nests.moves place level depth t x.formals x.body u k.0) (case-nests x.formals x.body u k))
            cs (counted s) (nothing-asked cs) (here-counted own s h))
            (λ xs u k. procedure-within u.bindings level depth (deepest + 2) (deepest + 3) (omega arith) (omega (arith, room)) (record { 0 = s.names }) xs false
            (pairs-each (λ (x : LambdaCase). WithinCase u.bindings level depth (deepest + 2)) (WithinCase u.bindings level depth (deepest + 2)) (λ x c j. j) cs xs k.1))

        abbrev I : Bindings → BoundSpec → Init → Type 0
        I bs b i = (i.label ≡ b.label) × Within bs level depth deepest i.value

        init-nests : (f : FrameNo) (b : BoundSpec) (s : State) → Here own s → Gave (λ i u. Later own s u × I u.bindings b i) (one_init go (site_at place level depth) f b s)
        unfolding one_init
        init-nests f b s h = gave-after (L deepest s) (λ i u. Later own s u × I u.bindings b i) (go.form (site_at place level depth) (stamp f b.init) s) (λ c. give (record { label = b.label; value = c })) (form-both (stamp f b.init) s h) (λ c u k. (k.0, (refl, k.1)))

        inits-nest : (f : FrameNo) (bs : List BoundSpec) (s : State) → Here own s → Gave (λ is u. Later own s u × Pairs (I u.bindings) bs is) (all_inits go (site_at place level depth) f bs s)
        inits-nest f bs s h =
            gave-pairs own (one_init go (site_at place level depth) f) (λ b. Unit {0}) I (λ cs ds ext b i k. (k.0, within-grown cs ds ext level depth deepest i.value k.1)) (λ b u q k. init-nests f b u k) bs s (nothing-asked bs) h

        inits-so : (bs : Bindings) (xs : List BoundSpec) (is : List Init) → Pairs (I bs) xs is → Each (IsLeveled bs level) (map spec_label xs) → Each (WithinInit bs level depth (deepest + 2)) is
        inits-so bs [] [] h k = tt
        inits-so bs [] (i ∷ is) h k = elim h [ ]
        inits-so bs (x ∷ xs) [] h k = tt
        inits-so bs (x ∷ xs) (i ∷ is) h k =
            (record { label = subst (IsLeveled bs level) (sym h.0.0) k.0; value = within-at bs level depth deepest depth (deepest + 2) i.value (omega arith) h.0.1 }, inits-so bs xs is h.1 k.1)

        letrec-nests : (star : Bool) (bs : List BindingSpec) (forms : List Tree) (s : State) → Here own s → Gave (C (deepest + 3)) (letrec_form go (site_at place level depth) (letrec_parts t star bs forms) s)
        unfolding letrec_form fresh_frame
        letrec-nests star bs forms s h =
            let f = as_frame s.names in
            let next = here-counted own s h in
            let some = map (stamp f) forms in
            gave-within (C (deepest + 3)) (λ u. after (fresh_frame u) (letrec_in go (site_at place level depth) (letrec_parts t star bs forms))) s
            (gave-after (λ xs u. BindsAll own f (counted s) (map spec_label xs) u × Each (IsLeveled u.bindings level) (map spec_label xs)) (C (deepest + 3)) (bind_specs f place level bs (counted s)) _
            (binds-specs-leveled own f place level bs (counted s) next)
            (λ xs u k. let here = here-but own f (counted s) u next k.0.later in
            gave-after (λ is v. Later own u v × Pairs (I v.bindings) xs is) (C (deepest + 3)) (all_inits go (site_at place level depth) f xs u) (λ is v. after (body go (site_at place level depth) t some v) (λ c. give (letrec star (inits is) c))) (inits-nest f xs u here)
            (λ is v j. let later = here-later own u v here j.0 in
            gave-after (λ c w. Later own v w × Within w.bindings level depth (deepest + 2) c) (C (deepest + 3)) (body go (site_at place level depth) t some v) (λ c. give (letrec star (inits is) c))
            (gave-both (λ c w. Later own v w) (λ c w. Within w.bindings level depth (deepest + 2) c) (body go (site_at place level depth) t some v) (moved-body own go nests.moves place level depth t some v later.0) (body-nests own go nests place level depth t some v room later))
            (λ c w i. letrec-within w.bindings level depth (deepest + 2) (deepest + 3) (omega arith) (omega (arith, room)) star is c
            (each-map (WithinInit v.bindings level depth (deepest + 2)) (WithinInit w.bindings level depth (deepest + 2)) is (inits-so v.bindings xs is j.1 (labels-grown u.bindings v.bindings j.0.grows.bound level (map spec_label xs) k.1))
            (λ x y. record { label = (y.label.0, defined-grown v.bindings w.bindings i.0.grows.bound level y.label.0 x.label y.label.1); value = within-grown v.bindings w.bindings i.0.grows.bound level depth (deepest + 2) x.value y.value }))
            i.1))))

      -- `syntax-case`.

      module _ (literals : List Tree) where
        fender-nests : (f : FrameNo) (o : Option Tree) (s : State) → Here own s → Gave (λ e u. Later own s u × WithinFender u.bindings level depth deepest e) (fender go (site_at place level depth) f o s)
        fender-nests f None s h = (later-self own s h.0, tt)
        fender-nests f (Some x) s h = gave-after (L deepest s) (λ e u. Later own s u × WithinFender u.bindings level depth deepest e) (go.form (site_at place level depth) (stamp f x) s) (λ c. give (Some c)) (form-both (stamp f x) s h) (λ c u k. k)

        clause-nests : (c : PatternCase) (s : State) → Here own s → Gave (λ x u. WithinClause u.bindings level depth deepest x) (pattern_clause go (site_at place level depth) literals c s)
        unfolding pattern_clause fresh_frame
        clause-nests c s h =
            let f = as_frame s.names in
            let next = here-counted own s h in
            gave-within (λ x u. WithinClause u.bindings level depth deepest x) (λ u. after (fresh_frame u) (clause_in go (site_at place level depth) literals c)) s
            (gave-after (Patterned own (counted s)) (λ x u. WithinClause u.bindings level depth deepest x) (pattern_of literals place c.pattern (counted s)) _ (pattern-later own literals place c.pattern (counted s) next.0)
            (λ p t j. gave-after (λ x u. BindsPattern own go nests.moves place level depth literals f (counted s) p u) (λ x u. WithinClause u.bindings level depth deepest x) (bind_pattern f place level p.variables t) _
            (pattern-bound own go nests.moves place level depth literals f p (counted s) t j)
            (λ x u b. let here = here-but own f (counted s) u next (pattern-adds own go nests.moves place level depth literals f p (counted s) u b).0 in
            gave-after (λ e v. Later own u v × WithinFender v.bindings level depth deepest e) (λ y w. WithinClause w.bindings level depth deepest y) (fender go (site_at place level depth) f c.fender u) _ (fender-nests f c.fender u here)
            (λ e v k. gave-after (L deepest v) (λ y w. WithinClause w.bindings level depth deepest y) (go.form (site_at place level depth) (stamp f c.output) v) (λ o. give (record { pattern = p.pattern; fender = e; output = o })) (form-both (stamp f c.output) v (here-later own u v here k.0))
            (λ o w i. record { fender = fender-grown v.bindings w.bindings i.0.grows.bound level depth deepest e k.1; output = i.1 })))))

        syntax_case-nests : (subject : Tree) (cs : List PatternCase) (span : Span) (s : State) → Here own s → Gave (C (deepest + 3)) (syntax_case go (site_at place level depth) (syntax_case_parts subject literals cs span) s)
        unfolding syntax_case
        syntax_case-nests subject cs span s h =
            gave-after (L deepest s) (C (deepest + 3)) (go.form (site_at place level depth) subject s) _ (form-both subject s h)
            (λ c t j. let next = here-later own s t h j.0 in
            gave-after (λ x u. Later own t u) (C (deepest + 3)) (check_literals place literals t) (λ _ u. after (all_clauses go (site_at place level depth) literals cs u) (λ xs. give (matching c (clauses xs) span))) (literals-later own literals place t next.0)
            (λ x u k. gave-after (λ xs v. Later own u v × Pairs (λ (y : PatternCase). WithinClause v.bindings level depth deepest) cs xs) (C (deepest + 3)) (all_clauses go (site_at place level depth) literals cs u) (λ xs. give (matching c (clauses xs) span))
            (gave-pairs own (pattern_clause go (site_at place level depth) literals) (λ y. Unit {0}) (λ bs y z. WithinClause bs level depth deepest z) (λ bs ds ext y z i. clause-grown bs ds ext level depth deepest z i)
            (λ y v q i. gave-both (λ z w. Later own v w) (λ z w. WithinClause w.bindings level depth deepest z) (pattern_clause go (site_at place level depth) literals y v) (moved-clause own go nests.moves place level depth literals y v i.0) (clause-nests y v i))
            cs u (nothing-asked cs) (here-later own t u next k))
            (λ xs v i. matching-within v.bindings level depth deepest (deepest + 3) (omega arith) (omega (arith, room)) c xs span
            (within-grown t.bindings v.bindings (later-then own t u v k i.0).grows.bound level depth deepest c j.1)
            (pairs-each (λ (y : PatternCase). WithinClause v.bindings level depth deepest) (WithinClause v.bindings level depth deepest) (λ y z q. q) cs xs i.1))))

  -- A form.

  module _ (place : Span) (level depth : ℕ) (t : Tree) (room : depth ≤ most_round) where
    inner : deeper depth ≤ most_round + 1
    inner = let e = deeper-next depth room in omega (arith, e, room)

    -- what was made one deeper
    made : (n : ℕ) (c : PlainCore) (u : State) → n ≤ (deepest + 4) → Within u.bindings level (deeper depth) n c → Within u.bindings level depth deepest c
    made n c u most h = within-at u.bindings level (deeper depth) n depth deepest c (let e = deeper-next depth room in omega (arith, e, most)) h

    brought : (r : Result (PlainCore × State) Fault) → Gave (λ c u. Within u.bindings level (deeper depth) (deepest + 3) c) r → Gave (λ c u. Within u.bindings level depth deepest c) r
    brought r h = gave-less (λ c u. Within u.bindings level (deeper depth) (deepest + 3) c) (λ c u. Within u.bindings level depth deepest c) r h (λ c u k. made (deepest + 3) c u (omega arith) k)

    performs : (p : Plan) (s : State) → IsShort p → Here own s → Gave (λ c u. Within u.bindings level depth deepest c) (perform go (site_at place level depth) t p s)
    unfolding perform
    performs (plans.Done c) s k h = alone-within s.bindings level depth deepest c k (omega (arith, room))
    performs (plans.Call operator operands) s k h = brought (application go (site_at place level (deeper depth)) operator operands s) (application-nests place level (deeper depth) inner operator operands s h)
    performs (plans.Conditional test consequent other) s k h = brought (conditional go (site_at place level (deeper depth)) (if_parts test consequent other) s) (conditional-nests place level (deeper depth) inner test consequent other s h)
    performs (plans.Assignment l value) s k h = brought (set go (site_at place level (deeper depth)) l value s) (set-nests place level (deeper depth) inner l value s h)
    performs (plans.Sequence forms) s k h = brought (in_sequence go (site_at place level (deeper depth)) forms s) (sequence-nests place level (deeper depth) inner forms s h)
    performs (plans.Lambda ids forms) s k h = brought (lambda go (site_at place level (deeper depth)) (procedure_parts t ids forms) s) (lambda-nests place level (deeper depth) inner t ids forms s h)
    performs (plans.CaseLambda cs) s k h = brought (case_lambda go (site_at place level (deeper depth)) t cs s) (case_lambda-nests place level (deeper depth) inner t cs s h)
    performs (plans.Letrec star bs forms) s k h = brought (letrec_form go (site_at place level (deeper depth)) (letrec_parts t star bs forms) s) (letrec-nests place level (deeper depth) inner t star bs forms s h)
    performs (plans.Matching subject literals cs span) s k h = brought (syntax_case go (site_at place level (deeper depth)) (syntax_case_parts subject literals cs span) s) (syntax_case-nests place level (deeper depth) inner literals subject cs span s h)
    performs (plans.Keywords recursive bs forms) s k h = brought (keywords_form go (site_at place level (deeper depth)) (let_syntax_parts recursive bs forms) s) (keywords-nest place level (deeper depth) inner recursive bs forms s h)
    performs (plans.Quasi which template) s k h =
        gave-less (λ c u. Within u.bindings level (deeper depth) deepest c) (λ c u. Within u.bindings level depth deepest c) (quasi_form go (site_at place level (deeper depth)) (template_parts t which template) s) (quasi-nests own go nests place level t (deeper depth) which template s h)
        (λ c u j. made deepest c u (omega arith) j)

  form-nests : (place : Span) (level depth : ℕ) (t : Tree) (s : State) → Here own s → Gave (λ c u. Within u.bindings level depth deepest c) (form_at go (site_at place level depth) t s)
  unfolding form_at
  form-nests place level depth t s h =
      gave-if (λ c u. Within u.bindings level depth deepest c) (nat_lt most_round depth) _ (after (expand_uses go.earlier place level t s) (perform_settled go level depth)) (λ e. tt)
      (λ e. gave-after (λ d u. Later own s u × IsShort d.plan) (λ c u. Within u.bindings level depth deepest c) (expand_uses go.earlier place level t s) (perform_settled go level depth)
      (gave-both (λ d u. Later own s u) (λ d u. IsShort d.plan) (expand_uses go.earlier place level t s) (expand_uses-later own go.earlier s.uses_left place level t s h.0) (expand_uses-short go.earlier s.uses_left place level t s))
      (λ d u k. performs d.place level depth d.form (not-deep depth e) d.plan u k.1 (here-later own s u h k.0)))

  -- A form of a body.

  module _ (at : BodyAt) (base depth : ℕ) (start : State) (deep : base ≤ depth) (low : is_top at.kind ≡ true → at.level ≡ 0) where
    abbrev W : Taken → State → Type 0
    W d u = AreWaiting at base d u.bindings

    -- a keyword that is defined leaves what was taken
    same-taken : (d : Taken) (t : Tree) (b : BindingSpec) (s : State) → Gave (λ e u. e ≡ d) (after (define_syntax go at (deeper depth) d (definition_parts t b) s) (λ _. give d))
    same-taken d t b s = gave-after (λ x u. Unit {0}) (λ e u. e ≡ d) (define_syntax go at (deeper depth) d (definition_parts t b) s) (λ _. give d) (gave-any (λ x u. Unit {0}) (define_syntax go at (deeper depth) d (definition_parts t b) s) (λ x u. tt)) (λ x u k. refl)

    item-performs : (d : Taken) (t : Tree) (i : Item) (s : State) → Here own s → Took own (is_top at.kind) start d s → W d s → Gave W (perform_item go at depth d t i s)
    unfolding perform_item
    item-performs d t items.Nothing s h k w = w
    item-performs d t (items.Forms forms) s h k w =
        gave-less (λ e u. Splices own go nests at base start s e u) W (splice go at (deeper depth) d forms s)
        (splice-nests own go nests at base (deeper depth) start d forms s (let up = deeper-up depth in omega (arith, up, deep)) h low k w) (λ e u j. j.waiting)
    item-performs d t (items.Keyword b) s h k w =
        gave-less (λ e u. Takes own at.frame (is_top at.kind) start s e u × (e ≡ d)) W (after (define_syntax go at (deeper depth) d (definition_parts t b) s) (λ _. give d))
        (gave-both (λ e u. Takes own at.frame (is_top at.kind) start s e u) (λ e u. e ≡ d) (after (define_syntax go at (deeper depth) d (definition_parts t b) s) (λ _. give d)) (performs-item own go nests.moves at start low depth d t (items.Keyword b) s h.0 k) (same-taken d t b s))
        (λ e u j. subst (λ (x : Taken). W x u) (sym j.1) (waiting-grown at base d s.bindings u.bindings j.0.later.grows.bound w))
    item-performs d t (items.Keywords recursive bs forms) s h k w =
        gave-after (λ xs u. Later own s u) W (with_keywords go (site_at at.place at.level (deeper depth)) (let_syntax_parts recursive bs forms) s) (splice go at (deeper depth) d) (moved-keywords own go nests.moves at.place at.level (deeper depth) recursive bs forms s h.0)
        (λ xs u l. gave-less (λ e v. Splices own go nests at base start u e v) W (splice go at (deeper depth) d xs u)
        (splice-nests own go nests at base (deeper depth) start d xs u (let up = deeper-up depth in omega (arith, up, deep)) (here-later own s u h l) low (took-later own (is_top at.kind) start d s u l.up (adds-later own (is_top at.kind) s u l) k)
        (waiting-grown at base d s.bindings u.bindings l.grows.bound w)) (λ e v j. j.waiting))

  item-nests : (at : BodyAt) (base depth : ℕ) (d : Taken) (t : Tree) (start s : State) → base ≤ depth → Here own s → (is_top at.kind ≡ true → at.level ≡ 0) → Took own (is_top at.kind) start d s → AreWaiting at base d s.bindings
      → Gave (λ e u. AreWaiting at base e u.bindings) (item go at depth d t s)
  unfolding item
  item-nests at base depth d t start s deep h low k w =
      gave-if (λ e u. AreWaiting at base e u.bindings) (nat_lt most_round depth) _ (after (expand_item_uses go.earlier at depth d t s) (expand_body.perform_settled go depth)) (λ e. tt)
      (λ e. gave-after (λ p u. Settles own go.earlier start depth at s p u × AreWaiting at base p.0 u.bindings) (λ x u. AreWaiting at base x u.bindings) (expand_item_uses go.earlier at depth d t s) (expand_body.perform_settled go depth)
      (gave-both (Settles own go.earlier start depth at s) (λ p u. AreWaiting at base p.0 u.bindings) (expand_item_uses go.earlier at depth d t s) (expand_uses-takes own go.earlier start depth s.uses_left at d t s h.0 low k)
      (expand_uses-waits own go.earlier start base depth deep (not-deep depth e) s.uses_left at d t s h low k w))
      (λ p u j.
      subst (λ (other : BodyAt). Gave (λ x v. AreWaiting at base x v.bindings) (perform_item go other depth p.0 p.1.form p.1.item u)) (sym j.0.1.1)
      (gave-less (λ x v. AreWaiting (record at { place = j.0.1.0 }) base x v.bindings) (λ x v. AreWaiting at base x v.bindings) (perform_item go (record at { place = j.0.1.0 }) depth p.0 p.1.form p.1.item u)
      (item-performs (record at { place = j.0.1.0 }) base depth start deep low p.0 p.1.form p.1.item u (here-but own at.frame s u h j.0.0.later) j.0.0.took (record { deep = j.1.deep; labels = j.1.labels }))
      (λ x v q. record { deep = q.deep; labels = q.labels }))))

-- So it is inside forms, however deep they may nest.
pub inside-nests : (own : LibName) (rs : List CompiledLibrary) (room : ℕ) → Nests own (inside rs room)
unfolding inside
inside-nests own rs zero = record {
  moves = inside-moves own rs zero;
  form = λ place level depth t s h. tt;
  procedure = λ place level depth t ids forms s le h. tt;
  item = λ at base depth d t start s le h low k w. tt;
}
inside-nests own rs (suc room) =
    let nests = inside-nests own rs room in
    record {
      moves = inside-moves own rs (suc room);
      form = form-nests own (inside rs room) nests;
      procedure = λ place level depth t ids forms s le h. case-nests own (inside rs room) nests place level depth le t ids forms s h;
      item = λ at base depth d t start s le h low k w. item-nests own (inside rs room) nests at base depth d t start s le h low k w;
    }
