-- What is to be done with a form has the leaves of the form.
use Rattle.std.proofs.Common.{ℕ, Bool, true, false, List, [], ◌∷◌, Option, None, Some, Result, Ok, Err, if◌then◌else◌}
use Rattle.std.specs.Prelude.{nat_eq}
use Rattle.base_data.specs.Act.{after}
use Rattle.base_data.specs.Elements.{Each}
use Rattle.base_data.specs.declared.fault.Fault.{Fault}
use Rattle.base_data.specs.declared.library.LibName.{LibName}
use Rattle.base_data.specs.declared.name.Label.{Label}
use Rattle.base_data.specs.declared.name.FrameNo.{FrameNo}
use Rattle.base_data.specs.declared.name.Mark.{Mark}
use Rattle.base_data.specs.declared.span.Span.{Span}
use Rattle.stx_tree.specs.Context.{LeafContext}
use Rattle.stx_tree.specs.Tree.{Tree, atom, leaf, pair, vector}
use Rattle.core_language.specs.Core.{instance}
use Rattle.core_language.specs.Labels.{has_label}
use Rattle.core_language.specs.declared.core_form.CoreForm.{CoreForm}
use Rattle.core_language.specs.declared.core_form.CoreForm.TheVariants as core_forms
use Rattle.core_shapes.specs.At.{place_of}
use Rattle.core_shapes.specs.Forms.{shape}
use Rattle.core_shapes.specs.Lists.{is_leaf, is_nil_atom, proper_elements}
use Rattle.core_shapes.specs.declared.shape.BindingSpec.{BindingSpec}
use Rattle.core_shapes.specs.declared.shape.Shape.{Shape}
use Rattle.core_shapes.specs.declared.shape.Shape.TheVariants as shapes
use Rattle.expand_standing.specs.InScope.{is_in_scope}
use Rattle.expand_standing.specs.Own.{mark_assigned}
use Rattle.expand_standing.specs.Patterns.{template_of}
use Rattle.expand_standing.specs.Standing.{standing_of, role_of}
use Rattle.expand_standing.specs.State.{State}
use Rattle.expand_standing.specs.declared.standing.Role.{Role}
use Rattle.expand_standing.specs.declared.standing.Role.TheVariants as role
use Rattle.expand_standing.specs.declared.standing.Standing.{Standing}
use Rattle.expand_standing.specs.declared.standing.Standing.TheVariants as standing
use Rattle.expand_standing.specs.declared.standing.Variable.{Variable}
use Rattle.expand_heads.specs.declared.plan.HeadPlan.{HeadPlan}
use Rattle.expand_heads.specs.declared.plan.HeadPlan.TheVariants as head_plans
use Rattle.expand_heads.specs.Plan.{done, variable_at, refer, reference, constant, target_variable, target_by, assign_to, assign_by, assign, keywords_plan, operand_plan, call_of, application, in_sequence, shape_plan, with_shape, by_role, keyword_plan, by_head, list_plan, plan_of}
use Rattle.expand_heads.specs.declared.plan.Plan.{Plan}
use Rattle.expand_heads.specs.declared.plan.Plan.TheVariants as plans
use Rattle.law_fresh.specs.Leaves.{TemplateHolds}
use Rattle.law_fresh.specs.Leaves.{OptionHolds}
use Rattle.law_fresh.proofs.Trees.{OkHolds}
use Rattle.law_fresh_expansion.specs.Living.{Lives}
use Rattle.law_fresh_expansion.proofs.Shapes.{FormalsHold, LambdaHolds, PatternCaseHolds, ShapeHolds, proper-holds, shape-holds}
use Rattle.law_fresh_expansion.proofs.Standing.{F, From, T, Ts, C, state-self, state-then, Gave, gave-after, gave-if, SpecAt, tree-up, template-holds}

module _ (own : LibName) (K : ℕ → Mark → Type 0) (J : ℕ → FrameNo → Type 0) (P : ℕ → LeafContext → Type 0) (lives : Lives own K J P) (first : ℕ) where
  abbrev pub PlanAt : ℕ → Plan → Type 0
  PlanAt n (plans.Done c) = (C own K J P lives first) n c
  PlanAt n (plans.Call operator operands) = (T own K J P lives first) n operator × (Ts own K J P lives first) n operands
  PlanAt n (plans.Conditional test consequent other) = (T own K J P lives first) n test × ((T own K J P lives first) n consequent × OptionHolds ((T own K J P lives first) n) other)
  PlanAt n (plans.Assignment l value) = (T own K J P lives first) n value
  PlanAt n (plans.Sequence forms) = (Ts own K J P lives first) n forms
  PlanAt n (plans.Lambda ids forms) = FormalsHold (P n) ids × (Ts own K J P lives first) n forms
  PlanAt n (plans.CaseLambda cs) = Each (LambdaHolds (P n)) cs
  PlanAt n (plans.Letrec star bs forms) = Each ((SpecAt own K J P lives first) n) bs × (Ts own K J P lives first) n forms
  PlanAt n (plans.Matching subject literals cs span) = (T own K J P lives first) n subject × ((Ts own K J P lives first) n literals × Each (PatternCaseHolds (P n)) cs)
  PlanAt n (plans.Keywords recursive bs forms) = Each ((SpecAt own K J P lives first) n) bs × (Ts own K J P lives first) n forms
  PlanAt n (plans.Quasi which template) = (T own K J P lives first) n template

  abbrev pub HeadAt : ℕ → HeadPlan → Type 0
  HeadAt n (head_plans.Plan p) = PlanAt n p
  HeadAt n (head_plans.Use k) = Unit {0}
  HeadAt n (head_plans.SetUse l id) = Unit {0}

  module _ (place : Span) (level : ℕ) (s : State) (h : (F own K J P lives first) s) where
    abbrev Planned : Result (HeadPlan × State) Fault → Type 0
    Planned r = (Gave own K J P lives first) HeadAt s r

    planned-if : (b : Bool) (r q : Result (HeadPlan × State) Fault) → Planned r → Planned q → Planned (if b then r else q)
    planned-if b r q x y = (gave-if own K J P lives first) HeadAt s b r q x y

    as-it-is : (From own K J P lives first) s s
    as-it-is = (state-self own K J P lives first) s h

    variable-at-holds : (id : Tree) (v : Variable) → Planned (variable_at place level id v s)
    unfolding variable_at
    variable-at-holds id v =
        planned-if v.own _ _ (planned-if (nat_eq v.level level) _ _ (planned-if (is_in_scope s v) _ _ (as-it-is, tt) tt) tt)
        (planned-if v.top _ _ (planned-if v.assigned _ _ tt (as-it-is, tt)) tt)

    refer-holds : (id : Tree) (st : Standing) → Planned (refer place level id st s)
    refer-holds id standing.Nothing = tt
    refer-holds id (standing.Variable v) = variable-at-holds id v
    refer-holds id standing.PatternVariable = tt
    refer-holds id (standing.Primitive op) = (as-it-is, tt)
    refer-holds id (standing.Core f) = tt
    refer-holds id (standing.Keyword l) = (as-it-is, tt)

    reference-holds : (id : Tree) → Planned (reference place level id s)
    unfolding reference
    reference-holds id = refer-holds id (standing_of s id)

    constant-holds : (t : Tree) (b : Bool) → Planned (constant place t b s)
    constant-holds t true = tt
    constant-holds t false = (as-it-is, tt)

    -- an assignment is noted
    abbrev Targets : Result (Label × State) Fault → Type 0
    Targets r = (Gave own K J P lives first) (λ n l. Unit {0}) s r

    targets-if : (b : Bool) (r q : Result (Label × State) Fault) → Targets r → Targets q → Targets (if b then r else q)
    targets-if b r q x y = (gave-if own K J P lives first) (λ n l. Unit {0}) s b r q x y

    noted : (l : Label) → Targets (mark_assigned l s)
    noted l = (record { stage = as-it-is.stage; bindings = as-it-is.bindings }, tt)

    target-variable-holds : (t id : Tree) (v : Variable) → Targets (target_variable place level t id v s)
    unfolding target_variable
    target-variable-holds t id v =
        targets-if v.own _ _
        (targets-if (nat_eq v.level level) _ _ (targets-if (is_in_scope s v) _ _ (targets-if (has_label s.exports v.label) _ _ tt (noted v.label)) tt) tt)
        (targets-if v.top _ _ (targets-if (has_label s.exports v.label) _ _ tt tt) tt)

    target-holds : (t id : Tree) (st : Standing) → Targets (target_by place level t id st s)
    target-holds t id standing.Nothing = tt
    target-holds t id (standing.Variable v) = target-variable-holds t id v
    target-holds t id standing.PatternVariable = tt
    target-holds t id (standing.Primitive op) = tt
    target-holds t id (standing.Core f) = tt
    target-holds t id (standing.Keyword l) = tt

    assigned-holds : (t id value : Tree) (st : Standing) → (T own K J P lives first) s.names.number value → Planned (after (target_by place level t id st s) (assign_to value))
    assigned-holds t id value st k =
        (gave-after own K J P lives first) (λ n l. Unit {0}) HeadAt s (target_by place level t id st s) (assign_to value) (target-holds t id st)
        (λ l u i y. ((state-self own K J P lives first) u ((state-then own K J P lives first) s u h i), tree-later u i value k))
      where
        tree-later : (u : State) → (From own K J P lives first) s u → (v : Tree) → (T own K J P lives first) s.names.number v → (T own K J P lives first) u.names.number v
        tree-later u i v g = (tree-up own K J P lives first) s.names.number u.names.number i.stage.up v g

    assign-by-holds : (t id value : Tree) (st : Standing) → (T own K J P lives first) s.names.number value → Planned (assign_by place level t id value st s)
    assign-by-holds t id value (standing.Keyword l) k = (as-it-is, tt)
    assign-by-holds t id value standing.Nothing k = assigned-holds t id value standing.Nothing k
    assign-by-holds t id value (standing.Variable v) k = assigned-holds t id value (standing.Variable v) k
    assign-by-holds t id value standing.PatternVariable k = assigned-holds t id value standing.PatternVariable k
    assign-by-holds t id value (standing.Primitive op) k = assigned-holds t id value (standing.Primitive op) k
    assign-by-holds t id value (standing.Core f) k = assigned-holds t id value (standing.Core f) k

    assign-holds : (t id value : Tree) → (T own K J P lives first) s.names.number value → Planned (assign place level t id value s)
    unfolding assign
    assign-holds t id value k = assign-by-holds t id value (standing_of s id) k

    call-holds : (t operator : Tree) (o : Option (List Tree)) → (T own K J P lives first) s.names.number operator → OptionHolds ((Ts own K J P lives first) s.names.number) o → Planned (call_of place t operator o s)
    call-holds t operator None k j = tt
    call-holds t operator (Some xs) k j = (as-it-is, (k, j))

    application-holds : (t operator rest : Tree) → (T own K J P lives first) s.names.number operator → (T own K J P lives first) s.names.number rest → Planned (application place t operator rest s)
    unfolding application
    application-holds t operator rest k j = call-holds t operator (proper_elements rest) k (proper-holds (P s.names.number) rest j)

    sequence-holds : (t : Tree) (xs : List Tree) → (Ts own K J P lives first) s.names.number xs → Planned (in_sequence place t xs s)
    sequence-holds t [] k = tt
    sequence-holds t (x ∷ xs) k = (as-it-is, k)

    keywords-hold : (t : Tree) (f : CoreForm) (bs : List BindingSpec) (xs : List Tree) → Each ((SpecAt own K J P lives first) s.names.number) bs → (Ts own K J P lives first) s.names.number xs → Planned (keywords_plan place t f bs xs s)
    keywords-hold t f bs [] k j = tt
    keywords-hold t f bs (x ∷ xs) k j = (as-it-is, (k, j))

    operand-holds : (t : Tree) (f : CoreForm) (operand : Tree) → (T own K J P lives first) s.names.number operand → Planned (operand_plan place level t f operand s)
    operand-holds t core_forms.Syntax operand k =
        (gave-after own K J P lives first) (λ n x. TemplateHolds (P n) x) HeadAt s (template_of place level operand s) (λ x. done (instance x (place_of t place))) ((template-holds own K J P lives first) place level operand s h k) (λ x u i y. ((state-self own K J P lives first) u ((state-then own K J P lives first) s u h i), y))
    operand-holds t core_forms.Quasiquote operand k = (as-it-is, k)
    operand-holds t core_forms.Quasisyntax operand k = (as-it-is, k)
    operand-holds t _ operand k = tt

    shape-plan-holds : (t : Tree) (f : CoreForm) (x : Shape) → ShapeHolds (P s.names.number) x → Planned (shape_plan place level t f x s)
    unfolding shape_plan
    shape-plan-holds t f (shapes.Quote datum) k = (as-it-is, tt)
    shape-plan-holds t f (shapes.Lambda ids body) k = (as-it-is, k)
    shape-plan-holds t f (shapes.CaseLambda cs) k = (as-it-is, k)
    shape-plan-holds t f (shapes.If test consequent other) k = (as-it-is, k)
    shape-plan-holds t f (shapes.Set id value) k = assign-holds t id value k.1
    shape-plan-holds t f (shapes.Begin xs) k = sequence-holds t xs k
    shape-plan-holds t f (shapes.Letrec bs body) k = (as-it-is, k)
    shape-plan-holds t f (shapes.Define id value) k = tt
    shape-plan-holds t f (shapes.DefineProcedure id ids body) k = tt
    shape-plan-holds t f (shapes.DefineSyntax id value) k = tt
    shape-plan-holds t f (shapes.LetSyntax bs body) k = keywords-hold t f bs body k.0 k.1
    shape-plan-holds t f (shapes.Operand operand) k = operand-holds t f operand k
    shape-plan-holds t f (shapes.SyntaxCase subject literals clauses) k = (as-it-is, k)

    with-shape-holds : (t : Tree) (f : CoreForm) (r : Result Shape Fault) → OkHolds (ShapeHolds (P s.names.number)) r → Planned (with_shape place level t f r s)
    with-shape-holds t f (Err e) k = tt
    with-shape-holds t f (Ok x) k = shape-plan-holds t f x k

    by-shape : (t : Tree) (f : CoreForm) → (T own K J P lives first) s.names.number t → Planned (with_shape place level t f (shape f t place) s)
    by-shape t f k = with-shape-holds t f (shape f t place) (shape-holds (P s.names.number) f t place k)

    by-role-holds : (t head : Tree) (f : CoreForm) (r : Role) → (T own K J P lives first) s.names.number t → Planned (by_role place level t head f r s)
    by-role-holds t head f role.Expression k = by-shape t f k
    by-role-holds t head f role.Assignment k = by-shape t f k
    by-role-holds t head f role.Sequence k = by-shape t f k
    by-role-holds t head f role.Definition k = by-shape t f k
    by-role-holds t head f role.Keywords k = by-shape t f k
    by-role-holds t head f role.Record k = tt
    by-role-holds t head f role.RecordValue k = (as-it-is, tt)
    by-role-holds t head f role.Auxiliary k = tt

    keyword-plan-holds : (t head : Tree) (f : CoreForm) → (T own K J P lives first) s.names.number t → Planned (keyword_plan place level t head f s)
    unfolding keyword_plan
    keyword-plan-holds t head f k = by-role-holds t head f (role_of f) k

    by-head-holds : (t head rest : Tree) (st : Standing) → (T own K J P lives first) s.names.number t → (T own K J P lives first) s.names.number head → (T own K J P lives first) s.names.number rest → Planned (by_head place level t head rest st s)
    by-head-holds t head rest standing.Nothing k i j = application-holds t head rest i j
    by-head-holds t head rest (standing.Variable v) k i j = application-holds t head rest i j
    by-head-holds t head rest standing.PatternVariable k i j = application-holds t head rest i j
    by-head-holds t head rest (standing.Primitive op) k i j = application-holds t head rest i j
    by-head-holds t head rest (standing.Core f) k i j = keyword-plan-holds t head f k
    by-head-holds t head rest (standing.Keyword l) k i j = (as-it-is, tt)

    list-plan-holds : (t head rest : Tree) → (T own K J P lives first) s.names.number t → (T own K J P lives first) s.names.number head → (T own K J P lives first) s.names.number rest → Planned (list_plan place level t head rest s)
    unfolding list_plan
    list-plan-holds t head rest k i j = planned-if (is_leaf head) _ _ (by-head-holds t head rest (standing_of s head) k i j) (application-holds t head rest i j)

    pub plan-holds : (t : Tree) → (T own K J P lives first) s.names.number t → Planned (plan_of place level t s)
    plan-holds (atom r a) k = constant-holds (atom r a) (is_nil_atom a)
    plan-holds (leaf r x c) k = reference-holds (leaf r x c)
    plan-holds (pair r a d) k = list-plan-holds (pair r a d) a d k k.0 k.1
    plan-holds (vector r d) k = tt
