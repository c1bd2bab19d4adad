-- A plan adds no link, and what is no identifier comes to no reference.
use Rattle.std.proofs.Common.{◌≡◌, ℕ, Bool, true, false, List, [], ◌∷◌, Option, None, Some, Result, Ok, Err, refl, sym, ap, ◌∙◌, if◌then◌else◌}
use Rattle.std.specs.Prelude.{nat_eq}
use Rattle.base_data.specs.Act.{give}
use Rattle.base_data.specs.declared.fault.Fault.{Fault}
use Rattle.base_data.specs.declared.name.Label.{Label}
use Rattle.base_data.specs.declared.span.Span.{Span}
use Rattle.stx_tree.specs.Tree.{Tree, atom, leaf, pair, vector, span_of}
use Rattle.core_language.specs.Core as core
use Rattle.core_language.specs.Core.{PlainCore, quoted, variable, primitive, instance}
use Rattle.core_language.specs.Template.{PlainTemplate}
use Rattle.core_language.specs.declared.core_form.CoreForm.{CoreForm}
use Rattle.core_language.specs.declared.core_form.CoreForm.TheVariants as core_forms
use Rattle.core_shapes.specs.At.{place_of}
use Rattle.core_shapes.specs.Forms.{set_shape, shaped, by_operands, shape_of, or_bad, shape}
use Rattle.core_shapes.specs.Lists.{is_leaf, is_nil, is_nil_atom, elements, tail_of, proper_elements, if_some}
use Rattle.core_shapes.specs.declared.shape.BindingSpec.{BindingSpec}
use Rattle.core_shapes.specs.declared.shape.Shape.{Shape}
use Rattle.core_shapes.specs.declared.shape.Shape.TheVariants as shapes
use Rattle.expand_standing.specs.InScope.{is_in_scope}
use Rattle.core_language.specs.Labels.{has_label}
use Rattle.expand_standing.specs.Patterns.{has_variables, first_outside, outside_fault, template_in, template_of}
use Rattle.expand_standing.specs.Standing.{standing_of, role_of}
use Rattle.expand_standing.specs.State.{State}
use Rattle.expand_standing.specs.declared.standing.Role.{Role}
use Rattle.expand_standing.specs.declared.standing.Role.TheVariants as role
use Rattle.expand_standing.specs.declared.standing.Standing.{Standing}
use Rattle.expand_standing.specs.declared.standing.Standing.TheVariants as standing
use Rattle.expand_standing.specs.declared.standing.Variable.{Variable}
use Rattle.eval_template.specs.Compile as templates
use Rattle.expand_heads.specs.declared.plan.HeadPlan.{HeadPlan}
use Rattle.expand_heads.specs.declared.plan.HeadPlan.TheVariants as head_plans
use Rattle.expand_heads.specs.Plan.{variable_at, refer, reference, constant, target_variable, target_by, assign_to, assign_by, assign, call_of, application, in_sequence, keywords_plan, operand_plan, shape_plan, with_shape, by_role, keyword_plan, by_head, list_plan, plan_of}
use Rattle.expand_heads.specs.declared.plan.Plan.{Plan}
use Rattle.expand_heads.specs.declared.plan.Plan.TheVariants as plans
use Rattle.expand_forms.specs.ExpandUses.{first_span, target_span}
use Rattle.law_expand.proofs.Acts.{Gave, gave-after, gave-if}

-- The target of an assignment is its second element.

set-first : (t : Tree) (place : Span) (xs : List Tree) (x id value : Tree) → or_bad t place (set_shape (x ∷ xs)) ≡ Ok (shapes.Set id value) → x ≡ id
unfolding set_shape
set-first t place [] x id value e = absurd (cc)
set-first t place (v ∷ []) x id value e = by (is_leaf x) e
  where
    by : (b : Bool) → or_bad t place (if b then Some (shapes.Set x v) else None) ≡ Ok (shapes.Set id value) → x ≡ id
    by true k = cc
    by false k = absurd (cc)
set-first t place (v ∷ w ∷ xs) x id value e = absurd (cc)

no-set : (t : Tree) (place : Span) (id value : Tree) → or_bad t place (set_shape []) ≡ Ok (shapes.Set id value) → ⊥
unfolding set_shape
no-set t place id value e = absurd (cc)

abbrev set_in : Tree → Span → Option (List Tree) → Result Shape Fault
set_in t place o = or_bad t place (if_some o (by_operands core_forms.Set))

pub target-is : (t : Tree) (place : Span) (id value : Tree) → shape core_forms.Set t place ≡ Ok (shapes.Set id value) → target_span t ≡ span_of id
unfolding shape shape_of shaped
target-is (atom p a) place id value e = by (is_nil_atom a) e
  where
    by : (b : Bool) → set_in (atom p a) place (if b then Some [] else None) ≡ Ok (shapes.Set id value) → None ≡ span_of id
    by true k = absurd (cc)
    by false k = absurd (cc)
target-is (leaf p x c) place id value e = absurd (cc)
target-is (vector p d) place id value e = absurd (cc)
target-is (pair p a d) place id value e = by_rest d e
  where
    by_rest : (d : Tree) → set_in (pair p a d) place (if is_nil (tail_of d) then Some (a ∷ elements d) else None) ≡ Ok (shapes.Set id value) → first_span d ≡ span_of id
    by_rest (leaf q x c) k = absurd (cc)
    by_rest (vector q r) k = absurd (cc)
    by_rest (atom q b) k = by_end (is_nil_atom b) k
      where
        by_end : (c : Bool) → set_in (pair p a (atom q b)) place (if c then Some (a ∷ []) else None) ≡ Ok (shapes.Set id value) → None ≡ span_of id
        by_end true k = absurd (no-set (pair p a (atom q b)) place id value k)
        by_end false k = absurd (cc)
    by_rest (pair q x r) k = by_end (is_nil (tail_of r)) k
      where
        by_end : (c : Bool) → set_in (pair p a (pair q x r)) place (if c then Some (a ∷ x ∷ elements r) else None) ≡ Ok (shapes.Set id value) → span_of x ≡ span_of id
        by_end true k = ap span_of (set-first (pair p a (pair q x r)) place (elements r) x id value k)
        by_end false k = absurd (cc)

-- What adds no link.

abbrev pub Alike : State → State → Type 0
Alike s u = u.links ≡ s.links

-- a constant or a template
abbrev pub IsQuiet : PlainCore → Type 0
IsQuiet (core.variable l) = ⊥
IsQuiet (core.primitive o) = ⊥
IsQuiet _ = Unit {0}

abbrev pub PlanQuiet : Plan → Type 0
PlanQuiet (plans.Done c) = IsQuiet c
PlanQuiet _ = Unit {0}

abbrev pub HeadQuiet : HeadPlan → Type 0
HeadQuiet (head_plans.Plan p) = PlanQuiet p
HeadQuiet _ = Unit {0}

template-alike : (place : Span) (level : ℕ) (t : Tree) (s : State) → Gave (λ x u. Alike s u) (template_of place level t s)
unfolding template_of
template-alike place level t s = by (templates.compiled (record { frames = s.frames; bindings = s.bindings; level = level; place = place }) t)
  where
    outside : (o : Option Tree) → Gave (λ (x : PlainTemplate) u. Alike s u) (outside_fault place t o s)
    outside None = tt
    outside (Some id) = tt

    by : (r : Result PlainTemplate Fault) → Gave (λ x u. Alike s u) (template_in place t s r)
    by (Err f) = tt
    by (Ok x) = gave-if (λ x u. Alike s u) (has_variables s.scope x) (Ok (x, s)) (outside_fault place t (first_outside s t) s) (λ e. refl) (λ e. outside (first_outside s t))

module _ (place : Span) (level : ℕ) (s : State) where
  abbrev Same : {A : Type 0} → A → State → Type 0
  Same x u = Alike s u

  abbrev Quiet : HeadPlan → State → Type 0
  Quiet p u = Alike s u × HeadQuiet p

  variable-alike : (id : Tree) (v : Variable) → Gave (Same {A = HeadPlan}) (variable_at place level id v s)
  unfolding variable_at
  variable-alike id v =
      gave-if Same v.own _ _
      (λ a. gave-if Same (nat_eq v.level level) _ _ (λ b. gave-if Same (is_in_scope s v) _ _ (λ c. refl) (λ c. tt)) (λ b. tt))
      (λ a. gave-if Same v.top _ _ (λ b. gave-if Same v.assigned _ _ (λ c. tt) (λ c. refl)) (λ b. tt))

  refer-alike : (id : Tree) (st : Standing) → Gave (Same {A = HeadPlan}) (refer place level id st s)
  refer-alike id standing.Nothing = tt
  refer-alike id (standing.Variable v) = variable-alike id v
  refer-alike id standing.PatternVariable = tt
  refer-alike id (standing.Primitive o) = refl
  refer-alike id (standing.Core f) = tt
  refer-alike id (standing.Keyword l) = refl

  reference-alike : (id : Tree) → Gave (Same {A = HeadPlan}) (reference place level id s)
  unfolding reference
  reference-alike id = refer-alike id (standing_of s id)

  target-alike : (t id : Tree) (v : Variable) → Gave (Same {A = Label}) (target_variable place level t id v s)
  unfolding target_variable
  target-alike t id v =
      gave-if Same v.own _ _
      (λ a. gave-if Same (nat_eq v.level level) _ _
      (λ b. gave-if Same (is_in_scope s v) _ _ (λ c. gave-if Same (has_label s.exports v.label) _ _ (λ d. tt) (λ d. refl)) (λ c. tt)) (λ b. tt))
      (λ a. gave-if Same v.top _ _ (λ b. gave-if Same (has_label s.exports v.label) _ _ (λ c. tt) (λ c. tt)) (λ b. tt))

  target-by-alike : (t id : Tree) (st : Standing) → Gave (Same {A = Label}) (target_by place level t id st s)
  target-by-alike t id standing.Nothing = tt
  target-by-alike t id (standing.Variable v) = target-alike t id v
  target-by-alike t id standing.PatternVariable = tt
  target-by-alike t id (standing.Primitive o) = tt
  target-by-alike t id (standing.Core f) = tt
  target-by-alike t id (standing.Keyword l) = tt

  assign-by-quiet : (t id value : Tree) (st : Standing) → Gave Quiet (assign_by place level t id value st s)
  assign-by-quiet t id value standing.Nothing = tt
  assign-by-quiet t id value (standing.Variable v) = gave-after Same Quiet (target_by place level t id (standing.Variable v) s) (assign_to value) (target-alike t id v) (λ l u k. (k, tt))
  assign-by-quiet t id value standing.PatternVariable = tt
  assign-by-quiet t id value (standing.Primitive o) = tt
  assign-by-quiet t id value (standing.Core f) = tt
  assign-by-quiet t id value (standing.Keyword l) = (refl, tt)

  assign-quiet : (t id value : Tree) → Gave Quiet (assign place level t id value s)
  unfolding assign
  assign-quiet t id value = assign-by-quiet t id value (standing_of s id)

  module _ (t : Tree) where
    operand-quiet : (f : CoreForm) (operand : Tree) → Gave Quiet (operand_plan place level t f operand s)
    operand-quiet core_forms.Syntax operand =
        gave-after Same Quiet (template_of place level operand s) (λ x. give (head_plans.Plan (plans.Done (instance x (place_of t place))))) (template-alike place level operand s) (λ x u k. (k, tt))
    operand-quiet core_forms.Quasiquote operand = (refl, tt)
    operand-quiet core_forms.Quasisyntax operand = (refl, tt)
    operand-quiet _ operand = tt

    sequence-quiet : (forms : List Tree) → Gave Quiet (in_sequence place t forms s)
    sequence-quiet [] = tt
    sequence-quiet (x ∷ xs) = (refl, tt)

    keywords-quiet : (f : CoreForm) (bs : List BindingSpec) (forms : List Tree) → Gave Quiet (keywords_plan place t f bs forms s)
    keywords-quiet f bs [] = tt
    keywords-quiet f bs (x ∷ xs) = (refl, tt)

    shape-quiet : (f : CoreForm) (x : Shape) → Gave Quiet (shape_plan place level t f x s)
    unfolding shape_plan
    shape-quiet f (shapes.Quote datum) = (refl, tt)
    shape-quiet f (shapes.Lambda ids forms) = (refl, tt)
    shape-quiet f (shapes.CaseLambda cs) = (refl, tt)
    shape-quiet f (shapes.If test consequent other) = (refl, tt)
    shape-quiet f (shapes.Set id value) = assign-quiet t id value
    shape-quiet f (shapes.Begin forms) = sequence-quiet forms
    shape-quiet f (shapes.Letrec bs forms) = (refl, tt)
    shape-quiet f (shapes.Define id value) = tt
    shape-quiet f (shapes.DefineProcedure id ids forms) = tt
    shape-quiet f (shapes.DefineSyntax id value) = tt
    shape-quiet f (shapes.LetSyntax bs forms) = keywords-quiet f bs forms
    shape-quiet f (shapes.Operand operand) = operand-quiet f operand
    shape-quiet f (shapes.SyntaxCase subject literals clauses) = (refl, tt)

    with-shape-quiet : (f : CoreForm) (r : Result Shape Fault) → Gave Quiet (with_shape place level t f r s)
    with-shape-quiet f (Err x) = tt
    with-shape-quiet f (Ok x) = shape-quiet f x

    role-quiet : (head : Tree) (f : CoreForm) (r : Role) → Gave Quiet (by_role place level t head f r s)
    role-quiet head f role.Expression = with-shape-quiet f (shape f t place)
    role-quiet head f role.Assignment = with-shape-quiet f (shape f t place)
    role-quiet head f role.Sequence = with-shape-quiet f (shape f t place)
    role-quiet head f role.Definition = with-shape-quiet f (shape f t place)
    role-quiet head f role.Keywords = with-shape-quiet f (shape f t place)
    role-quiet head f role.Record = tt
    role-quiet head f role.RecordValue = (refl, tt)
    role-quiet head f role.Auxiliary = tt

    application-quiet : (head rest : Tree) → Gave Quiet (application place t head rest s)
    unfolding application
    application-quiet head rest = by (proper_elements rest)
      where
        by : (o : Option (List Tree)) → Gave Quiet (call_of place t head o s)
        by None = tt
        by (Some ts) = (refl, tt)

    keyword-quiet : (head : Tree) (f : CoreForm) → Gave Quiet (keyword_plan place level t head f s)
    unfolding keyword_plan
    keyword-quiet head f = role-quiet head f (role_of f)

    head-quiet : (head rest : Tree) (st : Standing) → Gave Quiet (by_head place level t head rest st s)
    head-quiet head rest standing.Nothing = application-quiet head rest
    head-quiet head rest (standing.Variable v) = application-quiet head rest
    head-quiet head rest standing.PatternVariable = application-quiet head rest
    head-quiet head rest (standing.Primitive o) = application-quiet head rest
    head-quiet head rest (standing.Core f) = keyword-quiet head f
    head-quiet head rest (standing.Keyword l) = (refl, tt)

    list-quiet : (head rest : Tree) → Gave Quiet (list_plan place level t head rest s)
    unfolding list_plan
    list-quiet head rest = gave-if Quiet (is_leaf head) _ _ (λ e. head-quiet head rest (standing_of s head)) (λ e. application-quiet head rest)

  -- whatever the form is
  abbrev pub Planned : Tree → HeadPlan → State → Type 0
  Planned t p u = Alike s u × (is_leaf t ≡ false → HeadQuiet p)

  constant-planned : (t : Tree) (b : Bool) → Gave (Planned t) (constant place t b s)
  constant-planned t true = tt
  constant-planned t false = (refl, λ e. tt)

  planned-of : (t : Tree) (r : Result (HeadPlan × State) Fault) → Gave Quiet r → Gave (Planned t) r
  planned-of t (Ok p) h = (h.0, λ e. h.1)
  planned-of t (Err f) h = tt

  planned-leaf : (t : Tree) → is_leaf t ≡ true → (r : Result (HeadPlan × State) Fault) → Gave (Same {A = HeadPlan}) r → Gave (Planned t) r
  planned-leaf t leafy (Ok p) h = (h, λ e. absurd (differs (sym leafy ∙ e)))
    where
      differs : true ≡ false → ⊥
      differs e = absurd (cc)
  planned-leaf t leafy (Err f) h = tt

  pub plan-planned : (t : Tree) → Gave (Planned t) (plan_of place level t s)
  plan-planned (atom r a) = constant-planned (atom r a) (is_nil_atom a)
  plan-planned (leaf r x c) = planned-leaf (leaf r x c) refl (reference place level (leaf r x c) s) (reference-alike (leaf r x c))
  plan-planned (pair r a d) = planned-of (pair r a d) (list_plan place level (pair r a d) a d s) (list-quiet (pair r a d) a d)
  plan-planned (vector r d) = tt
