-- What is to be done with a form: plans case by case, and how the state changes while one is made.
use Rattle.std.proofs.Common.{◌≡◌, ℕ, Bool, true, false, List, [], ◌∷◌, Option, None, Some, Result, Ok, Err, refl, sym, subst, arith}
use Rattle.base_data.specs.Datum.{PlainDatum}
use Rattle.base_data.specs.declared.fault.Fault.{Fault}
use Rattle.base_data.specs.declared.library.LibName.{LibName}
use Rattle.base_data.specs.declared.name.Label.{Label}
use Rattle.base_data.specs.declared.span.Span.{Span}
use Rattle.stx_tree.specs.Leaves.{strip}
use Rattle.stx_tree.specs.Tree.{Tree, atom, leaf, pair, vector}
use Rattle.core_language.specs.Core.{quoted, instance}
use Rattle.core_language.specs.Template.{PlainTemplate}
use Rattle.core_language.specs.declared.core_form.CoreForm.{CoreForm}
use Rattle.core_language.specs.declared.core_form.CoreForm.TheVariants as core_forms
use Rattle.core_quasi.specs.declared.word.Family.TheVariants as family
use Rattle.core_shapes.specs.At.{place_of}
use Rattle.core_shapes.specs.Forms.{shape}
use Rattle.core_shapes.specs.Lists.{is_leaf, is_nil_atom, proper_elements}
use Rattle.core_shapes.specs.declared.shape.BindingSpec.{BindingSpec}
use Rattle.core_shapes.specs.declared.shape.Shape.{Shape}
use Rattle.core_shapes.specs.declared.shape.Shape.TheVariants as shapes
use Rattle.expand_standing.specs.Patterns.{has_variables, first_outside, outside_fault, template_in, template_of}
use Rattle.expand_standing.specs.Standing.{standing_of, role_of}
use Rattle.expand_standing.specs.State.{State}
use Rattle.expand_standing.specs.declared.standing.Role.{Role}
use Rattle.expand_standing.specs.declared.standing.Role.TheVariants as role
use Rattle.expand_standing.specs.declared.standing.Standing.{Standing}
use Rattle.expand_standing.specs.declared.standing.Standing.TheVariants as standing
use Rattle.eval_template.specs.Compile as templates
use Rattle.expand_heads.specs.declared.plan.HeadPlan.{HeadPlan}
use Rattle.expand_heads.specs.declared.plan.HeadPlan.TheVariants as head_plans
use Rattle.expand_heads.specs.Plan.{done, reference, constant, assign, keywords_plan, is_letrec_syntax, operand_plan, call_of, application, in_sequence, is_star, shape_plan, with_shape, by_role, keyword_plan, by_head, list_plan, plan_of}
use Rattle.expand_heads.specs.declared.plan.Plan.TheVariants as plans
use Rattle.expand_heads.specs.declared.plan.KeywordUse.TheVariants as keyword_use
use Rattle.law_expand.specs.States.{Later}
use Rattle.law_expand.proofs.Acts.{Gave, gave-after, gave-less, gave-if}
use Rattle.law_expand.proofs.Grows.{grows-same}
use Rattle.law_expand.proofs.Later.{keeps-same, later-self}
use Rattle.law_expand.proofs.References.{Refers, AssignsBy, marked, reference-is, assign-is}

-- a plan of forms alone, or a use
abbrev pub IsOfForms : HeadPlan → Type 0
IsOfForms (head_plans.Plan (plans.Done c)) = ⊥
IsOfForms (head_plans.Plan (plans.Call operator operands)) = Unit {0}
IsOfForms (head_plans.Plan (plans.Conditional test consequent other)) = Unit {0}
IsOfForms (head_plans.Plan (plans.Assignment l value)) = ⊥
IsOfForms (head_plans.Plan (plans.Sequence [])) = ⊥
IsOfForms (head_plans.Plan (plans.Sequence (x ∷ xs))) = Unit {0}
IsOfForms (head_plans.Plan (plans.Lambda ids forms)) = Unit {0}
IsOfForms (head_plans.Plan (plans.CaseLambda cs)) = Unit {0}
IsOfForms (head_plans.Plan (plans.Letrec star bs forms)) = Unit {0}
IsOfForms (head_plans.Plan (plans.Matching subject literals cs span)) = Unit {0}
IsOfForms (head_plans.Plan (plans.Keywords recursive bs [])) = ⊥
IsOfForms (head_plans.Plan (plans.Keywords recursive bs (x ∷ xs))) = Unit {0}
IsOfForms (head_plans.Plan (plans.Quasi which template)) = Unit {0}
IsOfForms (head_plans.Use l) = Unit {0}
IsOfForms (head_plans.SetUse l id) = ⊥

-- the plan of a template's instance
abbrev pub Instances : (HeadPlan → State → Type 0) → Span → ℕ → State → Type 0
Instances P place level s = (t operand : Tree) → Gave P (operand_plan place level t core_forms.Syntax operand s)

-- What holds of constants, references, assignments, instances of templates and plans of forms holds of each plan.
module _ (P : HeadPlan → State → Type 0) (place : Span) (level : ℕ) (s : State) (quotes : (d : PlainDatum) → P (head_plans.Plan (plans.Done (quoted d))) s) (refers : (id : Tree) → Gave P (reference place level id s))
    (assigns : (t id value : Tree) → Gave P (assign place level t id value s)) (instances : Instances P place level s) (forms : (p : HeadPlan) → IsOfForms p → P p s) where
  by-constant : (t : Tree) (is_nil : Bool) → Gave P (constant place t is_nil s)
  by-constant t true = tt
  by-constant t false = quotes (strip t)

  by-application : (t operator rest : Tree) → Gave P (application place t operator rest s)
  unfolding application
  by-application t operator rest = by (proper_elements rest)
    where
      by : (o : Option (List Tree)) → Gave P (call_of place t operator o s)
      by None = tt
      by (Some operands) = forms (head_plans.Plan (plans.Call operator operands)) tt

  by-sequence : (t : Tree) (xs : List Tree) → Gave P (in_sequence place t xs s)
  by-sequence t [] = tt
  by-sequence t (x ∷ xs) = forms (head_plans.Plan (plans.Sequence (x ∷ xs))) tt

  by-keywords : (t : Tree) (f : CoreForm) (bs : List BindingSpec) (xs : List Tree) → Gave P (keywords_plan place t f bs xs s)
  by-keywords t f bs [] = tt
  by-keywords t f bs (x ∷ xs) = forms (head_plans.Plan (plans.Keywords (is_letrec_syntax f) bs (x ∷ xs))) tt

  by-operand : (t : Tree) (f : CoreForm) (operand : Tree) → Gave P (operand_plan place level t f operand s)
  by-operand t core_forms.Syntax operand = instances t operand
  by-operand t core_forms.Quasiquote operand = forms (head_plans.Plan (plans.Quasi family.Quote operand)) tt
  by-operand t core_forms.Quasisyntax operand = forms (head_plans.Plan (plans.Quasi family.Syntax operand)) tt
  by-operand t _ operand = tt

  by-shape : (t : Tree) (f : CoreForm) (x : Shape) → Gave P (shape_plan place level t f x s)
  unfolding shape_plan
  by-shape t f (shapes.Quote datum) = quotes (strip datum)
  by-shape t f (shapes.Lambda ids body) = forms (head_plans.Plan (plans.Lambda ids body)) tt
  by-shape t f (shapes.CaseLambda cs) = forms (head_plans.Plan (plans.CaseLambda cs)) tt
  by-shape t f (shapes.If test consequent other) = forms (head_plans.Plan (plans.Conditional test consequent other)) tt
  by-shape t f (shapes.Set id value) = assigns t id value
  by-shape t f (shapes.Begin xs) = by-sequence t xs
  by-shape t f (shapes.Letrec bs body) = forms (head_plans.Plan (plans.Letrec (is_star f) bs body)) tt
  by-shape t f (shapes.Define id value) = tt
  by-shape t f (shapes.DefineProcedure id ids body) = tt
  by-shape t f (shapes.DefineSyntax id value) = tt
  by-shape t f (shapes.LetSyntax bs body) = by-keywords t f bs body
  by-shape t f (shapes.Operand operand) = by-operand t f operand
  by-shape t f (shapes.SyntaxCase subject literals clauses) = forms (head_plans.Plan (plans.Matching subject literals clauses (place_of t place))) tt

  by-shaped : (t : Tree) (f : CoreForm) (r : Result Shape Fault) → Gave P (with_shape place level t f r s)
  by-shaped t f (Err e) = tt
  by-shaped t f (Ok x) = by-shape t f x

  by-role : (t head : Tree) (f : CoreForm) (r : Role) → Gave P (by_role place level t head f r s)
  by-role t head f role.Expression = by-shaped t f (shape f t place)
  by-role t head f role.Assignment = by-shaped t f (shape f t place)
  by-role t head f role.Sequence = by-shaped t f (shape f t place)
  by-role t head f role.Definition = by-shaped t f (shape f t place)
  by-role t head f role.Keywords = by-shaped t f (shape f t place)
  by-role t head f role.Record = tt
  by-role t head f role.RecordValue = forms (head_plans.Use (keyword_use.Record f)) tt
  by-role t head f role.Auxiliary = tt

  by-keyword : (t head : Tree) (f : CoreForm) → Gave P (keyword_plan place level t head f s)
  unfolding keyword_plan
  by-keyword t head f = by-role t head f (role_of f)

  by-standing : (t head rest : Tree) (st : Standing) → Gave P (by_head place level t head rest st s)
  by-standing t head rest standing.Nothing = by-application t head rest
  by-standing t head rest (standing.Variable v) = by-application t head rest
  by-standing t head rest standing.PatternVariable = by-application t head rest
  by-standing t head rest (standing.Primitive op) = by-application t head rest
  by-standing t head rest (standing.Core f) = by-keyword t head f
  by-standing t head rest (standing.Keyword l) = forms (head_plans.Use (keyword_use.Macro l)) tt

  by-list : (t head rest : Tree) → Gave P (list_plan place level t head rest s)
  unfolding list_plan
  by-list t head rest = gave-if P (is_leaf head) _ _ (λ e. by-standing t head rest (standing_of s head)) (λ e. by-application t head rest)

  pub plan-cases : (t : Tree) → Gave P (plan_of place level t s)
  plan-cases (atom r a) = by-constant (atom r a) (is_nil_atom a)
  plan-cases (leaf r x c) = refers (leaf r x c)
  plan-cases (pair r a d) = by-list (pair r a d) a d
  plan-cases (vector r d) = tt

-- a template leaves the state as it is
pub record IsTemplate (place : Span) (level : ℕ) (t : Tree) (s : State) (x : PlainTemplate) (u : State) : Type 0 where
  pub same : u ≡ s
  pub compiled : templates.compiled (record { frames = s.frames; bindings = s.bindings; level = level; place = place }) t ≡ Ok x
  pub in_scope : has_variables s.scope x ≡ true

pub template-is : (place : Span) (level : ℕ) (t : Tree) (s : State) → Gave (IsTemplate place level t s) (template_of place level t s)
unfolding template_of
template-is place level t s = by (templates.compiled (record { frames = s.frames; bindings = s.bindings; level = level; place = place }) t) refl
  where
    outside : (o : Option Tree) → Gave (IsTemplate place level t s) (outside_fault place t o s)
    outside None = tt
    outside (Some id) = tt

    by : (r : Result PlainTemplate Fault) → templates.compiled (record { frames = s.frames; bindings = s.bindings; level = level; place = place }) t ≡ r → Gave (IsTemplate place level t s) (template_in place t s r)
    by (Err e) is = tt
    by (Ok x) is = gave-if (IsTemplate place level t s) (has_variables s.scope x) _ _ (λ e. record { same = refl; compiled = is; in_scope = e }) (λ e. outside (first_outside s t))

module _ (own : LibName) (place : Span) (level : ℕ) (s : State) (next : s.names.library ≡ own) where
  abbrev Moves : {A : Type 0} → A → State → Type 0
  Moves a t = Later own s t

  marked-later : (l : Label) → Later own s (marked l s)
  marked-later l = record { here = refl; next = next; up = omega arith; same = λ f o. refl; grows = grows-same own s (marked l s) refl refl refl (omega arith); scope = refl; tops = λ m v o b. b; keeps = keeps-same own s (marked l s) refl refl }

  assigned-later : (id value : Tree) (st : Standing) (p : HeadPlan) (u : State) → AssignsBy place level s id value st p u → Later own s u
  assigned-later id value standing.Nothing p u k = elim k [ ]
  assigned-later id value (standing.Variable v) p u k = subst (Later own s) (sym k.1.0) (marked-later v.label)
  assigned-later id value standing.PatternVariable p u k = elim k [ ]
  assigned-later id value (standing.Primitive op) p u k = elim k [ ]
  assigned-later id value (standing.Core f) p u k = elim k [ ]
  assigned-later id value (standing.Keyword l) p u k = subst (Later own s) (sym k.1) (later-self own s next)

  -- at most an assignment is noted
  pub plan-later : (t : Tree) → Gave (λ p u. Later own s u) (plan_of place level t s)
  plan-later t = plan-cases Moves place level s (λ d. later-self own s next)
      (λ id. gave-less (Refers place level s (standing_of s id)) Moves (reference place level id s) (reference-is place level s id) (λ p u k. subst (Later own s) (sym k.0) (later-self own s next)))
      (λ x id value. gave-less (AssignsBy place level s id value (standing_of s id)) Moves (assign place level x id value s) (assign-is place level s x id value) (λ p u k. assigned-later id value (standing_of s id) p u k))
      (λ x operand. gave-after (IsTemplate place level operand s) Moves (template_of place level operand s) (λ y. done (instance y (place_of x place))) (template-is place level operand s) (λ y u k. subst (Later own s) (sym k.same) (later-self own s next)))
      (λ p h. later-self own s next) t
