-- The planned form of a form, where that is a reference or an assignment, names what its identifier stands for.
use Rattle.std.proofs.Common.{◌≡◌, ℕ, zero, suc, Bool, true, false, List, [], ◌∷◌, Option, None, Some, Result, Ok, Err, refl, sym, ap, ◌∙◌, subst, inl, inr, if◌then◌else◌}
use Rattle.std.specs.Prelude.{◌⊎◌, nat_lt}
use Rattle.base_data.specs.Act.{after, give}
use Rattle.base_data.specs.Op.{name_count, is_keyword}
use Rattle.base_data.specs.Same.{same_library}
use Rattle.base_data.specs.declared.fault.Fault.{Fault}
use Rattle.base_data.specs.declared.library.LibName.TheVariants as library
use Rattle.base_data.specs.declared.op.Op.{Op}
use Rattle.base_data.specs.declared.name.Label.{Label}
use Rattle.base_data.specs.declared.span.Span.{Span}
use Rattle.stx_tree.specs.Tree.{Tree, atom, leaf, pair, vector, span_of}
use Rattle.stx_scope.specs.Stands.{stands}
use Rattle.core_language.specs.Bindings.{bound_to}
use Rattle.core_language.specs.Core as core
use Rattle.core_language.specs.Core.{PlainCore, variable, primitive, instance}
use Rattle.core_language.specs.CoreForm.{at_number}
use Rattle.core_language.specs.Template.{PlainTemplate}
use Rattle.core_language.specs.declared.binding.Binding.{Binding}
use Rattle.core_language.specs.declared.binding.Binding.TheVariants as binding
use Rattle.core_language.specs.declared.core_form.CoreForm.{CoreForm}
use Rattle.core_language.specs.declared.core_form.CoreForm.TheVariants as core_forms
use Rattle.core_language.specs.declared.record.CompiledLibrary.{CompiledLibrary}
use Rattle.core_language.specs.declared.link.Link.{Link}
use Rattle.core_language.specs.declared.link.LinkKind.TheVariants as kinds
use Rattle.core_shapes.specs.At.{place_of}
use Rattle.core_shapes.specs.Forms.{shape}
use Rattle.core_shapes.specs.Lists.{is_leaf, is_nil_atom, proper_elements}
use Rattle.core_shapes.specs.declared.shape.BindingSpec.{BindingSpec}
use Rattle.core_shapes.specs.declared.shape.Shape.{Shape}
use Rattle.core_shapes.specs.declared.shape.Shape.TheVariants as shapes
use Rattle.expand_standing.specs.Patterns.{template_of}
use Rattle.expand_standing.specs.Standing.{label_standing, numbered_as, given_as, bound_as, standing_by, standing_of, role_of}
use Rattle.expand_standing.specs.State.{State, Does}
use Rattle.expand_standing.specs.Uses.{asks_variable}
use Rattle.expand_standing.specs.declared.standing.Role.{Role}
use Rattle.expand_standing.specs.declared.standing.Role.TheVariants as role
use Rattle.expand_standing.specs.declared.standing.Standing.{Standing}
use Rattle.expand_standing.specs.declared.standing.Standing.TheVariants as standing
use Rattle.expand_standing.proofs.Noted.{noted-keeps}
use Rattle.expand_heads.specs.declared.plan.HeadPlan.{HeadPlan}
use Rattle.expand_heads.specs.declared.plan.HeadPlan.TheVariants as head_plans
use Rattle.expand_heads.specs.Plan.{reference, constant, target_by, assign_to, assign_by, assign, call_of, application, in_sequence, keywords_plan, operand_plan, shape_plan, with_shape, by_role, keyword_plan, by_head, list_plan, plan_of}
use Rattle.expand_heads.specs.declared.plan.KeywordUse.{KeywordUse}
use Rattle.expand_heads.specs.declared.plan.Plan.{Plan}
use Rattle.expand_heads.specs.declared.plan.Plan.TheVariants as plans
use Rattle.expand_forms.specs.ExpandUses.{next_form, too_many, set_step, step_of, step, target_span, linked, linked_code, planned_by, expand_uses_to, expand_uses}
use Rattle.expand_forms.specs.declared.expand_uses.PlannedForm.{PlannedForm}
use Rattle.expand_forms.specs.declared.expand_uses.PlanOrUse.{PlanOrUse}
use Rattle.expand_forms.specs.declared.expand_uses.PlanOrUse.TheVariants as steps
use Rattle.law_expand.specs.Named.{RefersTo}
use Rattle.law_references.specs.Changes.{placed}
use Rattle.law_references.specs.Namings.{namings}
use Rattle.law_references.specs.Noted.{Reference}
use Rattle.law_references.specs.Templates.{IsTemplateOf}
use Rattle.law_references.proofs.Shaping.{set-only}
use Rattle.law_references.proofs.Templating.{TemplateNames, template-of-names}
use Rattle.law_expand.proofs.Acts.{Gave, gave-any, gave-both, gave-after, gave-less, gave-if}
use Rattle.law_expand.proofs.Named.{assignments-named}
use Rattle.law_expand.proofs.References.{RefersBy, Refers, Targets, reference-is, target_by-is}
use Rattle.law_expand.proofs.Named.{OfLabel, label-kept}

-- The variable of a standing has the label that was asked for.

gave-told : {A : Type 0} (P : A → State → Type 0) (r : Result (A × State) Fault) → ((a : A) (u : State) → r ≡ Ok (a, u) → P a u) → Gave P r
gave-told P (Ok p) h = h p.0 p.1 refl
gave-told P (Err e) h = tt

-- What a plan tells of its form: a reference names what its leaf stands for, and so does the target of an assignment.

abbrev pub IsReference : Tree → PlainCore → State → Type 0
IsReference t c u = (l : Label) × ((is_leaf t ≡ true) × ((stands u.frames t ≡ Some l) × RefersTo u (Some l) c))

abbrev pub IsConstant : Tree → PlainCore → Type 0
IsConstant t c = (is_leaf t ≡ false) × (namings c ≡ [])

-- the template of a `syntax` form
pub record IsSyntax (place : Span) (level : ℕ) (t : Tree) (c : PlainCore) (u : State) : Type 0 where
  pub operand : Tree
  pub shaped : shape core_forms.Syntax t place ≡ Ok (shapes.Operand operand)
  pub template : PlainTemplate
  pub made : template_of place level operand u ≡ Ok (template, u)
  pub references : List Reference
  pub is : IsTemplateOf u (placed place level) operand template references
  pub code : c ≡ instance template (place_of t place)

abbrev pub IsTarget : Span → Tree → Label → Tree → State → Type 0
IsTarget place t l value u = (id : Tree) × ((shape core_forms.Set t place ≡ Ok (shapes.Set id value)) × (stands u.frames id ≡ Some l))

abbrev pub Plans : ℕ → Span → Tree → Plan → State → Type 0
Plans level place t (plans.Done c) u = IsReference t c u ⊎ (IsConstant t c ⊎ IsSyntax place level t c u)
Plans level place t (plans.Assignment l value) u = IsTarget place t l value u
Plans level place t _ u = Unit {0}

abbrev pub HeadPlans : ℕ → Span → Tree → HeadPlan → State → Type 0
HeadPlans level place t (head_plans.Plan p) u = Plans level place t p u
HeadPlans level place t _ u = Unit {0}

-- a leaf
module _ (place : Span) (level : ℕ) (t : Tree) (leafy : is_leaf t ≡ true) (s : State) where
  refers-so : (l : Label) (st : Standing) (p : HeadPlan) → stands s.frames t ≡ Some l → label_standing s l ≡ st → OfLabel l st → RefersBy level s st p → HeadPlans level place t p s
  refers-so l standing.Nothing p e is of h = absurd h
  refers-so l (standing.Variable v) p e is of h = subst (λ q. HeadPlans level place t q s) (sym h.0) (inl (l, (leafy, (e, inl (ap variable of)))))
  refers-so l standing.PatternVariable p e is of h = absurd h
  refers-so l (standing.Primitive o) p e is of h = subst (λ q. HeadPlans level place t q s) (sym h) (inl (l, (leafy, (e, inr (o, (is, refl))))))
  refers-so l (standing.Core f) p e is of h = absurd h
  refers-so l (standing.Keyword m) p e is of h = subst (λ q. HeadPlans level place t q s) (sym h) tt

  stood-so : (o : Option Label) (p : HeadPlan) (u : State) → stands s.frames t ≡ o → Refers place level s (standing_by s o) p u → HeadPlans level place t p u
  stood-so None p u e h = absurd h.1
  stood-so (Some l) p u e h = subst (HeadPlans level place t p) (sym h.0) (refers-so l (label_standing s l) p e refl (label-kept s l) h.1)

  leaf-plans : Gave (HeadPlans level place t) (reference place level t s)
  unfolding standing_of
  leaf-plans = gave-less (Refers place level s (standing_by s (stands s.frames t))) (HeadPlans level place t) (reference place level t s) (reference-is place level s t) (λ p u k. stood-so (stands s.frames t) p u refl k)

-- a list
module _ (place : Span) (level : ℕ) (t : Tree) (compound : is_leaf t ≡ false) (s : State) where
  abbrev Right : HeadPlan → State → Type 0
  Right p u = HeadPlans level place t p u

  abbrev Assigned : Tree → Label → State → Type 0
  Assigned id l u = stands u.frames id ≡ Some l

  target-so : (id : Tree) → Gave (Assigned id) (target_by place level t id (standing_of s id) s)
  target-so id =
      gave-less (λ l u. (stands s.frames id ≡ Some l) × Targets place level s (standing_of s id) l u) (Assigned id) (target_by place level t id (standing_of s id) s)
      (gave-both (λ l u. stands s.frames id ≡ Some l) (Targets place level s (standing_of s id)) (target_by place level t id (standing_of s id) s)
      (gave-told (λ l u. stands s.frames id ≡ Some l) (target_by place level t id (standing_of s id) s) (λ l u e. assignments-named place level t id s u l e)) (target_by-is place level s t id (standing_of s id)))
      (λ l u k. ap (λ (v : State). stands v.frames id) k.1.0 ∙ k.0)

  assign-by : (f : CoreForm) (id value : Tree) → shape f t place ≡ Ok (shapes.Set id value) → (st : Standing) → Gave (Assigned id) (target_by place level t id st s) → Gave Right (assign_by place level t id value st s)
  assign-by f id value e standing.Nothing h = tt
  assign-by f id value e (standing.Variable v) h = gave-after (Assigned id) Right (target_by place level t id (standing.Variable v) s) (assign_to value) h (λ l u k. (id, (set-only f t place id value e, k)))
  assign-by f id value e standing.PatternVariable h = tt
  assign-by f id value e (standing.Primitive op) h = tt
  assign-by f id value e (standing.Core g) h = tt
  assign-by f id value e (standing.Keyword l) h = tt

  assign-so : (f : CoreForm) (id value : Tree) → shape f t place ≡ Ok (shapes.Set id value) → Gave Right (assign place level t id value s)
  unfolding assign
  assign-so f id value e = assign-by f id value e (standing_of s id) (target-so id)

  syntax-so : (operand : Tree) → shape core_forms.Syntax t place ≡ Ok (shapes.Operand operand) → Gave Right (after (template_of place level operand s) (λ x. give (head_plans.Plan (plans.Done (instance x (place_of t place))))))
  syntax-so operand e =
      gave-after (λ x u. (template_of place level operand s ≡ Ok (x, u)) × TemplateNames place level operand s x u) Right (template_of place level operand s) (λ x. give (head_plans.Plan (plans.Done (instance x (place_of t place)))))
      (gave-both (λ x u. template_of place level operand s ≡ Ok (x, u)) (TemplateNames place level operand s) (template_of place level operand s) (gave-told (λ x u. template_of place level operand s ≡ Ok (x, u)) (template_of place level operand s) (λ x u i. i))
      (template-of-names place level operand s))
      (λ x u k. subst (λ (v : State). Right (head_plans.Plan (plans.Done (instance x (place_of t place)))) v) (sym k.1.0) (inr (inr (record {
        operand = operand;
        shaped = e;
        template = x;
        made = subst (λ (v : State). template_of place level operand s ≡ Ok (x, v)) k.1.0 k.0;
        references = k.1.1.0;
        is = k.1.1.1;
        code = refl;
      }))))

  operand-so : (f : CoreForm) (operand : Tree) → shape f t place ≡ Ok (shapes.Operand operand) → Gave Right (operand_plan place level t f operand s)
  operand-so core_forms.Syntax operand e = syntax-so operand e
  operand-so core_forms.Quasiquote operand e = tt
  operand-so core_forms.Quasisyntax operand e = tt
  operand-so _ operand e = tt

  sequence-so : (forms : List Tree) → Gave Right (in_sequence place t forms s)
  sequence-so [] = tt
  sequence-so (x ∷ xs) = tt

  keywords-so : (f : CoreForm) (bs : List BindingSpec) (forms : List Tree) → Gave Right (keywords_plan place t f bs forms s)
  keywords-so f bs [] = tt
  keywords-so f bs (x ∷ xs) = tt

  shape-so : (f : CoreForm) (x : Shape) → shape f t place ≡ Ok x → Gave Right (shape_plan place level t f x s)
  unfolding shape_plan
  shape-so f (shapes.Quote datum) e = inr (inl (compound, refl))
  shape-so f (shapes.Lambda ids forms) e = tt
  shape-so f (shapes.CaseLambda cs) e = tt
  shape-so f (shapes.If test consequent other) e = tt
  shape-so f (shapes.Set id value) e = assign-so f id value e
  shape-so f (shapes.Begin forms) e = sequence-so forms
  shape-so f (shapes.Letrec bs forms) e = tt
  shape-so f (shapes.Define id value) e = tt
  shape-so f (shapes.DefineProcedure id ids forms) e = tt
  shape-so f (shapes.DefineSyntax id value) e = tt
  shape-so f (shapes.LetSyntax bs forms) e = keywords-so f bs forms
  shape-so f (shapes.Operand operand) e = operand-so f operand e
  shape-so f (shapes.SyntaxCase subject literals clauses) e = tt

  with-shape-so : (f : CoreForm) (r : Result Shape Fault) → shape f t place ≡ r → Gave Right (with_shape place level t f r s)
  with-shape-so f (Err x) e = tt
  with-shape-so f (Ok x) e = shape-so f x e

  role-so : (head : Tree) (f : CoreForm) (r : Role) → Gave Right (by_role place level t head f r s)
  role-so head f role.Expression = with-shape-so f (shape f t place) refl
  role-so head f role.Assignment = with-shape-so f (shape f t place) refl
  role-so head f role.Sequence = with-shape-so f (shape f t place) refl
  role-so head f role.Definition = with-shape-so f (shape f t place) refl
  role-so head f role.Keywords = with-shape-so f (shape f t place) refl
  role-so head f role.Record = tt
  role-so head f role.RecordValue = tt
  role-so head f role.Auxiliary = tt

  application-so : (head rest : Tree) → Gave Right (application place t head rest s)
  unfolding application
  application-so head rest = by (proper_elements rest)
    where
      by : (o : Option (List Tree)) → Gave Right (call_of place t head o s)
      by None = tt
      by (Some ts) = tt

  keyword-so : (head : Tree) (f : CoreForm) → Gave Right (keyword_plan place level t head f s)
  unfolding keyword_plan
  keyword-so head f = role-so head f (role_of f)

  head-so : (head rest : Tree) (st : Standing) → Gave Right (by_head place level t head rest st s)
  head-so head rest standing.Nothing = application-so head rest
  head-so head rest (standing.Variable v) = application-so head rest
  head-so head rest standing.PatternVariable = application-so head rest
  head-so head rest (standing.Primitive op) = application-so head rest
  head-so head rest (standing.Core f) = keyword-so head f
  head-so head rest (standing.Keyword l) = tt

  list-so : (head rest : Tree) → Gave Right (list_plan place level t head rest s)
  unfolding list_plan
  list-so head rest = gave-if Right (is_leaf head) _ _ (λ e. head-so head rest (standing_of s head)) (λ e. application-so head rest)

constant-so : (place : Span) (level : ℕ) (t : Tree) → is_leaf t ≡ false → (b : Bool) (s : State) → Gave (HeadPlans level place t) (constant place t b s)
constant-so place level t e true s = tt
constant-so place level t e false s = inr (inl (e, refl))

plan-so : (place : Span) (level : ℕ) (t : Tree) (s : State) → Gave (HeadPlans level place t) (plan_of place level t s)
plan-so place level (atom r a) s = constant-so place level (atom r a) refl (is_nil_atom a) s
plan-so place level (leaf r x c) s = leaf-plans place level (leaf r x c) refl s
plan-so place level (pair r a d) s = list-so place level (pair r a d) refl s a d
plan-so place level (vector r d) s = tt

-- Planned forms.
module _ (rs : List CompiledLibrary) (level : ℕ) where
  abbrev pub Settles : PlannedForm → State → Type 0
  Settles d u = Plans level d.place d.form d.plan u

  abbrev Steps : Span → Tree → PlanOrUse → State → Type 0
  Steps place t (steps.Plan p) u = Plans level place t p u
  Steps place t (steps.Use k) u = Unit {0}

  set-so : (place : Span) (t : Tree) (l : Label) (id : Tree) (b : Bool) (s : State) → Gave (Steps place t) (set_step place t l id b s)
  set-so place t l id true s = tt
  set-so place t l id false s = tt

  step-of-so : (place : Span) (t : Tree) (p : HeadPlan) (s : State) → HeadPlans level place t p s → Gave (Steps place t) (step_of rs place t p s)
  step-of-so place t (head_plans.Use k) s h = tt
  step-of-so place t (head_plans.SetUse l id) s h =
      gave-after (λ b u. Unit {0}) (Steps place t) (asks_variable rs (place_of t place) l s) (set_step place t l id) (gave-any (λ b u. Unit {0}) (asks_variable rs (place_of t place) l s) (λ b u. tt)) (λ b u k. set-so place t l id b u)
  step-of-so place t (head_plans.Plan p) s h = h

  step-so : (place : Span) (t : Tree) (s : State) → Gave (Steps place t) (step rs place level t s)
  unfolding step
  step-so place t s = gave-after (HeadPlans level place t) (Steps place t) (plan_of place level t s) (step_of rs place t) (plan-so place level t s) (λ p u h. step-of-so place t p u h)

  -- a reference and the target of an assignment stay what they are with their links; constants and templates have none
  refers-links : (t : Tree) (c : PlainCore) (u : State) (ls : List Link) → IsReference t c u → IsReference t c (record u { links = ls })
  unfolding label_standing
  refers-links t c u ls h = (h.0, (h.1.0, (h.1.1.0, by h.1.1.1)))
    where
      by : RefersTo u (Some h.0) c → RefersTo (record u { links = ls }) (Some h.0) c
      by (inl e) = inl e
      by (inr p) = inr (p.0, (p.1.0, p.1.1))

  variable-so : (place : Span) (t : Tree) (l : Label) (u v : State) → (IsReference t (variable l) u → IsReference t (variable l) v) → Plans level place t (plans.Done (variable l)) u → Plans level place t (plans.Done (variable l)) v
  variable-so place t l u v k (inl r) = inl (k r)
  variable-so place t l u v k (inr (inl c)) = inr (inl c)
  variable-so place t l u v k (inr (inr x)) = let e = x.code in absurd (cc)

  primitive-so : (place : Span) (t : Tree) (o : Op) (u v : State) → (IsReference t (primitive o) u → IsReference t (primitive o) v) → Plans level place t (plans.Done (primitive o)) u → Plans level place t (plans.Done (primitive o)) v
  primitive-so place t o u v k (inl r) = inl (k r)
  primitive-so place t o u v k (inr (inl c)) = inr (inl c)
  primitive-so place t o u v k (inr (inr x)) = let e = x.code in absurd (cc)

  code-so : (place : Span) (t : Tree) (u : State) (c : PlainCore) → Plans level place t (plans.Done c) u → Plans level place t (plans.Done c) (linked_code t c u)
  code-so place t u (core.variable l) h = noted-keeps (Plans level place t (plans.Done (variable l))) (span_of t) l kinds.Refer u (λ ls. variable-so place t l u (record u { links = ls }) (refers-links t (variable l) u ls) h)
  code-so place t u (core.primitive o) h =
      noted-keeps (Plans level place t (plans.Done (primitive o))) (span_of t) (record { 0 = record { library = library.Core; number = o.0 } }) (kinds.Prim o) u (λ ls. primitive-so place t o u (record u { links = ls }) (refers-links t (primitive o) u ls) h)
  code-so place t u (core.quoted d) h = h
  code-so place t u (core.one_armed c d) h = h
  code-so place t u (core.two_armed c d e) h = h
  code-so place t u (core.assignment l c) h = h
  code-so place t u (core.sequence cs) h = h
  code-so place t u (core.procedure n cs b) h = h
  code-so place t u (core.letrec b is c) h = h
  code-so place t u (core.call c cs) h = h
  code-so place t u (core.instance p q) h = h
  code-so place t u (core.matching c cs q) h = h

  links-so : (place : Span) (t : Tree) (u : State) (p : Plan) → Plans level place t p u → Plans level place t p (linked t p u)
  links-so place t u (plans.Done c) h = code-so place t u c h
  links-so place t u (plans.Assignment l value) h = noted-keeps (IsTarget place t l value) (target_span t) l kinds.Refer u (λ ls. h)
  links-so place t u (plans.Call head operands) h = tt
  links-so place t u (plans.Conditional a b c) h = tt
  links-so place t u (plans.Sequence forms) h = tt
  links-so place t u (plans.Lambda ids forms) h = tt
  links-so place t u (plans.CaseLambda cases) h = tt
  links-so place t u (plans.Letrec star specs forms) h = tt
  links-so place t u (plans.Matching subject literals clauses span) h = tt
  links-so place t u (plans.Keywords recursive specs forms) h = tt
  links-so place t u (plans.Quasi family template) h = tt

  settled-so : (onward : KeywordUse → Does PlannedForm) (place : Span) (t : Tree) (x : PlanOrUse) (u : State) → ((k : KeywordUse) (v : State) → Gave Settles (onward k v)) → Steps place t x u → Gave Settles (planned_by onward place t x u)
  settled-so onward place t (steps.Plan p) u more h = links-so place t u p h
  settled-so onward place t (steps.Use k) u more h = more k u

  expand_uses-to-so : (left : ℕ) (place : Span) (t : Tree) (s : State) → Gave Settles (expand_uses_to rs left place level t s)
  unfolding expand_uses_to
  expand_uses-to-so zero place t s = gave-after (Steps place t) Settles (step rs place level t s) (planned_by (λ k. too_many t place) place t) (step-so place t s) (λ x u h. settled-so (λ k. too_many t place) place t x u (λ k v. tt) h)
  expand_uses-to-so (suc left) place t s =
      gave-after (Steps place t) Settles (step rs place level t s) (planned_by (λ k s'. after (next_form rs left place t k None s') (expand_uses_to rs left (place_of t place) level)) place t) (step-so place t s)
      (λ x u h. settled-so (λ k s'. after (next_form rs left place t k None s') (expand_uses_to rs left (place_of t place) level)) place t x u (onward (λ v w. expand_uses-to-so left (place_of t place) v w)) h)
    where
      onward : ((v : Tree) (w : State) → Gave Settles (expand_uses_to rs left (place_of t place) level v w)) → (k : KeywordUse) (v : State) → Gave Settles (after (next_form rs left place t k None v) (expand_uses_to rs left (place_of t place) level))
      onward again k v =
          gave-after (λ (x : Tree) w. Unit {0}) Settles (next_form rs left place t k None v) (expand_uses_to rs left (place_of t place) level) (gave-any (λ (x : Tree) w. Unit {0}) (next_form rs left place t k None v) (λ x w. tt)) (λ x w j. again x w)

  pub expand_uses-so : (place : Span) (t : Tree) (s : State) → Gave Settles (expand_uses rs place level t s)
  expand_uses-so place t s = expand_uses-to-so s.uses_left place t s
