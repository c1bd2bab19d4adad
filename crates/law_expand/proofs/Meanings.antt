-- What identifiers stand for, and the labels that expressions may refer to; plans refer to no others.
use Rattle.std.proofs.Common.{◌≡◌, ℕ, ◌<◌, Bool, true, false, List, [], ◌∷◌, ◌++◌, Option, None, Some, refl, sym, ◌∙◌, subst, arith, inl, inr, if◌then◌else◌}
use Rattle.std.specs.Prelude.{◌⊎◌, ◌||◌, nat_lt}
use Rattle.std.proofs.lemmas.Bool.{ltb-true}
use Rattle.base_data.proofs.ElementLemmas.{each-at, each-append, among-first, among-second}
use Rattle.base_data.specs.Elements.{Each, Among}
use Rattle.base_data.specs.Op.{name_count, is_keyword}
use Rattle.base_data.specs.Same.{same_library, same_library_decides}
use Rattle.base_data.specs.declared.library.LibName.{LibName}
use Rattle.base_data.specs.declared.library.LibName.TheVariants as library
use Rattle.base_data.specs.declared.name.Label.{Label}
use Rattle.base_data.specs.declared.span.Span.{Span}
use Rattle.stx_tree.specs.Tree.{Tree}
use Rattle.stx_scope.specs.Stands.{stands}
use Rattle.core_language.specs.Bindings.{bound_to}
use Rattle.core_language.specs.CoreForm.{at_number}
use Rattle.core_language.specs.Labels.{has_label}
use Rattle.core_language.specs.declared.binding.Binding.{Binding}
use Rattle.core_language.specs.declared.binding.Binding.TheVariants as binding
use Rattle.core_language.specs.declared.binding.VarInfo.{VarInfo}
use Rattle.core_language.specs.declared.core_form.CoreForm.{CoreForm}
use Rattle.core_language.specs.Core.{instance}
use Rattle.core_language.specs.Template.{PlainTemplate}
use Rattle.law_core.specs.Scope.{template_labels}
use Rattle.law_core.specs.Templates.{Depths, Suits}
use Rattle.law_core.proofs.LabelLemmas.{label-there}
use Rattle.core_shapes.specs.At.{place_of}
use Rattle.expand_standing.specs.Patterns.{template_of}
use Rattle.eval_template.specs.Compile as templates
use Rattle.expand_standing.specs.Standing.{label_standing, numbered_as, given_as, bound_as, standing_by, standing_of}
use Rattle.expand_standing.specs.State.{State}
use Rattle.expand_standing.specs.declared.standing.Standing.{Standing}
use Rattle.expand_standing.specs.declared.standing.Standing.TheVariants as standing
use Rattle.expand_heads.specs.declared.plan.HeadPlan.{HeadPlan}
use Rattle.expand_heads.specs.declared.plan.HeadPlan.TheVariants as head_plans
use Rattle.expand_heads.specs.Plan.{done, reference, assign, plan_of}
use Rattle.expand_heads.specs.declared.plan.Plan.{Plan}
use Rattle.expand_heads.specs.declared.plan.Plan.TheVariants as plans
use Rattle.law_expand.specs.States.{Adds, Grows, IsOwn, IsPrimitive, IsTop, IsPattern, Later, ReachOfCode, Sound}
use Rattle.law_expand.proofs.Acts.{Gave, gave-after, gave-less}
use Rattle.law_expand.proofs.Fresh.{each-map}
use Rattle.law_expand.proofs.Good.{Bindings, IsVariableIn, Good, good-quoted, good-variable, good-primitive, good-instance}
use Rattle.law_expand.proofs.Plans.{IsOfForms, IsTemplate, template-is, plan-cases}
use Rattle.law_expand.proofs.References.{MayRefer, RefersBy, AssignsBy, Refers, reference-is, assign-is}
use Rattle.law_expand.proofs.Scope.{adds-later}
use Rattle.law_expand.proofs.Templated.{IfGood, TemplateFits, compiled-fits, fits-suit}

-- what may be referred to is among the labels
abbrev Fits : ℕ → List Label → State → Standing → Type 0
Fits level ls s standing.Nothing = Unit {0}
Fits level ls s (standing.Variable v) = (MayRefer level s v → Among ls v.label) × IsVariableIn s.bindings v.label
Fits level ls s standing.PatternVariable = Unit {0}
Fits level ls s (standing.Primitive op) = IsPrimitive op
Fits level ls s (standing.Core f) = Unit {0}
Fits level ls s (standing.Keyword l) = Unit {0}

-- what a plan has itself
abbrev pub Planned : LibName → Bindings → Depths → List Label → ℕ → Plan → Type 0
Planned own bs vs ls n (plans.Done c) = Good own bs vs ls n n c
Planned own bs vs ls n (plans.Call operator operands) = Unit {0}
Planned own bs vs ls n (plans.Conditional test consequent other) = Unit {0}
Planned own bs vs ls n (plans.Assignment l value) = IsVariableIn bs l × Among ls l
Planned own bs vs ls n (plans.Sequence []) = ⊥
Planned own bs vs ls n (plans.Sequence (x ∷ xs)) = Unit {0}
Planned own bs vs ls n (plans.Lambda ids forms) = Unit {0}
Planned own bs vs ls n (plans.CaseLambda cs) = Unit {0}
Planned own bs vs ls n (plans.Letrec star specs forms) = Unit {0}
Planned own bs vs ls n (plans.Matching subject literals cs span) = Unit {0}
Planned own bs vs ls n (plans.Keywords recursive specs []) = ⊥
Planned own bs vs ls n (plans.Keywords recursive specs (x ∷ xs)) = Unit {0}
Planned own bs vs ls n (plans.Quasi which template) = Unit {0}

abbrev pub HeadPlanned : LibName → Bindings → Depths → List Label → ℕ → HeadPlan → Type 0
HeadPlanned own bs vs ls n (head_plans.Plan p) = Planned own bs vs ls n p
HeadPlanned own bs vs ls n (head_plans.Use l) = Unit {0}
HeadPlanned own bs vs ls n (head_plans.SetUse l id) = Unit {0}

forms-planned : (own : LibName) (bs : Bindings) (vs : Depths) (ls : List Label) (n : ℕ) (p : HeadPlan) → IsOfForms p → HeadPlanned own bs vs ls n p
forms-planned own bs vs ls n (head_plans.Plan (plans.Done c)) h = elim h [ ]
forms-planned own bs vs ls n (head_plans.Plan (plans.Call operator operands)) h = tt
forms-planned own bs vs ls n (head_plans.Plan (plans.Conditional test consequent other)) h = tt
forms-planned own bs vs ls n (head_plans.Plan (plans.Assignment l value)) h = elim h [ ]
forms-planned own bs vs ls n (head_plans.Plan (plans.Sequence [])) h = elim h [ ]
forms-planned own bs vs ls n (head_plans.Plan (plans.Sequence (x ∷ xs))) h = tt
forms-planned own bs vs ls n (head_plans.Plan (plans.Lambda ids forms)) h = tt
forms-planned own bs vs ls n (head_plans.Plan (plans.CaseLambda cs)) h = tt
forms-planned own bs vs ls n (head_plans.Plan (plans.Letrec star specs forms)) h = tt
forms-planned own bs vs ls n (head_plans.Plan (plans.Matching subject literals cs span)) h = tt
forms-planned own bs vs ls n (head_plans.Plan (plans.Keywords recursive specs [])) h = elim h [ ]
forms-planned own bs vs ls n (head_plans.Plan (plans.Keywords recursive specs (x ∷ xs))) h = tt
forms-planned own bs vs ls n (head_plans.Plan (plans.Quasi which template)) h = tt
forms-planned own bs vs ls n (head_plans.Use l) h = tt
forms-planned own bs vs ls n (head_plans.SetUse l id) h = elim h [ ]

below : (m k : ℕ) → nat_lt m k ≡ true → m < k
below m k e = omega (arith, ltb-true)

module _ (own : LibName) (given : List Label) (vs : Depths) (level : ℕ) (ls : List Label) (s : State) (sound : Sound own given s) (reach : ReachOfCode own given vs level s ls) where
  numbered-fits : (l : Label) → Fits level ls s (numbered_as l)
  numbered-fits l = by (nat_lt l.0.number name_count) refl
    where
      by_keyword : l.0.number < name_count → (b : Bool) → is_keyword l.0.number ≡ b → Fits level ls s (if b then standing.Nothing else standing.Primitive (record { 0 = l.0.number }))
      by_keyword lt true e = tt
      by_keyword lt false e = (lt, e)

      by_form : l.0.number < name_count → (o : Option CoreForm) → Fits level ls s (given_as l o)
      by_form lt (Some f) = tt
      by_form lt None = by_keyword lt (is_keyword l.0.number) refl

      by : (b : Bool) → nat_lt l.0.number name_count ≡ b → Fits level ls s (if b then given_as l (at_number l.0.number) else standing.Nothing)
      by true e = by_form (below l.0.number name_count e) (at_number l.0.number)
      by false e = tt

  -- a variable of the library that is in scope
  own-there : (l : Label) (v : VarInfo) → IsOwn own l.0 → bound_to s.bindings l ≡ Some (binding.Variable v) → v.level ≡ level → (v.top || has_label s.scope l) ≡ true → Among ls l
  own-there l v mine e at in-scope = by v.top refl in-scope
    where
      by : (b : Bool) → v.top ≡ b → (b || has_label s.scope l) ≡ true → Among ls l
      by true top k = let r = reach.top l v mine (e, top) in r.1 (sym at ∙ r.0)
      by false top k = each-at (Among ls) s.scope l reach.scope (label-there s.scope l k)

  variable-there : (l : Label) (v : VarInfo) → bound_to s.bindings l ≡ Some (binding.Variable v)
      → MayRefer level s (record { label = l; own = same_library l.0.library s.library; level = v.level; top = v.top; assigned = v.assigned }) → Among ls l
  variable-there l v e (inl p) = own-there l v ((same_library_decides l.0.library s.library).0 p.0 ∙ sound.here) e p.1.0 p.1.1
  variable-there l v e (inr p) = let other = p.0 in reach.foreign l (sound.defined l v (λ mine. let k = (same_library_decides l.0.library s.library).1 (mine ∙ sym sound.here) in cc) e p.1)

  bound-fits : (l : Label) (o : Option Binding) → bound_to s.bindings l ≡ o → Fits level ls s (bound_as s l o)
  bound-fits l None e = tt
  bound-fits l (Some (binding.Variable v)) e = (variable-there l v e, (v, e))
  bound-fits l (Some (binding.PatternVariable level depth)) e = tt
  bound-fits l (Some (binding.Macro level expression)) e = tt
  bound-fits l (Some (binding.Core f)) e = tt
  bound-fits l (Some (binding.Primitive o)) e = sound.primitives l o e

  label-fits : (l : Label) → Fits level ls s (label_standing s l)
  unfolding label_standing
  label-fits l = by (same_library l.0.library library.Core)
    where
      by : (b : Bool) → Fits level ls s (if b then numbered_as l else bound_as s l (bound_to s.bindings l))
      by true = numbered-fits l
      by false = bound-fits l (bound_to s.bindings l) refl

  -- what any tree stands for, wherever it came from
  fits : (t : Tree) → Fits level ls s (standing_of s t)
  unfolding standing_of
  fits t = by (stands s.frames t)
    where
      by : (o : Option Label) → Fits level ls s (standing_by s o)
      by None = tt
      by (Some l) = label-fits l

  -- Plans.

  -- at this state
  abbrev P : HeadPlan → State → Type 0
  P p t = HeadPlanned own t.bindings vs ls t.names.number p

  planned-standing : (st : Standing) (p : HeadPlan) → Fits level ls s st → RefersBy level s st p → P p s
  planned-standing standing.Nothing p h k = elim k [ ]
  planned-standing (standing.Variable v) p h k = subst (λ q. P q s) (sym k.0) (good-variable own s.bindings vs ls s.names.number s.names.number v.label (omega arith) h.1 (h.0 k.1))
  planned-standing standing.PatternVariable p h k = elim k [ ]
  planned-standing (standing.Primitive op) p h k = subst (λ q. P q s) (sym k) (good-primitive own s.bindings vs ls s.names.number s.names.number op (omega arith) h)
  planned-standing (standing.Core f) p h k = elim k [ ]
  planned-standing (standing.Keyword l) p h k = subst (λ q. P q s) (sym k) tt

  -- noting an assignment changes no binding
  assigned-standing : (somewhere : Span) (id value : Tree) (st : Standing) (p : HeadPlan) (u : State) → Fits level ls s st → AssignsBy somewhere level s id value st p u → P p u
  assigned-standing somewhere id value standing.Nothing p u h k = elim k [ ]
  assigned-standing somewhere id value (standing.Variable v) p u h k = subst (λ q. P q u) (sym k.0) (subst (λ (t : State). P (head_plans.Plan (plans.Assignment v.label value)) t) (sym k.1.0) (h.1, h.0 k.1.1))
  assigned-standing somewhere id value standing.PatternVariable p u h k = elim k [ ]
  assigned-standing somewhere id value (standing.Primitive op) p u h k = elim k [ ]
  assigned-standing somewhere id value (standing.Core f) p u h k = elim k [ ]
  assigned-standing somewhere id value (standing.Keyword m) p u h k = subst (λ q. P q u) (sym k.0) tt

  -- the template of a form suits the pattern variables in scope
  pub template-suits : (place : Span) (t : Tree) (x : PlainTemplate) (u : State) → IsTemplate place level t s x u → Suits vs 0 x × Each (Among ls) (template_labels x)
  template-suits place t x u k =
      let c : templates.TemplateScope = record { frames = s.frames; bindings = s.bindings; level = level; place = place } in
      let fits = subst (IfGood (TemplateFits (λ l d. IsPattern s l level d) 0)) k.compiled (compiled-fits (λ l d. IsPattern s l level d) c (λ l d e. e) t) in
      let both = fits-suit (λ l d. IsPattern s l level d) s.scope vs (λ l d a p. reach.depths l level d a p) 0 x k.in_scope fits in
      (both.0, each-map (Among s.scope) (Among ls) (template_labels x) both.1 (λ l a. each-at (Among ls) s.scope l reach.scope a))

  pub planned-of : (place : Span) (t : Tree) → Gave P (plan_of place level t s)
  planned-of place t = plan-cases P place level s (λ d. good-quoted own s.bindings vs ls s.names.number s.names.number d (omega arith))
      (λ id. gave-less (Refers place level s (standing_of s id)) P (reference place level id s) (reference-is place level s id)
      (λ p u k. subst (P p) (sym k.0) (planned-standing (standing_of s id) p (fits id) k.1)))
      (λ x id value. gave-less (AssignsBy place level s id value (standing_of s id)) P (assign place level x id value s) (assign-is place level s x id value)
      (λ p u k. assigned-standing place id value (standing_of s id) p u (fits id) k))
      (λ x operand. gave-after (IsTemplate place level operand s) P (template_of place level operand s) (λ y. done (instance y (place_of x place))) (template-is place level operand s)
      (λ y u k. let suits = template-suits place operand y u k in subst (P (head_plans.Plan (plans.Done (instance y (place_of x place))))) (sym k.same) (good-instance own s.bindings vs ls s.names.number s.names.number y (place_of x place) (omega arith) suits.1 suits.0)))
      (λ p h. forms-planned own s.bindings vs ls s.names.number p h) t

-- Later states, and more labels.

module _ (own : LibName) (given : List Label) (vs : Depths) (level : ℕ) where
  pub reach-later : (s t : State) (ls : List Label) → Later own s t → Sound own given s → ReachOfCode own given vs level s ls → ReachOfCode own given vs level t ls
  reach-later s t ls h sound k = record {
    scope = subst (Each (Among ls)) (sym h.scope) k.scope;
    top = λ l v o b. k.top l v o (h.tops l v o b);
    foreign = k.foreign;
    depths = λ l at depth a p. by l at depth ((adds-later own false s t h).patterns sound.in_scope sound.numbered l at depth a p);
    patterns = each-map (λ (v : Label × ℕ). (at : ℕ) × IsPattern s v.0 at v.1) (λ (v : Label × ℕ). (at : ℕ) × IsPattern t v.0 at v.1) vs k.patterns (λ v p. (p.0, h.grows.bound v.0 (binding.PatternVariable p.0 v.1) p.1));
  }
    where
      by : (l : Label) (at depth : ℕ) → (Among s.scope l × IsPattern s l at depth) ⊎ Among {A = Label × ℕ} [] (l, depth) → Among vs (l, depth)
      by l at depth (inl x) = k.depths l at depth x.0 x.1
      by l at depth (inr x) = elim x [ ]

  pub reach-more : (s : State) (ls ms : List Label) → ((l : Label) → Among ls l → Among ms l) → ReachOfCode own given vs level s ls → ReachOfCode own given vs level s ms
  reach-more s ls ms w k = record {
    scope = each-map (Among ls) (Among ms) s.scope k.scope w;
    top = λ l v o b. let r = k.top l v o b in (r.0, (λ e. w l (r.1 e)));
    foreign = λ l a. w l (k.foreign l a);
    depths = k.depths;
    patterns = k.patterns;
  }

  -- where labels come, and pattern variables
  pub reach-added : (top : Bool) (ms ls : List Label) (ds : Depths) (s t : State) → Adds own top ms ds s t → Grows own s t → Each (λ (v : Label × ℕ). (at : ℕ) × IsPattern t v.0 at v.1) ds
      → Sound own given s → ReachOfCode own given vs level s ls → ReachOfCode own given (ds ++ vs) level t (ms ++ ls)
  reach-added top ms ls ds s t h grows are sound k = record {
    scope = subst (Each (Among (ms ++ ls))) (sym h.scope)
        (each-append (Among (ms ++ ls)) s.scope h.more
        (each-map (Among ls) (Among (ms ++ ls)) s.scope k.scope (among-second ms ls))
        (each-map (Among ms) (Among (ms ++ ls)) h.more h.new (among-first ms ls)));
    top = λ l v o b. by l v o (h.tops l v o b);
    foreign = λ l a. among-second ms ls l (k.foreign l a);
    depths = λ l at depth a p. depth-of l at depth (h.patterns sound.in_scope sound.numbered l at depth a p);
    patterns = each-append (λ (v : Label × ℕ). (at : ℕ) × IsPattern t v.0 at v.1) ds vs are
        (each-map (λ (v : Label × ℕ). (at : ℕ) × IsPattern s v.0 at v.1) (λ (v : Label × ℕ). (at : ℕ) × IsPattern t v.0 at v.1) vs k.patterns (λ v p. (p.0, grows.bound v.0 (binding.PatternVariable p.0 v.1) p.1)));
  }
    where
      by : (l : Label) (v : VarInfo) → IsOwn own l.0 → IsTop s l v ⊎ ((top ≡ true) × ((v.level ≡ 0) × Among ms l)) → (v.level ≡ 0) × (level ≡ 0 → Among (ms ++ ls) l)
      by l v o (inl b) = let r = k.top l v o b in (r.0, (λ e. among-second ms ls l (r.1 e)))
      by l v o (inr p) = (p.1.0, (λ e. among-first ms ls l p.1.1))

      depth-of : (l : Label) (at depth : ℕ) → (Among s.scope l × IsPattern s l at depth) ⊎ Among ds (l, depth) → Among (ds ++ vs) (l, depth)
      depth-of l at depth (inl x) = among-second ds vs (l, depth) (k.depths l at depth x.0 x.1)
      depth-of l at depth (inr x) = among-first ds vs (l, depth) x
