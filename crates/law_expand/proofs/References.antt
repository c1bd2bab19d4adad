-- What references and the targets of assignments are.
use Rattle.std.proofs.Common.{◌≡◌, ℕ, true, false, refl, ◌∙◌, ap, inl, inr}
use Rattle.std.specs.Prelude.{◌⊎◌, nat_eq}
use Rattle.std.specs.Cmp.{unsigned_Decides}
use Rattle.base_data.specs.declared.name.Label.{Label}
use Rattle.base_data.specs.declared.span.Span.{Span}
use Rattle.stx_tree.specs.Tree.{Tree}
use Rattle.core_language.specs.Core.{variable, primitive}
use Rattle.core_language.specs.Labels.{has_label, with_label}
use Rattle.expand_standing.specs.InScope.{is_in_scope}
use Rattle.expand_standing.specs.Standing.{standing_of}
use Rattle.expand_standing.specs.State.{State}
use Rattle.expand_standing.specs.declared.standing.Standing.{Standing}
use Rattle.expand_standing.specs.declared.standing.Standing.TheVariants as standing
use Rattle.expand_standing.specs.declared.standing.Variable.{Variable}
use Rattle.expand_heads.specs.declared.plan.HeadPlan.{HeadPlan}
use Rattle.expand_heads.specs.declared.plan.HeadPlan.TheVariants as head_plans
use Rattle.expand_heads.specs.Plan.{variable_at, refer, reference, target_variable, target_by, assign_to, assign_by, assign}
use Rattle.expand_heads.specs.declared.plan.Plan.TheVariants as plans
use Rattle.expand_heads.specs.declared.plan.KeywordUse.TheVariants as keyword_use
use Rattle.law_expand.proofs.Acts.{Gave, gave-after, gave-if}

-- an expression of this level may refer to the variable: to one of the library in scope, of this level, or to one of the top of another
abbrev pub MayRefer : ℕ → State → Variable → Type 0
MayRefer level s v = ((v.own ≡ true) × ((v.level ≡ level) × (is_in_scope s v ≡ true))) ⊎ ((v.own ≡ false) × (v.top ≡ true))

-- the plan of a reference, by what its identifier stands for
abbrev pub RefersBy : ℕ → State → Standing → HeadPlan → Type 0
RefersBy level s standing.Nothing p = ⊥
RefersBy level s (standing.Variable v) p = (p ≡ head_plans.Plan (plans.Done (variable v.label))) × MayRefer level s v
RefersBy level s standing.PatternVariable p = ⊥
RefersBy level s (standing.Primitive op) p = p ≡ head_plans.Plan (plans.Done (primitive op))
RefersBy level s (standing.Core f) p = ⊥
RefersBy level s (standing.Keyword l) p = p ≡ head_plans.Use (keyword_use.Macro l)

abbrev pub TargetBy : ℕ → State → Standing → Label → Type 0
TargetBy level s standing.Nothing l = ⊥
TargetBy level s (standing.Variable v) l = (l ≡ v.label) × MayRefer level s v
TargetBy level s standing.PatternVariable l = ⊥
TargetBy level s (standing.Primitive op) l = ⊥
TargetBy level s (standing.Core f) l = ⊥
TargetBy level s (standing.Keyword m) l = ⊥

abbrev pub marked : Label → State → State
marked l s = record s { assigned = with_label s.assigned l }

module _ (place : Span) (level : ℕ) (s : State) where
  abbrev pub Refers : Standing → HeadPlan → State → Type 0
  Refers st p t = (t ≡ s) × RefersBy level s st p

  abbrev pub Targets : Standing → Label → State → Type 0
  Targets st l t = (t ≡ marked l s) × TargetBy level s st l

  variable-is : (id : Tree) (v : Variable) → Gave (Refers (standing.Variable v)) (variable_at place level id v s)
  unfolding variable_at
  variable-is id v = gave-if (Refers (standing.Variable v)) v.own _ _
      (λ own-it. gave-if (Refers (standing.Variable v)) (nat_eq v.level level) _ _
      (λ at. gave-if (Refers (standing.Variable v)) (is_in_scope s v) _ _ (λ there. (refl, (refl, inl (own-it, ((unsigned_Decides v.level level).0 at, there))))) (λ e. tt))
      (λ e. tt))
      (λ not-own. gave-if (Refers (standing.Variable v)) v.top _ _
      (λ top. gave-if (Refers (standing.Variable v)) v.assigned _ _ (λ e. tt) (λ e. (refl, (refl, inr (not-own, top)))))
      (λ e. tt))

  refer-is : (id : Tree) (st : Standing) → Gave (Refers st) (refer place level id st s)
  refer-is id standing.Nothing = tt
  refer-is id (standing.Variable v) = variable-is id v
  refer-is id standing.PatternVariable = tt
  refer-is id (standing.Primitive op) = (refl, refl)
  refer-is id (standing.Core f) = tt
  refer-is id (standing.Keyword l) = (refl, refl)

  pub reference-is : (id : Tree) → Gave (Refers (standing_of s id)) (reference place level id s)
  unfolding reference
  reference-is id = refer-is id (standing_of s id)

  target_variable-is : (t id : Tree) (v : Variable) → Gave (Targets (standing.Variable v)) (target_variable place level t id v s)
  unfolding target_variable
  target_variable-is t id v = gave-if (Targets (standing.Variable v)) v.own _ _
      (λ own-it. gave-if (Targets (standing.Variable v)) (nat_eq v.level level) _ _
      (λ at. gave-if (Targets (standing.Variable v)) (is_in_scope s v) _ _
      (λ there. gave-if (Targets (standing.Variable v)) (has_label s.exports v.label) _ _ (λ e. tt) (λ e. (refl, (refl, inl (own-it, ((unsigned_Decides v.level level).0 at, there))))))
      (λ e. tt))
      (λ e. tt))
      (λ not-own. gave-if (Targets (standing.Variable v)) v.top _ _ (λ top. gave-if (Targets (standing.Variable v)) (has_label s.exports v.label) _ _ (λ e. tt) (λ e. tt)) (λ e. tt))

  pub target_by-is : (t id : Tree) (st : Standing) → Gave (Targets st) (target_by place level t id st s)
  target_by-is t id standing.Nothing = tt
  target_by-is t id (standing.Variable v) = target_variable-is t id v
  target_by-is t id standing.PatternVariable = tt
  target_by-is t id (standing.Primitive op) = tt
  target_by-is t id (standing.Core f) = tt
  target_by-is t id (standing.Keyword l) = tt

  -- the plan of an assignment
  abbrev pub AssignsBy : Tree → Tree → Standing → HeadPlan → State → Type 0
  AssignsBy id value standing.Nothing p t = ⊥
  AssignsBy id value (standing.Variable v) p t = (p ≡ head_plans.Plan (plans.Assignment v.label value)) × ((t ≡ marked v.label s) × MayRefer level s v)
  AssignsBy id value standing.PatternVariable p t = ⊥
  AssignsBy id value (standing.Primitive op) p t = ⊥
  AssignsBy id value (standing.Core f) p t = ⊥
  AssignsBy id value (standing.Keyword l) p t = (p ≡ head_plans.SetUse l id) × (t ≡ s)

  assign_by-is : (t id value : Tree) (st : Standing) → Gave (AssignsBy id value st) (assign_by place level t id value st s)
  assign_by-is t id value standing.Nothing = tt
  assign_by-is t id value (standing.Variable v) =
      gave-after (Targets (standing.Variable v)) (AssignsBy id value (standing.Variable v)) (target_variable place level t id v s) (assign_to value) (target_variable-is t id v)
      (λ l u k. (ap (λ m. head_plans.Plan (plans.Assignment m value)) k.1.0, (k.0 ∙ ap (λ m. marked m s) k.1.0, k.1.1)))
  assign_by-is t id value standing.PatternVariable = tt
  assign_by-is t id value (standing.Primitive op) = tt
  assign_by-is t id value (standing.Core f) = tt
  assign_by-is t id value (standing.Keyword l) = (refl, refl)

  pub assign-is : (t id value : Tree) → Gave (AssignsBy id value (standing_of s id)) (assign place level t id value s)
  unfolding assign
  assign-is t id value = assign_by-is t id value (standing_of s id)
