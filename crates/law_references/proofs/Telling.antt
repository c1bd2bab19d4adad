-- What is kept of keywords while forms are planned, used and bound: no expression comes but that of a keyword whose transformer is evaluated.
use Rattle.std.proofs.Common.{◌≡◌, ℕ, zero, suc, Bool, true, false, List, [], ◌∷◌, None, Some, Result, Ok, refl, ap, ◌∙◌, if◌then◌else◌}
use Rattle.std.specs.Prelude.{◌||◌, ◌&&◌, not}
use Rattle.base_data.specs.Act.{after, give}
use Rattle.base_data.specs.declared.fault.Fault.{Fault}
use Rattle.base_data.specs.declared.fault.FaultKind.TheVariants as kind
use Rattle.base_data.specs.declared.name.Label.{Label}
use Rattle.base_data.specs.declared.span.Span.{Span}
use Rattle.stx_tree.specs.Changes.{stamp}
use Rattle.stx_tree.specs.Tree.{Tree}
use Rattle.core_language.specs.Core.{PlainCore, instance}
use Rattle.core_language.specs.declared.record.CompiledLibrary.{CompiledLibrary}
use Rattle.eval_pattern.specs.declared.compile.PatternVariable.{PatternVariable}
use Rattle.core_quasi.specs.declared.quasi_syntax.Insert.{Insert}
use Rattle.core_quasi.specs.declared.quasi_syntax.QuasiSyntax.{QuasiSyntax}
use Rattle.expand_quasi.specs.Form.{code_of}
use Rattle.expand_quasi.specs.Inserted.{insert_variable, insert_variables, match_of, bind_inserts, inserted_in, inserted, syntax_code}
use Rattle.expand_quasi.specs.declared.form.QuasiForm.{QuasiForm}
use Rattle.expand_quasi.specs.declared.form.QuasiForm.TheVariants as forms
use Rattle.core_shapes.specs.At.{place_of}
use Rattle.core_shapes.specs.declared.shape.BindingSpec.{BindingSpec}
use Rattle.core_shapes.specs.declared.shape.Shape.{Shape}
use Rattle.core_shapes.specs.declared.shape.Shape.TheVariants as shapes
use Rattle.expand_standing.specs.Binders.{bind_variable}
use Rattle.expand_standing.specs.Patterns.{template_of}
use Rattle.expand_standing.specs.Standing.{standing_of}
use Rattle.expand_standing.specs.State.{State, Does, fresh, fresh_frame, fault_word}
use Rattle.expand_standing.specs.Uses.{bind_keyword, asks_variable}
use Rattle.expand_standing.specs.declared.binders.BoundSpec.{BoundSpec}
use Rattle.expand_standing.specs.declared.standing.Standing.{Standing}
use Rattle.expand_standing.specs.declared.standing.Standing.TheVariants as standing
use Rattle.expand_heads.specs.declared.item.HeadItem.{HeadItem}
use Rattle.expand_heads.specs.declared.item.HeadItem.TheVariants as head_items
use Rattle.expand_heads.specs.declared.plan.HeadPlan.{HeadPlan}
use Rattle.expand_heads.specs.declared.plan.HeadPlan.TheVariants as head_plans
use Rattle.expand_heads.specs.Items.{any_changed, is_mixed, is_top, with_waiting, heads_like, in_time, keyword_in_time, define, define_keyword, define_item, item_plan}
use Rattle.expand_heads.specs.Plan.{reference, assign, plan_of}
use Rattle.expand_heads.specs.declared.item.Item.TheVariants as items
use Rattle.expand_heads.specs.declared.plan.KeywordUse.{KeywordUse}
use Rattle.expand_heads.specs.declared.plan.Plan.TheVariants as plans
use Rattle.expand_heads.specs.declared.taken.BodyAt.{BodyAt}
use Rattle.expand_heads.specs.declared.taken.Taken.{Taken}
use Rattle.expand_heads.specs.declared.taken.Waits.TheVariants as waits
use Rattle.expand_forms.specs.ExpandUses.{next_form, too_many, set_step, step_of, step, planned_by, expand_uses_to, expand_uses, at_use, set_item_step, item_step_of, item_step, expand_item_uses_to, expand_item_uses}
use Rattle.expand_forms.specs.ExpandUses as expand_settle
use Rattle.expand_forms.specs.declared.expand_uses.ItemOrUse.{ItemOrUse}
use Rattle.expand_forms.specs.declared.expand_uses.ItemOrUse.TheVariants as item_steps
use Rattle.expand_forms.specs.declared.expand_uses.PlannedForm.{PlannedForm}
use Rattle.expand_forms.specs.declared.expand_uses.PlannedItem.{PlannedItem}
use Rattle.expand_forms.specs.declared.expand_uses.PlanOrUse.{PlanOrUse}
use Rattle.expand_forms.specs.declared.expand_uses.PlanOrUse.TheVariants as steps
use Rattle.expand_forms.proofs.Linked.{linked-keeps}
use Rattle.law_expand.proofs.Acts.{Gave, gave-after, gave-less, gave-if, gave-within, gave-each}
use Rattle.law_expand.proofs.Items.{item-cases}
use Rattle.law_expand.proofs.Plans.{plan-cases}
use Rattle.law_expand.proofs.References.{Refers, AssignsBy, reference-is, assign-is}
use Rattle.law_expand.proofs.SpentBinding.{Same, variable-same, keyword-told}
use Rattle.law_expand.proofs.SpentOnStage.{Tells, next-told, variable-told}
use Rattle.law_expand.proofs.SparesQuasi.{inserts-same, same-told}
use Rattle.law_references.proofs.Templating.{TemplateNames, template-of-names}

-- no expression comes to be kept
abbrev pub Untold : {A : Type 0} → State → A → State → Type 0
Untold s a u = Tells s.keywords u.keywords

pub told-self : (s : State) → Tells s.keywords s.keywords
told-self s l c e = e

pub told-then : (s v u : State) → Tells s.keywords v.keywords → Tells v.keywords u.keywords → Tells s.keywords u.keywords
told-then s v u h k l c e = h l c (k l c e)

-- actions, one behind another
pub then-told : {A B : Type 0} (s : State) (r : Result (A × State) Fault) (k : A → Does B) → Gave (Untold s) r → ((a : A) (v : State) → Gave (Untold v) (k a v)) → Gave (Untold s) (after r k)
then-told s r k h next = gave-after (Untold s) (Untold s) r k h (λ a v e. gave-less (Untold v) (Untold s) (k a v) (next a v) (λ b u f. told-then s v u e f))

same-is-told : {A : Type 0} (s : State) (r : Result (A × State) Fault) → Gave (Same s) r → Gave (Untold s) r
same-is-told s r h = gave-less (Same s) (Untold s) r h (λ a u e. same-told s u e)

-- Templates.

template-told : (place : Span) (level : ℕ) (t : Tree) (s : State) → Gave (Untold s) (template_of place level t s)
template-told place level t s = gave-less (TemplateNames place level t s) (Untold s) (template_of place level t s) (template-of-names place level t s) (λ x u k. same-told s u (ap (λ (v : State). v.keywords) k.0))

-- Plans.

module _ (place : Span) (level : ℕ) (s : State) where
  assigned : (id value : Tree) (st : Standing) (p : HeadPlan) (u : State) → AssignsBy place level s id value st p u → u.keywords ≡ s.keywords
  assigned id value standing.Nothing p u k = absurd k
  assigned id value (standing.Variable v) p u k = ap (λ (x : State). x.keywords) k.1.0
  assigned id value standing.PatternVariable p u k = absurd k
  assigned id value (standing.Primitive op) p u k = absurd k
  assigned id value (standing.Core f) p u k = absurd k
  assigned id value (standing.Keyword l) p u k = ap (λ (x : State). x.keywords) k.1

  plan-told : (t : Tree) → Gave (Untold s) (plan_of place level t s)
  plan-told t = plan-cases (Untold s) place level s (λ d. told-self s)
      (λ id. gave-less (Refers place level s (standing_of s id)) (Untold s) (reference place level id s) (reference-is place level s id) (λ p u k. same-told s u (ap (λ (x : State). x.keywords) k.0)))
      (λ x id value. gave-less (AssignsBy place level s id value (standing_of s id)) (Untold s) (assign place level x id value s) (assign-is place level s x id value) (λ p u k. same-told s u (assigned id value (standing_of s id) p u k)))
      (λ x operand. then-told s (template_of place level operand s) (λ y. give (head_plans.Plan (plans.Done (instance y (place_of x place))))) (template-told place level operand s) (λ y v. told-self v))
      (λ p h. told-self s) t

module _ (rs : List CompiledLibrary) (level : ℕ) where
  set-told : (place : Span) (t : Tree) (l : Label) (id : Tree) (b : Bool) (s : State) → Gave (Untold s) (set_step place t l id b s)
  set-told place t l id true s = told-self s
  set-told place t l id false s = tt

  steps-told : (place : Span) (t : Tree) (p : HeadPlan) (s : State) → Gave (Untold s) (step_of rs place t p s)
  steps-told place t (head_plans.SetUse l id) s = then-told s (asks_variable rs (place_of t place) l s) (set_step place t l id) (variable-told rs (place_of t place) l s) (λ b v. set-told place t l id b v)
  steps-told place t (head_plans.Use k) s = told-self s
  steps-told place t (head_plans.Plan p) s = told-self s

  step-told : (place : Span) (t : Tree) (s : State) → Gave (Untold s) (step rs place level t s)
  unfolding step
  step-told place t s = then-told s (plan_of place level t s) (step_of rs place t) (plan-told place level s t) (λ p v. steps-told place t p v)

  by-step : (onward : KeywordUse → Does PlannedForm) (place : Span) (t : Tree) (x : PlanOrUse) (s : State) → ((k : KeywordUse) → Gave (Untold s) (onward k s)) → Gave (Untold s) (planned_by onward place t x s)
  by-step onward place t (steps.Plan p) s h = linked-keeps (λ v. Tells s.keywords v.keywords) t s (λ ls. told-self s) p
  by-step onward place t (steps.Use k) s h = h k

  expand_uses-to-told : (left : ℕ) (place : Span) (t : Tree) (s : State) → Gave (Untold s) (expand_uses_to rs left place level t s)
  unfolding expand_uses_to
  expand_uses-to-told zero place t s = then-told s (step rs place level t s) (planned_by (λ k. too_many t place) place t) (step-told place t s) (λ x v. by-step (λ k. too_many t place) place t x v (λ k. tt))
  expand_uses-to-told (suc left) place t s =
      then-told s (step rs place level t s) (planned_by (λ k s'. after (next_form rs left place t k None s') (expand_uses_to rs left (place_of t place) level)) place t) (step-told place t s)
      (λ x v. by-step (λ k s'. after (next_form rs left place t k None s') (expand_uses_to rs left (place_of t place) level)) place t x v (λ k. onward (λ y w. expand_uses-to-told left (place_of t place) y w) k v))
    where
      onward : ((y : Tree) (w : State) → Gave (Untold w) (expand_uses_to rs left (place_of t place) level y w)) → (k : KeywordUse) (v : State) → Gave (Untold v) (after (next_form rs left place t k None v) (expand_uses_to rs left (place_of t place) level))
      onward again k v = then-told v (next_form rs left place t k None v) (expand_uses_to rs left (place_of t place) level) (next-told rs left place t k None v) again

  pub expand_uses-told : (place : Span) (t : Tree) (s : State) → Gave (Untold s) (expand_uses rs place level t s)
  expand_uses-told place t s = expand_uses-to-told s.uses_left place t s

-- Forms of a body.

module _ (at : BodyAt) (depth : ℕ) where
  in-time : (done : Taken) (id : Tree) (l : Label) (s : State) → Gave {A = Taken × Label} (Untold s) (after (in_time at done id s) (λ taken. give (taken, l)))
  unfolding in_time
  in-time done id l s = by (any_changed false s (heads_like done id))
    where
      by : (c : Bool) → Gave {A = Taken × Label} (Untold s) (after (if c then fault_word kind.LateDefinition id id at.place s else Ok (record done { moved = done.moved || any_changed true s (heads_like done id) }, s)) (λ taken. give (taken, l)))
      by true = tt
      by false = told-self s

  define-told : (done : Taken) (t id : Tree) (s : State) → Gave (Untold s) (define at done t id s)
  unfolding define
  define-told done t id s = gave-if (Untold s) (done.has_expression && not (is_mixed at.kind)) _ _ (λ e. tt)
      (λ e. then-told s (bind_variable at.frame at.place at.level (is_top at.kind) id s) (λ l s'. after (in_time at done id s') (λ taken. give (taken, l)))
      (same-is-told s (bind_variable at.frame at.place at.level (is_top at.kind) id s) (variable-same at.frame at.place at.level (is_top at.kind) id s)) (λ l v. in-time done id l v))

  definition-told : (done : Taken) (t : Tree) (x : Shape) (s : State) → Gave (Untold s) (define_item at depth done t x s)
  unfolding define_item
  definition-told done t (shapes.Define id value) s = then-told s (define at done t id s) (λ d. give (with_waiting at depth d.0 (waits.Variable d.1 value))) (define-told done t id s) (λ d v. told-self v)
  definition-told done t (shapes.DefineProcedure id ids xs) s = then-told s (define at done t id s) (λ d. give (with_waiting at depth d.0 (waits.Procedure d.1 t ids xs))) (define-told done t id s) (λ d v. told-self v)
  definition-told done t _ s = tt

  item-plan-told : (done : Taken) (t : Tree) (s : State) → Gave (Untold s) (item_plan at depth done t s)
  item-plan-told done t s = item-cases (λ e. Unit {0}) (Untold s) at depth s (λ e id j. tt) (λ e x j. told-self s)
      (λ e x y j. then-told s (define_item at depth e x y s) (λ z. give (z, head_items.Item items.Nothing)) (definition-told e x y s) (λ z v. told-self v)) (λ e i j. told-self s) done t tt

  keyword-in-time : (done : Taken) (id : Tree) (x : BoundSpec) (s : State) → Gave (Untold s) (after (keyword_in_time at done id s) (λ _. give x))
  unfolding keyword_in_time
  keyword-in-time done id x s = by (done.moved || any_changed true s (heads_like done id))
    where
      by : (c : Bool) → Gave {A = BoundSpec} (Untold s) (after {A = Unit {0}} (if c then fault_word kind.LateDefinition id id at.place s else Ok (tt, s)) (λ _. give x))
      by true = tt
      by false = told-self s

  -- the definition of a keyword, whose expression waits
  pub define-keyword-told : (done : Taken) (t : Tree) (b : BindingSpec) (s : State) → Gave (Untold s) (define_keyword at done t b s)
  unfolding define_keyword
  define-keyword-told done t b s = gave-if (Untold s) (done.has_expression && not (is_mixed at.kind)) _ _ (λ e. tt)
      (λ e. then-told s (bind_keyword at.frame at.place at.level b s) (λ x s'. after (keyword_in_time at done b.id s') (λ _. give x)) (keyword-told at.frame at.place at.level b s) (λ x v. keyword-in-time done b.id x v))

module _ (rs : List CompiledLibrary) (depth : ℕ) where
  set-item-told : (at : BodyAt) (done : Taken) (t : Tree) (l : Label) (b : Bool) (s : State) → Gave (Untold s) (set_item_step at depth done t l b s)
  set-item-told at done t l true s = told-self s
  set-item-told at done t l false s = told-self s

  item-steps-told : (at : BodyAt) (t : Tree) (done : Taken) (i : HeadItem) (s : State) → Gave (Untold s) (item_step_of rs at depth t done i s)
  item-steps-told at t done (head_items.SetUse l) s = then-told s (asks_variable rs (place_of t at.place) l s) (set_item_step at depth done t l) (variable-told rs (place_of t at.place) l s) (λ b v. set-item-told at done t l b v)
  item-steps-told at t done (head_items.Use k) s = told-self s
  item-steps-told at t done (head_items.Item i) s = told-self s

  item-step-told : (at : BodyAt) (done : Taken) (t : Tree) (s : State) → Gave (Untold s) (item_step rs at depth done t s)
  unfolding item_step
  item-step-told at done t s = then-told s (item_plan at depth done t s) (λ p. item_step_of rs at depth t p.0 p.1) (item-plan-told at depth done t s) (λ p v. item-steps-told at t p.0 p.1 v)

  by-item : (onward : Taken → KeywordUse → Does (Taken × PlannedItem)) (at : BodyAt) (t : Tree) (p : Taken × ItemOrUse) (s : State) → ((e : Taken) (k : KeywordUse) → Gave (Untold s) (onward e k s)) → Gave (Untold s) (expand_settle.item_by onward at t p s)
  by-item onward at t (e, item_steps.Item i) s h = told-self s
  by-item onward at t (e, item_steps.Use k) s h = h e k

  expand_uses-item-to-told : (left : ℕ) (at : BodyAt) (done : Taken) (t : Tree) (s : State) → Gave (Untold s) (expand_item_uses_to rs left at depth done t s)
  unfolding expand_item_uses_to
  expand_uses-item-to-told zero at done t s = then-told s (item_step rs at depth done t s) (expand_settle.item_by (λ e k. too_many t at.place) at t) (item-step-told at done t s) (λ p v. by-item (λ e k. too_many t at.place) at t p v (λ e k. tt))
  expand_uses-item-to-told (suc left) at done t s =
      then-told s (item_step rs at depth done t s) (expand_settle.item_by (λ taken k s'. after (next_form rs left at.place t k (Some at.frame) s') (expand_item_uses_to rs left (at_use at t) depth taken)) at t) (item-step-told at done t s)
      (λ p v. by-item (λ taken k s'. after (next_form rs left at.place t k (Some at.frame) s') (expand_item_uses_to rs left (at_use at t) depth taken)) at t p v (λ e k. onward e (λ y w. expand_uses-item-to-told left (at_use at t) e y w) k v))
    where
      onward : (e : Taken) → ((y : Tree) (w : State) → Gave (Untold w) (expand_item_uses_to rs left (at_use at t) depth e y w)) → (k : KeywordUse) (v : State) → Gave (Untold v) (after (next_form rs left at.place t k (Some at.frame) v) (expand_item_uses_to rs left (at_use at t) depth e))
      onward e again k v = then-told v (next_form rs left at.place t k (Some at.frame) v) (expand_item_uses_to rs left (at_use at t) depth e) (next-told rs left at.place t k (Some at.frame) v) again

  pub expand_uses-item-told : (at : BodyAt) (done : Taken) (t : Tree) (s : State) → Gave (Untold s) (expand_item_uses rs at depth done t s)
  expand_uses-item-told at done t s = expand_uses-item-to-told s.uses_left at done t s

-- Quasi forms.

insert-variables-same : (is : List Insert) (s : State) → Gave (Same s) (insert_variables is s)
unfolding fresh
insert-variables-same is s = gave-each insert_variable (λ i t v u. Same t v u) (λ js t vs u. Same t vs u) (λ t. Unit {0}) (λ t k. refl) (λ i t k. refl) (λ i t u v k e. tt) (λ i js t u w v vs k e a. a ∙ e) is s tt

frame-told : (s : State) → Gave (Untold s) (fresh_frame s)
unfolding fresh_frame
frame-told s = told-self s

module _ (place : Span) (level : ℕ) (t : Tree) where
  inserted-told : (q : QuasiSyntax) (cs : List PlainCore) (s : State) → Gave (Untold s) (inserted place level t q cs s)
  unfolding inserted
  inserted-told q cs s =
      gave-within (Untold s) (λ v. after (fresh_frame v) (inserted_in place level t q cs)) s (within-told s)
    where
      within-told : (s : State) → Gave (Untold s) (after (fresh_frame s) (inserted_in place level t q cs))
      within-told s = then-told s (fresh_frame s) (inserted_in place level t q cs) (frame-told s)
          (λ f v. then-told v (insert_variables q.inserts v) (λ vs s'. after (bind_inserts f place level vs s') (λ _ s''. after (template_of place level (stamp f q.template) s'') (λ x. give (match_of vs x (place_of t place) cs)))) (same-is-told v (insert_variables q.inserts v) (insert-variables-same q.inserts v))
          (λ vs w. then-told w (bind_inserts f place level vs w) (λ _ s''. after (template_of place level (stamp f q.template) s'') (λ x. give (match_of vs x (place_of t place) cs))) (same-is-told w (bind_inserts f place level vs w) (inserts-same f place level vs w))
          (λ x y. then-told y (template_of place level (stamp f q.template) y) (λ x. give (match_of vs x (place_of t place) cs)) (template-told place level (stamp f q.template) y) (λ x z. told-self z))))

  pub code-told : (q : QuasiForm) (cs : List PlainCore) (s : State) → Gave (Untold s) (code_of place level t q cs s)
  code-told (forms.Quote q) cs s = told-self s
  code-told (forms.Syntax q) cs s = by q.inserts
    where
      by : (is : List Insert) → Gave (Untold s) (syntax_code place level t q cs is s)
      by [] = then-told s (template_of place level q.template s) (λ x. give (instance x (place_of t place))) (template-told place level q.template s) (λ x v. told-self v)
      by (i ∷ is) = inserted-told q cs s
