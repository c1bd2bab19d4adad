-- A form whose uses are expanded took as many as it was, one behind another.
use Rattle.std.proofs.Common.{◌≡◌, ◌+◌, ℕ, zero, suc, Bool, true, false, List, Option, None, Some, Result, Ok, Err, refl, ◌∙◌, ap, sym, subst}
use Rattle.base_data.specs.Act.{after}
use Rattle.base_data.specs.declared.fault.Fault.{Fault}
use Rattle.base_data.specs.declared.library.LibName.TheVariants as library
use Rattle.base_data.specs.declared.name.FrameNo.{FrameNo}
use Rattle.base_data.specs.declared.name.Label.{Label}
use Rattle.base_data.specs.declared.span.Span.{Span}
use Rattle.stx_tree.specs.Tree.{Tree, span_of}
use Rattle.core_language.specs.Core as core
use Rattle.core_language.specs.Core.{PlainCore, instance}
use Rattle.core_language.specs.declared.link.LinkKind.TheVariants as link
use Rattle.core_language.specs.declared.record.CompiledLibrary.{CompiledLibrary}
use Rattle.core_shapes.specs.At.{place_of}
use Rattle.expand_standing.specs.Patterns.{template_of}
use Rattle.expand_standing.specs.Standing.{standing_of}
use Rattle.expand_standing.specs.State.{State}
use Rattle.expand_standing.specs.Uses.{asks_variable}
use Rattle.expand_standing.specs.declared.standing.Standing.{Standing}
use Rattle.expand_standing.specs.declared.standing.Standing.TheVariants as standing
use Rattle.expand_heads.specs.declared.plan.HeadPlan.{HeadPlan}
use Rattle.expand_heads.specs.declared.plan.HeadPlan.TheVariants as head_plans
use Rattle.expand_heads.specs.Plan.{done, reference, assign, plan_of}
use Rattle.expand_heads.specs.declared.item.Item.{Item}
use Rattle.expand_heads.specs.declared.plan.KeywordUse.{KeywordUse}
use Rattle.expand_heads.specs.declared.plan.KeywordUse.TheVariants as keyword_use
use Rattle.expand_heads.specs.declared.plan.Plan.{Plan}
use Rattle.expand_heads.specs.declared.plan.Plan.TheVariants as plans
use Rattle.expand_heads.specs.declared.taken.BodyAt.{BodyAt}
use Rattle.expand_heads.specs.declared.taken.Taken.{Taken}
use Rattle.expand_forms.specs.ExpandUses.{used_form, next_form, too_many, set_step, step_of, step, target_span, linked_code, linked, expand_uses, at_use, item_step, item_by, expand_item_uses_to, expand_item_uses}
use Rattle.expand_forms.specs.declared.expand_uses.ItemOrUse.{ItemOrUse}
use Rattle.expand_forms.specs.declared.expand_uses.ItemOrUse.TheVariants as item_steps
use Rattle.expand_forms.specs.declared.expand_uses.PlannedForm.{PlannedForm}
use Rattle.expand_forms.specs.declared.expand_uses.PlannedItem.{PlannedItem}
use Rattle.law_expand.proofs.Acts.{Gave, gave-after, gave-less}
use Rattle.law_expand.proofs.Plans.{IsTemplate, template-is, plan-cases}
use Rattle.law_expand.proofs.References.{Refers, AssignsBy, reference-is, assign-is}
use Rattle.law_uses.specs.Counted as counted
use Rattle.law_uses.specs.Counted.{unexpanded, unexpanded_item, Becomes, BecomesItem}
use Rattle.law_uses.proofs.Counted.{uses-counted, body-uses-counted}
use Rattle.law_counts.specs.Counted.{IsSettledBy, IsItemBy}
use Rattle.law_counts.proofs.Items as items
use Rattle.law_counts.proofs.Standing.{Keeps, keeps-after, keeps-given, noted-keeps, asks-variable-keeps, use-keyword-keeps, use-record-keeps}

-- Plans.

module _ (place : Span) (level : ℕ) (s : State) where
  abbrev Still : HeadPlan → State → Type 0
  Still p u = u.uses_left ≡ s.uses_left

  as-many : (u : State) → u ≡ s → u.uses_left ≡ s.uses_left
  as-many u e = ap (λ (w : State). w.uses_left) e

  assigned-still : (id value : Tree) (st : Standing) (p : HeadPlan) (u : State) → AssignsBy place level s id value st p u → Still p u
  assigned-still id value standing.Nothing p u k = elim k [ ]
  assigned-still id value (standing.Variable v) p u k = ap (λ (w : State). w.uses_left) k.1.0
  assigned-still id value standing.PatternVariable p u k = elim k [ ]
  assigned-still id value (standing.Primitive op) p u k = elim k [ ]
  assigned-still id value (standing.Core f) p u k = elim k [ ]
  assigned-still id value (standing.Keyword l) p u k = as-many u k.1

  plan-still : (t : Tree) → Gave Still (plan_of place level t s)
  plan-still t = plan-cases Still place level s (λ d. refl)
      (λ id. gave-less (Refers place level s (standing_of s id)) Still (reference place level id s) (reference-is place level s id) (λ p u k. as-many u k.0))
      (λ x id value. gave-less (AssignsBy place level s id value (standing_of s id)) Still (assign place level x id value s) (assign-is place level s x id value) (λ p u k. assigned-still id value (standing_of s id) p u k))
      (λ x operand. gave-after (IsTemplate place level operand s) Still (template_of place level operand s) (λ y. done (instance y (place_of x place))) (template-is place level operand s) (λ y u k. as-many u k.same))
      (λ p h. refl) t

  kept-by : (r : Result (HeadPlan × State) Fault) → Gave Still r → Keeps s r
  kept-by (Ok p) h = h
  kept-by (Err e) h = tt

  plan-keeps : (t : Tree) → Keeps s (plan_of place level t s)
  plan-keeps t = kept-by (plan_of place level t s) (plan-still t)

-- Steps and uses.

module _ (rs : List CompiledLibrary) where
  set-keeps : (place : Span) (t : Tree) (l : Label) (id : Tree) (b : Bool) (s : State) → Keeps s (set_step place t l id b s)
  set-keeps place t l id true s = refl
  set-keeps place t l id false s = tt

  step-of-keeps : (place : Span) (t : Tree) (p : HeadPlan) (s : State) → Keeps s (step_of rs place t p s)
  step-of-keeps place t (head_plans.Use k) s = refl
  step-of-keeps place t (head_plans.SetUse l id) s = keeps-after s (asks_variable rs (place_of t place) l s) (set_step place t l id) (asks-variable-keeps rs (place_of t place) l s) (λ b u. set-keeps place t l id b u)
  step-of-keeps place t (head_plans.Plan p) s = refl

  step-keeps : (place : Span) (level : ℕ) (t : Tree) (s : State) → Keeps s (step rs place level t s)
  unfolding step
  step-keeps place level t s = keeps-after s (plan_of place level t s) (step_of rs place t) (plan-keeps place level s t) (λ p u. step-of-keeps place t p u)

  used-keeps : (place : Span) (t : Tree) (k : KeywordUse) (f : Option FrameNo) (s : State) → Keeps s (used_form rs place t k f s)
  used-keeps place t (keyword_use.Macro l) f s = use-keyword-keeps rs place t l f s
  used-keeps place t (keyword_use.Record g) f s = use-record-keeps place t g f s

  -- so many uses are left behind one
  next-keeps : (left : ℕ) (place : Span) (t : Tree) (k : KeywordUse) (f : Option FrameNo) (s : State) → Keeps (record s { uses_left = left }) (next_form rs left place t k f s)
  unfolding next_form
  next-keeps left place t k f s = used-keeps (place_of t place) t k f (record s { uses_left = left })

  chain-leaves : {level n more left : ℕ} {place at : Span} {t y : Tree} {s w : State} → Becomes rs level n (unexpanded more place t s) (unexpanded left at y w) → s.uses_left ≡ more → w.uses_left ≡ left
  chain-leaves counted.itself e = e
  chain-leaves (counted.used {more = more} {place = place} {t = t} {u = u} {k = k} f g b) e = chain-leaves b (keeps-given (record u { uses_left = more }) g (next-keeps more place t k None u))

-- Links are no uses.

code-keeps : (t : Tree) (c : PlainCore) (s : State) → (linked_code t c s).uses_left ≡ s.uses_left
code-keeps t (core.variable l) s = noted-keeps (span_of t) l link.Refer s
code-keeps t (core.primitive o) s = noted-keeps (span_of t) (record { 0 = record { library = library.Core; number = o.0 } }) (link.Prim o) s
code-keeps t _ s = refl

linked-keeps : (t : Tree) (p : Plan) (s : State) → (linked t p s).uses_left ≡ s.uses_left
linked-keeps t (plans.Done c) s = code-keeps t c s
linked-keeps t (plans.Assignment l value) s = noted-keeps (target_span t) l link.Refer s
linked-keeps t _ s = refl

pub settled-by : (rs : List CompiledLibrary) (level : ℕ) (place : Span) (t : Tree) (s v : State) (d : PlannedForm) → expand_uses rs place level t s ≡ Ok (d, v) → IsSettledBy rs level (unexpanded s.uses_left place t s) v d
settled-by rs level place t s v d h =
    let c = uses-counted.only rs level place t s v d h in
    let n = c.0 in
    let left = c.1.0 in
    let w = c.1.1.0 in
    let u = c.1.1.1.0 in
    let chain = c.1.1.1.1.0 in
    let last : v.uses_left ≡ left =
    ap (λ (x : State). x.uses_left) c.1.1.1.1.1.1 ∙ linked-keeps d.form d.plan u ∙ keeps-given w c.1.1.1.1.1.0 (step-keeps rs d.place level d.form w) ∙ chain-leaves rs chain refl in
    let all = uses-counted.counted rs level n s.uses_left left place d.place t d.form s w chain in
    record {
      uses = n;
      last = w;
      becomes = subst (λ (m : ℕ). Becomes rs level n (unexpanded s.uses_left place t s) (unexpanded m d.place d.form w)) (sym last) chain;
      left = ap (λ (m : ℕ). n + m) last ∙ sym all;
    }

-- Forms of bodies.

module _ (rs : List CompiledLibrary) (depth : ℕ) where
  item-chain-leaves : {n more left : ℕ} {at to : BodyAt} {done end : Taken} {t y : Tree} {s w : State} → BecomesItem rs depth n (unexpanded_item more at done t s) (unexpanded_item left to end y w) → s.uses_left ≡ more → w.uses_left ≡ left
  item-chain-leaves counted.item_itself e = e
  item-chain-leaves (counted.item_used {more = more} {at = at} {t = t} {u = u} {k = k} f g b) e = item-chain-leaves b (keeps-given (record u { uses_left = more }) g (next-keeps rs more at.place t k (Some at.frame) u))

  -- what expanding uses comes to
  abbrev Came : ℕ → BodyAt → Taken → Tree → State → Taken → PlannedItem → State → Type 0
  Came more at done t s end d v =
      (n : ℕ) × ((left : ℕ) × ((taken : Taken) × ((w : State) × (BecomesItem rs depth n (unexpanded_item more at done t s) (unexpanded_item left d.at taken d.form w) × (item_step rs d.at depth taken d.form w ≡ Ok ((end, item_steps.Item d.item), v))))))

  came-now : (left : ℕ) (at : BodyAt) (done : Taken) (t : Tree) (s u v : State) (taken end : Taken) (i : Item) (d : PlannedItem) → item_step rs at depth done t s ≡ Ok ((taken, item_steps.Item i), u)
      → ◌≡◌ {A = (Taken × PlannedItem) × State} ((taken, record { at = at; form = t; item = i }), u) ((end, d), v) → Came left at done t s end d v
  came-now left at done t s u v taken end i d e is =
      subst (λ (q : (Taken × PlannedItem) × State). Came left at done t s q.0.0 q.0.1 q.1) is (0, (left, (done, (s, (counted.item_itself, e)))))

  came : (more : ℕ) (at : BodyAt) (done end : Taken) (t : Tree) (s v : State) (d : PlannedItem) → expand_item_uses_to rs more at depth done t s ≡ Ok ((end, d), v) → Came more at done t s end d v
  unfolding expand_item_uses_to
  came zero at done end t s v d h = by (item_step rs at depth done t s) refl h
    where
      by : (r : Result ((Taken × ItemOrUse) × State) Fault) → item_step rs at depth done t s ≡ r → after r (item_by (λ done k. too_many t at.place) at t) ≡ Ok ((end, d), v) → Came zero at done t s end d v
      by (Ok ((taken, item_steps.Item i), u)) e is =
          came-now zero at done t s u v taken end i d e (let same : ◌≡◌ {A = (Taken × PlannedItem) × State} ((taken, record { at = at; form = t; item = i }), u) ((end, d), v) = cc in same)
      by (Ok ((taken, item_steps.Use k), u)) e is = absurd (cc)
      by (Err f) e is = absurd (cc)
  came (suc more) at done end t s v d h = by (λ taken x w i. came more (at_use at t) taken end x w v d i) (item_step rs at depth done t s) refl h
    where
      by-form : ((taken : Taken) (x : Tree) (w : State) → expand_item_uses_to rs more (at_use at t) depth taken x w ≡ Ok ((end, d), v) → Came more (at_use at t) taken x w end d v)
          → (taken : Taken) (k : KeywordUse) (u : State) → item_step rs at depth done t s ≡ Ok ((taken, item_steps.Use k), u) → (r : Result (Tree × State) Fault) → next_form rs more at.place t k (Some at.frame) u ≡ r
          → after r (expand_item_uses_to rs more (at_use at t) depth taken) ≡ Ok ((end, d), v) → Came (suc more) at done t s end d v
      by-form again taken k u e (Ok p) f is = let c = again taken p.0 p.1 is in (suc c.0, (c.1.0, (c.1.1.0, (c.1.1.1.0, (counted.item_used e f c.1.1.1.1.0, c.1.1.1.1.1)))))
      by-form again taken k u e (Err x) f is = absurd (cc)

      by : ((taken : Taken) (x : Tree) (w : State) → expand_item_uses_to rs more (at_use at t) depth taken x w ≡ Ok ((end, d), v) → Came more (at_use at t) taken x w end d v)
          → (r : Result ((Taken × ItemOrUse) × State) Fault) → item_step rs at depth done t s ≡ r
          → after r (item_by (λ taken k s'. after (next_form rs more at.place t k (Some at.frame) s') (expand_item_uses_to rs more (at_use at t) depth taken)) at t) ≡ Ok ((end, d), v) → Came (suc more) at done t s end d v
      by again (Ok ((taken, item_steps.Item i), u)) e is =
          came-now (suc more) at done t s u v taken end i d e (let same : ◌≡◌ {A = (Taken × PlannedItem) × State} ((taken, record { at = at; form = t; item = i }), u) ((end, d), v) = cc in same)
      by again (Ok ((taken, item_steps.Use k), u)) e is = by-form again taken k u e (next_form rs more at.place t k (Some at.frame) u) refl is
      by again (Err f) e is = absurd (cc)

  pub item-by : (at : BodyAt) (done end : Taken) (t : Tree) (s v : State) (d : PlannedItem) → expand_item_uses rs at depth done t s ≡ Ok ((end, d), v) → IsItemBy rs depth (unexpanded_item s.uses_left at done t s) v d
  item-by at done end t s v d h =
      let c = came s.uses_left at done end t s v d h in
      let n = c.0 in
      let left = c.1.0 in
      let taken = c.1.1.0 in
      let w = c.1.1.1.0 in
      let chain = c.1.1.1.1.0 in
      let last : v.uses_left ≡ left = keeps-given w c.1.1.1.1.1 (items.step-keeps rs d.at depth taken d.form w) ∙ item-chain-leaves chain refl in
      let all = body-uses-counted.counted rs depth n s.uses_left left at d.at done taken t d.form s w chain in
      record {
        uses = n;
        taken = taken;
        last = w;
        becomes = subst (λ (m : ℕ). BecomesItem rs depth n (unexpanded_item s.uses_left at done t s) (unexpanded_item m d.at taken d.form w)) (sym last) chain;
        left = ap (λ (m : ℕ). n + m) last ∙ sym all;
      }
