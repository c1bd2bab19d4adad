-- Expanding the uses in a form adds the link of the form that is no use.
use Rattle.std.proofs.Common.{◌≡◌, ℕ, zero, suc, Bool, true, false, List, [], ◌∷◌, ◌++◌, Option, None, Some, Result, Ok, Err, refl, sym, ap, subst, ◌∙◌, inl, inr}
use Rattle.base_data.specs.Act.{after}
use Rattle.base_data.specs.Elements.{Among}
use Rattle.base_data.specs.declared.fault.Fault.{Fault}
use Rattle.base_data.specs.declared.name.FrameNo.{FrameNo}
use Rattle.base_data.specs.declared.name.Label.{Label}
use Rattle.base_data.specs.declared.op.Op.{Op}
use Rattle.base_data.specs.declared.span.Span.{Span}
use Rattle.stx_tree.specs.Tree.{Tree, span_of}
use Rattle.core_language.specs.Core as core
use Rattle.core_language.specs.Core.{PlainCore, variable, primitive, instance}
use Rattle.core_language.specs.declared.link.LinkKind.{LinkKind}
use Rattle.core_language.specs.declared.link.LinkKind.TheVariants as kinds
use Rattle.core_language.specs.declared.record.CompiledLibrary.{CompiledLibrary}
use Rattle.core_shapes.specs.At.{place_of}
use Rattle.core_shapes.specs.Lists.{is_leaf}
use Rattle.expand_standing.specs.State.{State, noted}
use Rattle.expand_standing.specs.Uses.{asks_variable}
use Rattle.expand_standing.specs.declared.standing.Standing.TheVariants as standing
use Rattle.expand_heads.specs.declared.plan.HeadPlan.{HeadPlan}
use Rattle.expand_heads.specs.declared.plan.HeadPlan.TheVariants as head_plans
use Rattle.expand_heads.specs.Plan.{plan_of}
use Rattle.expand_heads.specs.declared.plan.KeywordUse.{KeywordUse}
use Rattle.expand_heads.specs.declared.plan.KeywordUse.TheVariants as keyword_use
use Rattle.expand_heads.specs.declared.plan.Plan.{Plan}
use Rattle.expand_heads.specs.declared.plan.Plan.TheVariants as plans
use Rattle.expand_forms.specs.ExpandUses.{used_form, next_form, too_many, set_step, step_of, step, target_span, linked, linked_code, planned_by, expand_uses_to, expand_uses}
use Rattle.expand_forms.specs.declared.expand_uses.PlannedForm.{PlannedForm}
use Rattle.expand_forms.specs.declared.expand_uses.PlanOrUse.{PlanOrUse}
use Rattle.expand_forms.specs.declared.expand_uses.PlanOrUse.TheVariants as steps
use Rattle.law_expand.specs.Named.{RefersTo}
use Rattle.law_expand.proofs.Acts.{Gave, gave-after, told}
use Rattle.law_references.proofs.Performing.{leaf-stands}
use Rattle.law_references.proofs.Settling as settling
use Rattle.law_links.specs.Links.{link_to, primitive_label, IsLink, refers, is_primitive, CodeLinked}
use Rattle.law_links.proofs.Grown.{Grows, grows-same, grows-then, grows-noted, Grew, grew-from, among-last}
use Rattle.law_links.proofs.Planning.{target-is, IsQuiet, PlanQuiet, HeadQuiet, Planned, plan-planned}
use Rattle.law_links.proofs.Standing.{asks-variable-grew, use-keyword-grew, use-record-grew}

-- A link behind others.

linked-last : (o : Option Span) (l : Label) (k : LinkKind) (s : State) (p : Span) → o ≡ Some p → Among (noted o l k s).links (link_to p l k)
linked-last None l k s p e = absurd (cc)
linked-last (Some q) l k s p e =
    let same : q ≡ p = cc in
    subst (λ (x : Span). Among (s.links ++ link_to q l k ∷ []) (link_to x l k)) same (among-last s.links (link_to q l k))

-- the link of a plan is there
abbrev pub PlanLinked : Tree → Plan → State → Type 0
PlanLinked t (plans.Done c) v = (p : Span) → span_of t ≡ Some p → CodeLinked v.links p c
PlanLinked t (plans.Assignment l value) v = (p : Span) → target_span t ≡ Some p → Among v.links (link_to p l kinds.Refer)
PlanLinked t _ v = Unit {0}

code-linked : (t : Tree) (c : PlainCore) (w : State) (p : Span) → span_of t ≡ Some p → CodeLinked (linked_code t c w).links p c
code-linked t (core.variable l) w p e = linked-last (span_of t) l kinds.Refer w p e
code-linked t (core.primitive o) w p e = linked-last (span_of t) (primitive_label o) (kinds.Prim o) w p e
code-linked t _ w p e = tt

pub plan-linked : (t : Tree) (p : Plan) (w : State) → PlanLinked t p (linked t p w)
plan-linked t (plans.Done c) w = code-linked t c w
plan-linked t (plans.Assignment l value) w = λ p e. linked-last (target_span t) l kinds.Refer w p e
plan-linked t _ w = tt

-- The link of a plan is that of an identifier.

module _ (level : ℕ) (place : Span) (t : Tree) (v : State) where
  abbrev Told : Plan → Type 0
  Told p = settling.Plans level place t p v

  variable-of : (l : Label) (p : Span) → settling.IsReference t (variable l) v → span_of t ≡ Some p → IsLink (link_to p l kinds.Refer)
  variable-of l p h e = by h.1.1.1
    where
      by : RefersTo v (Some h.0) (variable l) → IsLink (link_to p l kinds.Refer)
      by (inl same) = let is : h.0 ≡ l = cc in subst (λ (m : Label). IsLink (link_to p m kinds.Refer)) is (refers t v h.1.0 e h.1.1.0)
      by (inr o) = let never = o.1.1 in absurd (cc)

  variable-link : (l : Label) → Told (plans.Done (variable l)) → (p : Span) → span_of t ≡ Some p → IsLink (link_to p l kinds.Refer)
  variable-link l (inl h) p e = variable-of l p h e
  variable-link l (inr (inl c)) p e = let never = c.1 in absurd (cc)
  variable-link l (inr (inr x)) p e = let never = x.code in absurd (cc)

  primitive-of : (o : Op) (p : Span) → settling.IsReference t (primitive o) v → span_of t ≡ Some p → IsLink (link_to p (primitive_label o) (kinds.Prim o))
  primitive-of o p h e = by h.1.1.1
    where
      by : RefersTo v (Some h.0) (primitive o) → IsLink (link_to p (primitive_label o) (kinds.Prim o))
      by (inl other) = absurd (cc)
      by (inr x) =
          let same : x.0 ≡ o = let e = x.1.1 in cc in
          is_primitive t v h.0 h.1.0 e h.1.1.0 (x.1.0 ∙ ap standing.Primitive same)

  primitive-link : (o : Op) → Told (plans.Done (primitive o)) → (is_leaf t ≡ false → ⊥) → (p : Span) → span_of t ≡ Some p → IsLink (link_to p (primitive_label o) (kinds.Prim o))
  primitive-link o (inl h) quiet p e = primitive-of o p h e
  primitive-link o (inr (inl c)) quiet p e = absurd (quiet c.0)
  primitive-link o (inr (inr x)) quiet p e = let never = x.code in absurd (cc)

  target-link : (l : Label) (value : Tree) → Told (plans.Assignment l value) → (p : Span) → target_span t ≡ Some p → IsLink (link_to p l kinds.Refer)
  target-link l value h p e = refers h.0 v (leaf-stands h.0 v l h.1.1) (sym (target-is t place h.0 value h.1.0) ∙ e) h.1.1

  code-grows : (s w : State) (c : PlainCore) → w.links ≡ s.links → Told (plans.Done c) → (is_leaf t ≡ false → IsQuiet c) → Grows s (linked_code t c w)
  code-grows s w (core.variable l) e h q = grows-noted (span_of t) l kinds.Refer s w e (variable-link l h)
  code-grows s w (core.primitive o) e h q = grows-noted (span_of t) (primitive_label o) (kinds.Prim o) s w e (primitive-link o h q)
  code-grows s w _ e h q = grows-same s w e

  plan-grows : (s w : State) (p : Plan) → w.links ≡ s.links → Told p → (is_leaf t ≡ false → PlanQuiet p) → Grows s (linked t p w)
  plan-grows s w (plans.Done c) e h q = code-grows s w c e h q
  plan-grows s w (plans.Assignment l value) e h q = grows-noted (target_span t) l kinds.Refer s w e (target-link l value h)
  plan-grows s w _ e h q = grows-same s w e

-- Uses.
module _ (rs : List CompiledLibrary) where
  used-form-grew : (place : Span) (t : Tree) (k : KeywordUse) (f : Option FrameNo) (s : State) → Grew s (used_form rs place t k f s)
  used-form-grew place t (keyword_use.Macro l) f s = use-keyword-grew rs place t l f s
  used-form-grew place t (keyword_use.Record g) f s = use-record-grew place t g f s

  pub next-form-grew : (left : ℕ) (place : Span) (t : Tree) (k : KeywordUse) (f : Option FrameNo) (s : State) → Grew s (next_form rs left place t k f s)
  unfolding next_form
  next-form-grew left place t k f s =
      let u : State = record s { uses_left = left } in
      grew-from s u (used_form rs (place_of t place) t k f u) (grows-same s u refl) (used-form-grew (place_of t place) t k f u)

  -- A planned form: behind what uses added, the link of the form that is no use.

  pub record Settles (s : State) (d : PlannedForm) (v : State) : Type 0 where
    pub last : State
    pub grows : Grows s last
    pub is : v ≡ linked d.form d.plan last
    pub quiet : is_leaf d.form ≡ false → PlanQuiet d.plan

  settles-from : (r s : State) (d : PlannedForm) (v : State) → Grows r s → Settles s d v → Settles r d v
  settles-from r s d v g h = record { last = h.last; grows = grows-then r s h.last g h.grows; is = h.is; quiet = h.quiet }

  abbrev Steps : Tree → State → PlanOrUse → State → Type 0
  Steps t s (steps.Plan p) u = Grows s u × (is_leaf t ≡ false → PlanQuiet p)
  Steps t s (steps.Use k) u = Grows s u

  set-so : (place : Span) (t : Tree) (l : Label) (id : Tree) (b : Bool) (s u : State) → Grows s u → Gave (Steps t s) (set_step place t l id b u)
  set-so place t l id true s u g = g
  set-so place t l id false s u g = tt

  asks-so : (place : Span) (t : Tree) (l : Label) (s u : State) → Grows s u → (r : Result (Bool × State) Fault) → Grew u r → Gave (λ b v. Grows s v) r
  asks-so place t l s u g (Ok p) h = grows-then s u p.1 g h
  asks-so place t l s u g (Err f) h = tt

  step-of-so : (place : Span) (t : Tree) (p : HeadPlan) (s u : State) → Grows s u → (is_leaf t ≡ false → HeadQuiet p) → Gave (Steps t s) (step_of rs place t p u)
  step-of-so place t (head_plans.Use k) s u g q = g
  step-of-so place t (head_plans.SetUse l id) s u g q =
      gave-after (λ b v. Grows s v) (Steps t s) (asks_variable rs (place_of t place) l u) (set_step place t l id) (asks-so place t l s u g (asks_variable rs (place_of t place) l u) (asks-variable-grew rs (place_of t place) l u))
      (λ b v k. set-so place t l id b s v k)
  step-of-so place t (head_plans.Plan p) s u g q = (g, q)

  step-so : (place : Span) (level : ℕ) (t : Tree) (s : State) → Gave (Steps t s) (step rs place level t s)
  unfolding step
  step-so place level t s =
      gave-after (Planned place level s t) (Steps t s) (plan_of place level t s) (step_of rs place t) (plan-planned place level s t) (λ p u h. step-of-so place t p s u (grows-same s u h.0) h.1)

  expand_uses-to-so : (left : ℕ) (place : Span) (level : ℕ) (t : Tree) (s : State) → Gave (Settles s) (expand_uses_to rs left place level t s)
  unfolding expand_uses_to
  expand_uses-to-so zero place level t s = gave-after (Steps t s) (Settles s) (step rs place level t s) (planned_by (λ k. too_many t place) place t) (step-so place level t s) by
    where
      by : (x : PlanOrUse) (u : State) → Steps t s x u → Gave (Settles s) (planned_by (λ k. too_many t place) place t x u)
      by (steps.Plan p) u h = record { last = u; grows = h.0; is = refl; quiet = h.1 }
      by (steps.Use k) u h = tt
  expand_uses-to-so (suc left) place level t s =
      gave-after (Steps t s) (Settles s) (step rs place level t s) (planned_by (λ k s'. after (next_form rs left place t k None s') (expand_uses_to rs left (place_of t place) level)) place t) (step-so place level t s)
      (λ x u h. by x u h (λ v w. expand_uses-to-so left (place_of t place) level v w))
    where
      onward : (u : State) → Grows s u → ((v : Tree) (w : State) → Gave (Settles w) (expand_uses_to rs left (place_of t place) level v w)) → (r : Result (Tree × State) Fault) → Grew u r
          → Gave (Settles s) (after r (expand_uses_to rs left (place_of t place) level))
      onward u g again (Ok p) h = by_last (expand_uses_to rs left (place_of t place) level p.0 p.1) (again p.0 p.1)
        where
          by_last : (r : Result (PlannedForm × State) Fault) → Gave (Settles p.1) r → Gave (Settles s) r
          by_last (Ok d) k = settles-from s p.1 d.0 d.1 (grows-then s u p.1 g h) k
          by_last (Err f) k = tt
      onward u g again (Err f) h = tt

      by : (x : PlanOrUse) (u : State) → Steps t s x u → ((v : Tree) (w : State) → Gave (Settles w) (expand_uses_to rs left (place_of t place) level v w))
          → Gave (Settles s) (planned_by (λ k s'. after (next_form rs left place t k None s') (expand_uses_to rs left (place_of t place) level)) place t x u)
      by (steps.Plan p) u h again = record { last = u; grows = h.0; is = refl; quiet = h.1 }
      by (steps.Use k) u h again = onward u h again (next_form rs left place t k None u) (next-form-grew left place t k None u)

  -- what expanding uses leaves
  pub record SettledSo (s : State) (d : PlannedForm) (v : State) : Type 0 where
    pub grows : Grows s v
    pub link : PlanLinked d.form d.plan v

  pub settled-so : (place : Span) (level : ℕ) (t : Tree) (s v : State) (d : PlannedForm) → expand_uses rs place level t s ≡ Ok (d, v) → SettledSo s d v
  settled-so place level t s v d e =
      let h = told (Settles s) (expand_uses rs place level t s) d v (expand_uses-to-so s.uses_left place level t s) e in
      let k = told (settling.Settles rs level) (expand_uses rs place level t s) d v (settling.expand_uses-so rs level place t s) e in
      record {
        grows = grows-then s h.last v h.grows
            (subst (λ (u : State). Grows h.last u) (sym h.is)
            (plan-grows level d.place d.form (linked d.form d.plan h.last) h.last h.last d.plan refl (subst (λ (u : State). settling.Plans level d.place d.form d.plan u) h.is k) h.quiet));
        link = subst (λ (u : State). PlanLinked d.form d.plan u) (sym h.is) (plan-linked d.form d.plan h.last);
      }
