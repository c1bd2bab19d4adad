-- Forms of a body are taken safely, given that what is done inside forms is safe.
use Rattle.std.proofs.Common.{◌≡◌, ◌≤◌, ℕ, zero, suc, Bool, true, false, List, [], ◌∷◌, Some, Ok, refl, sym, subst, nat_lt, arith, inl, inr, if◌then◌else◌}
use Rattle.std.specs.Prelude.{◌&&◌, ◌||◌, ◌⊎◌, not}
use Rattle.base_data.specs.Act.{after, give}
use Rattle.base_data.specs.declared.fault.FaultKind.TheVariants as kind
use Rattle.base_data.specs.declared.library.LibName.{LibName}
use Rattle.base_data.specs.declared.name.CodeNo.{CodeNo}
use Rattle.base_data.specs.declared.name.Label.{Label}
use Rattle.stx_tree.specs.Tree.{Tree}
use Rattle.core_language.specs.declared.record.CompiledLibrary.{CompiledLibrary}
use Rattle.core_shapes.specs.At.{place_of}
use Rattle.core_shapes.specs.declared.shape.BindingSpec.{BindingSpec}
use Rattle.expand_standing.specs.State.{State, fault_word}
use Rattle.expand_standing.specs.Uses.{asks_variable, bind_keyword}
use Rattle.expand_standing.specs.declared.binders.BoundSpec.{BoundSpec}
use Rattle.expand_heads.specs.declared.item.HeadItem.{HeadItem}
use Rattle.expand_heads.specs.declared.item.HeadItem.TheVariants as head_items
use Rattle.expand_heads.specs.Depth.{deeper, most_round}
use Rattle.expand_heads.specs.Items.{any_changed, heads_like, is_mixed, is_top, keyword_in_time, define_keyword, item_plan}
use Rattle.expand_heads.specs.declared.item.Item.{Item}
use Rattle.expand_heads.specs.declared.item.Item.TheVariants as items
use Rattle.expand_heads.specs.declared.taken.BodyAt.{BodyAt}
use Rattle.expand_heads.specs.declared.taken.Taken.{Taken}
use Rattle.expand_forms.specs.Body as expand_body
use Rattle.expand_forms.specs.Body.{splice, perform_item, item}
use Rattle.expand_forms.specs.Inside.{Inside}
use Rattle.expand_forms.specs.Keywords.{expand_transformer, with_keywords, define_syntax}
use Rattle.expand_forms.specs.ExpandUses as expand_uses
use Rattle.expand_forms.specs.ExpandUses.{next_form, too_many, at_use, set_item_step, item_step_of, item_step, expand_item_uses_to, expand_item_uses}
use Rattle.expand_forms.specs.declared.expand_uses.ItemOrUse.{ItemOrUse}
use Rattle.expand_forms.specs.declared.expand_uses.ItemOrUse.TheVariants as item_steps
use Rattle.expand_forms.specs.declared.expand_uses.PlannedItem.{PlannedItem}
use Rattle.expand_forms.specs.Site.{site_at}
use Rattle.expand_forms.specs.Forms.{definition_parts, let_syntax_parts}
use Rattle.law_expand.proofs.Acts.{gave-both}
use Rattle.law_expand.proofs.BindingKeywords.{BindsKeywords}
use Rattle.law_expand.proofs.Items.{defines-keyword, IsPlaced}
use Rattle.law_expand.proofs.Spent.{AreUnspent, Onward, unspent-all}
use Rattle.law_expand.proofs.SpentBinding.{onward-but}
use Rattle.law_expand.proofs.SpentOnStage.{Tells}
use Rattle.law_expand.proofs.Spares.{taken_labels}
use Rattle.law_expand.proofs.SparesItems.{defined-told, spares-plan, step-spares}
use Rattle.law_stuck.specs.Uses.{Around}
use Rattle.law_steady.proofs.Bodies.{splice-goes}
use Rattle.law_steady.proofs.Keywords.{Placed, Holds, keyword-go, keywords-go, one-pended}
use Rattle.law_steady.proofs.OnStage.{Pending, keyword-pends, asks-go, next-go, FreshBut}
use Rattle.law_steady.proofs.Plans.{item-light}
use Rattle.law_steady.proofs.Sure.{Sure, sure-after, sure-less, sure-with, sure-if}
use Rattle.law_steady.specs.States.{KeptAt}
use Rattle.law_steady.proofs.Safe.{Safe, Fresh, fresh-same, Light, B, given, Goes, goes-self, goes-then, G}

module _ (own : LibName) (texts : List CodeNo) (rs : List CompiledLibrary) (x : Around own texts rs) where
  abbrev S : State → Type 0
  S = Safe own texts rs

  abbrev Bs : State → Type 0
  Bs = B own texts rs

  abbrev W : State → Taken → Type 0
  W u e = AreUnspent own u (taken_labels e)

  abbrev Low : BodyAt → Type 0
  Low at = Placed own at

  -- A keyword that a form of a body defines.

  module _ (inner : Inside) (holds : Holds own texts rs inner) where
    in-time : (at : BodyAt) (d : Taken) (id : Tree) (s u : State) (y : BoundSpec) → Pending own texts rs x s (y ∷ []) u → Sure (λ (z : BoundSpec) v. Pending own texts rs x s (z ∷ []) v) (after (keyword_in_time at d id u) (λ _. give y))
    unfolding keyword_in_time
    in-time at d id s u y p = by (d.moved || any_changed true u (heads_like d id))
      where
        by : (b : Bool) → Sure (λ (z : BoundSpec) v. Pending own texts rs x s (z ∷ []) v) (after (if b then fault_word {A = Unit {0}} kind.LateDefinition id id at.place u else Ok (tt {0}, u)) (λ _. give y))
        by true = tt
        by false = p

    defines : (at : BodyAt) (d : Taken) (t : Tree) (b : BindingSpec) (s : State) → Bs s → S s → Sure (λ (y : BoundSpec) u. Pending own texts rs x s (y ∷ []) u) (define_keyword at d t b s)
    unfolding define_keyword
    defines at d t b s h k =
        sure-if (λ (y : BoundSpec) u. Pending own texts rs x s (y ∷ []) u) (d.has_expression && not (is_mixed at.kind)) _ _ (λ e. tt)
        (λ e. sure-after (λ y u. Pending own texts rs x s (y ∷ []) u) (λ y u. Pending own texts rs x s (y ∷ []) u) (bind_keyword at.frame at.place at.level b s) (λ y u. after (keyword_in_time at d b.id u) (λ _. give y))
        (keyword-pends own texts rs x at.frame at.place at.level b s h.sound.next k) (λ y u p. in-time at d b.id s u y p))

    defines-go : (at : BodyAt) (depth : ℕ) (d : Taken) (t : Tree) (b : BindingSpec) (s : State) → Low at → Bs s → S s → Sure (G own texts rs s) (define_syntax inner at depth d (definition_parts t b) s)
    unfolding define_syntax
    defines-go at depth d t b s low h k =
        sure-after (λ y u. Pending own texts rs x s (y ∷ []) u × (BindsKeywords own at.frame s (y ∷ []) u × Tells s.keywords u.keywords)) (G own texts rs s) (define_keyword at d t b s) (expand_transformer inner (site_at at.place at.level depth))
        (sure-with (λ y u. Pending own texts rs x s (y ∷ []) u) (λ y u. BindsKeywords own at.frame s (y ∷ []) u × Tells s.keywords u.keywords) (define_keyword at d t b s) (defines at d t b s h k)
        (gave-both (λ y u. BindsKeywords own at.frame s (y ∷ []) u) (λ y u. Tells s.keywords u.keywords) (define_keyword at d t b s) (defines-keyword own s at s h.sound.next low.0 d t b) (defined-told own (given own texts rs) at low.0 d t b s)))
        (λ y u j.
        let o = onward-but own (given own texts rs) at.frame (is_top at.kind) [] [] s u j.1.0.later (j.1.0.adds (is_top at.kind)) j.1.1 h in
        let first = j.0.labels.0 in
        sure-less (λ a v. Onward own (given own texts rs) u v × (S v × FreshBut own texts rs x y.label u v)) (G own texts rs s) (expand_transformer inner (site_at at.place at.level depth) y u)
        (keyword-go own texts rs x inner holds at.place at.level depth y u o.0 j.0.safe (first.0, (first.1.1, j.0.free.0)))
        (λ a v i. one-pended own texts rs x inner holds s u v y j.0 o i.0 i.1.0 i.1.1))

    performs : (at : BodyAt) (low : Low at) (depth : ℕ) (d : Taken) (t : Tree) (i : Item) (s : State) → Bs s → S s → W s d → Sure (λ e u. Goes own texts rs s u × W u e) (perform_item inner at depth d t i s)
    unfolding perform_item
    performs at low depth d t items.Nothing s b h k = (goes-self own texts rs s b h, k)
    performs at low depth d t (items.Forms forms) s b h k = splice-goes own texts rs x inner holds at (deeper depth) d forms s low b h k
    performs at low depth d t (items.Keyword z) s b h k =
        sure-after (G own texts rs s) (λ e u. Goes own texts rs s u × W u e) (define_syntax inner at (deeper depth) d (definition_parts t z) s) (λ _. give d) (defines-go at (deeper depth) d t z s low b h) (λ a u g. (g, unspent-all own s u (taken_labels d) g.onward.1 k))
    performs at low depth d t (items.Keywords recursive bs forms) s b h k =
        sure-after (G own texts rs s) (λ e u. Goes own texts rs s u × W u e) (with_keywords inner (site_at at.place at.level (deeper depth)) (let_syntax_parts recursive bs forms) s) (splice inner at (deeper depth) d)
        (keywords-go own texts rs x inner holds at.place at.level (deeper depth) recursive bs forms s b h)
        (λ zs u g. sure-less (λ e v. Goes own texts rs u v × W v e) (λ e v. Goes own texts rs s v × W v e) (splice inner at (deeper depth) d zs u)
        (splice-goes own texts rs x inner holds at (deeper depth) d zs u low g.onward.0 g.safe (unspent-all own s u (taken_labels d) g.onward.1 k)) (λ e v j. (goes-then own texts rs s u v g j.0, j.1)))

  -- Uses in a body are expanded.

  module _ (depth : ℕ) where
    abbrev Step : State → Taken × ItemOrUse → State → Type 0
    Step s p u = Goes own texts rs s u × W u p.0

    -- what a step leaves, apart from what is known of its names
    abbrev Left : {A : Type 0} → State → A → State → Type 0
    Left s a u = S u × Fresh own texts rs s u

    set-left : (at : BodyAt) (d : Taken) (t : Tree) (l : Label) (b : Bool) (s : State) → S s → Sure (Left s) (set_item_step at depth d t l b s)
    set-left at d t l true s h = (h, fresh-same own texts rs s s refl)
    set-left at d t l false s h = (h, fresh-same own texts rs s s refl)

    step-of : (at : BodyAt) (t : Tree) (d : Taken) (i : HeadItem) (s : State) → Bs s → S s → Sure (Left s) (item_step_of rs at depth t d i s)
    step-of at t d (head_items.Item i) s b h = (h, fresh-same own texts rs s s refl)
    step-of at t d (head_items.Use l) s b h = (h, fresh-same own texts rs s s refl)
    step-of at t d (head_items.SetUse l) s b h =
        sure-after (G own texts rs s) (Left s) (asks_variable rs (place_of t at.place) l s) (set_item_step at depth d t l) (asks-go own texts rs x (place_of t at.place) l s b h) (λ c u g. same c u g)
      where
        same : (c : Bool) (u : State) → Goes own texts rs s u → Sure (Left s) (set_item_step at depth d t l c u)
        same true u g = (g.safe, g.fresh)
        same false u g = (g.safe, g.fresh)

    step-left : (at : BodyAt) (d : Taken) (t : Tree) (s : State) → Low at → Bs s → S s → W s d → Sure (Left s) (item_step rs at depth d t s)
    unfolding item_step
    step-left at d t s low b h k =
        sure-after (λ p u. Light own texts rs s u × (Onward own (given own texts rs) s u × W u p.0)) (Left s) (item_plan at depth d t s) (λ p. item_step_of rs at depth t p.0 p.1)
        (sure-with (λ p u. Light own texts rs s u) (λ p u. Onward own (given own texts rs) s u × W u p.0) (item_plan at depth d t s) (item-light own texts rs at depth d t s h) (spares-plan own (given own texts rs) at low.0 depth d t s b k))
        (λ p u j. sure-less (Left u) (Left s) (item_step_of rs at depth t p.0 p.1 u) (step-of at t p.0 p.1 u j.1.0.0 j.0.safe) (λ q v i. (i.0, then-fresh s u v j.0.keywords j.1.0.1.up i.1)))
      where
        then-fresh : (s u v : State) → u.keywords ≡ s.keywords → s.names.number ≤ u.names.number → Fresh own texts rs u v → Fresh own texts rs s v
        then-fresh s u v same up f m e y k o = by (f m e y k o)
          where
            by : KeptAt u.keywords m e y ⊎ (u.names.number ≤ m.0.number) → KeptAt s.keywords m e y ⊎ (s.names.number ≤ m.0.number)
            by (inl i) = inl (subst (λ ks. KeptAt ks m e y) same i)
            by (inr le) = inr (omega (arith, le, up))

    step-goes : (at : BodyAt) (d : Taken) (t : Tree) (s : State) → Low at → Bs s → S s → W s d → Sure (Step s) (item_step rs at depth d t s)
    step-goes at d t s low b h k =
        sure-less (λ p u. (S u × Fresh own texts rs s u) × (Onward own (given own texts rs) s u × W u p.0)) (Step s) (item_step rs at depth d t s)
        (sure-with (Left s) (λ p u. Onward own (given own texts rs) s u × W u p.0) (item_step rs at depth d t s) (step-left at d t s low b h k) (step-spares own (given own texts rs) rs depth at d t s low.0 b k))
        (λ p u j. (record { onward = j.1.0; safe = j.0.0; fresh = j.0.1 }, j.1.1))

    -- where the form stands is the same body
    abbrev PlannedForm : BodyAt → State → Taken × PlannedItem → State → Type 0
    PlannedForm at s p u = Goes own texts rs s u × (W u p.0 × IsPlaced at p.1.at)

    expand_uses-goes : (left : ℕ) (at : BodyAt) (d : Taken) (t : Tree) (s : State) → Low at → Bs s → S s → W s d → Sure (PlannedForm at s) (expand_item_uses_to rs left at depth d t s)
    unfolding expand_item_uses_to
    expand_uses-goes zero at d t s low b h k = sure-after (Step s) (PlannedForm at s) (item_step rs at depth d t s) (expand_uses.item_by (λ done l. too_many t at.place) at t) (step-goes at d t s low b h k) by
      where
        by : (p : Taken × ItemOrUse) (u : State) → Step s p u → Sure (PlannedForm at s) (expand_uses.item_by (λ done l. too_many t at.place) at t p u)
        by (e, item_steps.Item i) u g = (g.0, (g.1, (at.place, refl)))
        by (e, item_steps.Use l) u g = tt
    expand_uses-goes (suc left) at d t s low b h k =
        sure-after (Step s) (PlannedForm at s) (item_step rs at depth d t s) (expand_uses.item_by (λ taken l s'. after (next_form rs left at.place t l (Some at.frame) s') (expand_item_uses_to rs left (at_use at t) depth taken)) at t) (step-goes at d t s low b h k)
        (λ p u g. by p u g (λ e z v c j w. expand_uses-goes left (at_use at t) e z v low c j w))
      where
        by : (p : Taken × ItemOrUse) (u : State) → Step s p u → ((e : Taken) (z : Tree) (v : State) → Bs v → S v → W v e → Sure (PlannedForm (at_use at t) v) (expand_item_uses_to rs left (at_use at t) depth e z v))
            → Sure (PlannedForm at s) (expand_uses.item_by (λ taken l s'. after (next_form rs left at.place t l (Some at.frame) s') (expand_item_uses_to rs left (at_use at t) depth taken)) at t p u)
        by (e, item_steps.Item i) u g next = (g.0, (g.1, (at.place, refl)))
        by (e, item_steps.Use l) u g next =
            sure-after (G own texts rs u) (PlannedForm at s) (next_form rs left at.place t l (Some at.frame) u) (expand_item_uses_to rs left (at_use at t) depth e) (next-go own texts rs x left at.place t l (Some at.frame) u g.0.onward.0 g.0.safe)
            (λ z v j. sure-less (PlannedForm (at_use at t) v) (PlannedForm at s) (expand_item_uses_to rs left (at_use at t) depth e z v) (next e z v j.onward.0 j.safe (unspent-all own u v (taken_labels e) j.onward.1 g.1))
            (λ p w i. (goes-then own texts rs s v w (goes-then own texts rs s u v g.0 j) i.0, (i.1.0, (i.1.1.0, i.1.1.1)))))

  module _ (inner : Inside) (holds : Holds own texts rs inner) where
    pub item-goes : (at : BodyAt) (depth : ℕ) (d : Taken) (t : Tree) (s : State) → Low at → Bs s → S s → W s d → Sure (λ e u. Goes own texts rs s u × W u e) (item inner at depth d t s)
    unfolding item
    item-goes at depth d t s low b h k =
        sure-if (λ e u. Goes own texts rs s u × W u e) (nat_lt most_round depth) _ (after (expand_item_uses inner.earlier at depth d t s) (expand_body.perform_settled inner depth)) (λ e. tt)
        (λ e. sure-after (PlannedForm depth at s) (λ e u. Goes own texts rs s u × W u e) (expand_item_uses inner.earlier at depth d t s) (expand_body.perform_settled inner depth)
        (subst (λ (qs : List CompiledLibrary). Sure (PlannedForm depth at s) (expand_item_uses qs at depth d t s)) (sym holds.earlier) (expand_uses-goes depth s.uses_left at d t s low b h k))
        (λ p u g. subst (λ (other : BodyAt). Sure (λ e v. Goes own texts rs s v × W v e) (perform_item inner other depth p.0 p.1.form p.1.item u)) (sym g.1.1.1)
        (sure-less (λ e v. Goes own texts rs u v × W v e) (λ e v. Goes own texts rs s v × W v e) (perform_item inner (record at { place = g.1.1.0 }) depth p.0 p.1.form p.1.item u)
        (performs inner holds (record at { place = g.1.1.0 }) low depth p.0 p.1.form p.1.item u g.0.onward.0 g.0.safe g.1.0) (λ e v j. (goes-then own texts rs s u v g.0 j.0, j.1)))))
