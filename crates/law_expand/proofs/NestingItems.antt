-- What waits in a body: variables of its level, and forms that stand at least as deep as the body.
use Rattle.std.proofs.Common.{◌≡◌, ℕ, zero, suc, ◌≤◌, Bool, true, false, List, [], ◌∷◌, ◌++◌, Some, Ok, refl, sym, ◌∙◌, ap, subst, if◌then◌else◌}
use Rattle.std.specs.Prelude.{◌&&◌, ◌||◌, not}
use Rattle.base_data.proofs.ElementLemmas.{each-append}
use Rattle.base_data.specs.Act.{after, give}
use Rattle.base_data.specs.Elements.{Each}
use Rattle.base_data.specs.declared.fault.FaultKind.TheVariants as kind
use Rattle.base_data.specs.declared.library.LibName.{LibName}
use Rattle.base_data.specs.declared.name.Label.{Label}
use Rattle.stx_tree.specs.Tree.{Tree}
use Rattle.core_language.specs.declared.record.CompiledLibrary.{CompiledLibrary}
use Rattle.core_shapes.specs.At.{place_of}
use Rattle.core_shapes.specs.declared.shape.Shape.{Shape}
use Rattle.core_shapes.specs.declared.shape.Shape.TheVariants as shapes
use Rattle.expand_standing.specs.Binders.{bind_variable}
use Rattle.expand_standing.specs.State.{State, fault_word}
use Rattle.expand_standing.specs.Uses.{asks_variable}
use Rattle.expand_heads.specs.declared.item.HeadItem.{HeadItem}
use Rattle.expand_heads.specs.declared.item.HeadItem.TheVariants as head_items
use Rattle.expand_heads.specs.Depth.{most_round}
use Rattle.expand_heads.specs.Items.{waiting_at, any_changed, is_mixed, is_top, with_waiting, heads_like, in_time, define, define_item, item_plan}
use Rattle.expand_heads.specs.declared.item.Item.TheVariants as items
use Rattle.expand_heads.specs.declared.taken.BodyAt.{BodyAt}
use Rattle.expand_heads.specs.declared.taken.Taken.{Taken}
use Rattle.expand_heads.specs.declared.taken.Waiting.{Waiting}
use Rattle.expand_heads.specs.declared.taken.Waits.{Waits}
use Rattle.expand_heads.specs.declared.taken.Waits.TheVariants as waits
use Rattle.expand_forms.specs.ExpandUses as expand_uses
use Rattle.expand_forms.specs.ExpandUses.{next_form, too_many, at_use, set_item_step, item_step_of, item_step, expand_item_uses_to}
use Rattle.expand_forms.specs.declared.expand_uses.ItemOrUse.{ItemOrUse}
use Rattle.expand_forms.specs.declared.expand_uses.ItemOrUse.TheVariants as item_steps
use Rattle.expand_forms.specs.declared.expand_uses.PlannedItem.{PlannedItem}
use Rattle.law_expand.specs.States.{Later}
use Rattle.law_expand.proofs.Acts.{Gave, gave-after, gave-both, gave-less, gave-if}
use Rattle.law_expand.proofs.Fresh.{each-map}
use Rattle.law_expand.proofs.Good.{Bindings, Extends}
use Rattle.law_expand.proofs.Items.{wait_kind, waiting_kind, wait_kinds, map-append, kinds-none, kinds-some, Took, Takes, item-cases, with_expression, Comes, takes-item, Steps, takes-moved, step-takes}
use Rattle.law_expand.proofs.LineLabels.{kind_labels}
use Rattle.law_expand.proofs.Nesting.{IsDefined, defined-grown}
use Rattle.law_expand.proofs.NestingBinding.{Here, here-but, BindsLeveled, binds-leveled}
use Rattle.law_expand.proofs.Uses.{asks-later, next-later}

-- it stands at least so deep, and not too deep
abbrev pub IsDeep : ℕ → Waiting → Type 0
IsDeep base w = (base ≤ w.depth) × (w.depth ≤ most_round)

-- what waits of a body at a depth
pub record AreWaiting (at : BodyAt) (base : ℕ) (d : Taken) (bs : Bindings) : Type 0 where
  pub deep : Each (IsDeep base) d.waiting
  pub labels : Each (IsDefined bs at.level (is_top at.kind)) (kind_labels (wait_kinds d.waiting))

pub waiting-grown : (at : BodyAt) (base : ℕ) (d : Taken) (bs cs : Bindings) → Extends bs cs → AreWaiting at base d bs → AreWaiting at base d cs
waiting-grown at base d bs cs ext h = record {
  deep = h.deep;
  labels = each-map (IsDefined bs at.level (is_top at.kind)) (IsDefined cs at.level (is_top at.kind)) (kind_labels (wait_kinds d.waiting)) h.labels (λ l k. defined-grown bs cs ext at.level (is_top at.kind) l k);
}

module _ (own : LibName) (start : State) (at : BodyAt) (base depth : ℕ) (deep : base ≤ depth) (room : depth ≤ most_round) where
  abbrev W : Taken → State → Type 0
  W d s = AreWaiting at base d s.bindings

  more-deep : (d : Taken) (what : Waits) → Each (IsDeep base) d.waiting → Each (IsDeep base) (d.waiting ++ waiting_at at depth what ∷ [])
  more-deep d what h = each-append (IsDeep base) d.waiting (waiting_at at depth what ∷ []) h ((deep, room), tt)

  expression-waits : (d : Taken) (t : Tree) (s : State) → W d s → W (with_expression at depth d t) s
  expression-waits d t s h =
      let w = waiting_at at depth (waits.Expression t) in
      let is : kind_labels (wait_kinds (d.waiting ++ w ∷ [])) ≡ kind_labels (wait_kinds d.waiting) = ap kind_labels (map-append waiting_kind d.waiting (w ∷ [])) ∙ kinds-none (wait_kinds d.waiting) in
      record { deep = more-deep d (waits.Expression t) h.deep; labels = subst (Each (IsDefined s.bindings at.level (is_top at.kind))) (sym is) h.labels }

  definition-waits : (d : Taken) (what : Waits) (l : Label) (s : State) → wait_kind what ≡ Some l → IsDefined s.bindings at.level (is_top at.kind) l → W d s → W (with_waiting at depth d what) s
  definition-waits d what l s kind new h =
      let w = waiting_at at depth what in
      let ks : wait_kinds (d.waiting ++ w ∷ []) ≡ wait_kinds d.waiting ++ Some l ∷ [] = map-append waiting_kind d.waiting (w ∷ []) ∙ ap (λ o. wait_kinds d.waiting ++ o ∷ []) kind in
      let is : kind_labels (wait_kinds (d.waiting ++ w ∷ [])) ≡ kind_labels (wait_kinds d.waiting) ++ l ∷ [] = ap kind_labels ks ∙ kinds-some (wait_kinds d.waiting) l in
      record {
        deep = more-deep d what h.deep;
        labels = subst (Each (IsDefined s.bindings at.level (is_top at.kind))) (sym is) (each-append (IsDefined s.bindings at.level (is_top at.kind)) (kind_labels (wait_kinds d.waiting)) (l ∷ []) h.labels (new, tt));
      }

  module _ (s : State) (here : Here own s) (low : is_top at.kind ≡ true → at.level ≡ 0) where
    -- a definition, with what was taken before it
    abbrev Defines : Taken → Taken × Label → State → Type 0
    Defines d x u = Extends s.bindings u.bindings × (IsDefined u.bindings at.level (is_top at.kind) x.1 × ((m : Bool) × (x.0 ≡ record d { moved = m })))

    in-time : (d : Taken) (id : Tree) (l : Label) (t : State) → BindsLeveled own at.frame at.place at.level (is_top at.kind) s l t → Gave (Defines d) (after (in_time at d id t) (λ taken. give (taken, l)))
    unfolding in_time
    in-time d id l t b = by (any_changed false t (heads_like d id))
      where
        m : Bool
        m = d.moved || any_changed true t (heads_like d id)

        by : (c : Bool) → Gave (Defines d) (after (if c then fault_word kind.LateDefinition id id at.place t else Ok (record d { moved = m }, t)) (λ taken. give (taken, l)))
        by true = tt
        by false = (b.0.later.grows.bound, (b.1, (m, refl)))

    defines : (d : Taken) (t id : Tree) → Gave (Defines d) (define at d t id s)
    unfolding define
    defines d t id = gave-if (Defines d) (d.has_expression && not (is_mixed at.kind)) _ _ (λ e. tt)
        (λ e. gave-after (BindsLeveled own at.frame at.place at.level (is_top at.kind) s) (Defines d) (bind_variable at.frame at.place at.level (is_top at.kind) id s) (λ l s'. after (in_time at d id s') (λ taken. give (taken, l)))
        (binds-leveled own at.frame at.place at.level (is_top at.kind) id s low here)
        (in-time d id))

    defined-waits : (d : Taken) (what : Waits) (x : Taken × Label) (u : State) → wait_kind what ≡ Some x.1 → W d s → Defines d x u → W (with_waiting at depth x.0 what) u
    defined-waits d what x u kind h k =
        subst (λ (y : Taken). W (with_waiting at depth y what) u) (sym k.1.1.1)
        (definition-waits (record d { moved = k.1.1.0 }) what x.1 u kind k.1.0 (let g = waiting-grown at base d s.bindings u.bindings k.0 h in record { deep = g.deep; labels = g.labels }))

    definition-item : (d : Taken) (t : Tree) (x : Shape) → W d s → Gave W (define_item at depth d t x s)
    unfolding define_item
    definition-item d t (shapes.Define id value) h =
        gave-after (Defines d) W (define at d t id s) (λ e. give (with_waiting at depth e.0 (waits.Variable e.1 value))) (defines d t id) (λ e u k. defined-waits d (waits.Variable e.1 value) e u refl h k)
    definition-item d t (shapes.DefineProcedure id ids forms) h =
        gave-after (Defines d) W (define at d t id s) (λ e. give (with_waiting at depth e.0 (waits.Procedure e.1 t ids forms))) (defines d t id) (λ e u k. defined-waits d (waits.Procedure e.1 t ids forms) e u refl h k)
    definition-item d t _ h = tt

    abbrev Item-waits : Taken × HeadItem → State → Type 0
    Item-waits p u = W p.0 u

    item-waits : (d : Taken) (t : Tree) → W d s → Gave Item-waits (item_plan at depth d t s)
    item-waits d t h = item-cases (λ e. W e s) Item-waits at depth s (λ e id j. record { deep = j.deep; labels = j.labels })
        (λ e x j. expression-waits e x s j)
        (λ e x y j. gave-after W Item-waits (define_item at depth e x y s) (λ z. give (z, head_items.Item items.Nothing)) (definition-item e x y j) (λ z u k. k))
        (λ e i j. j) d t h

  module _ (rs : List CompiledLibrary) where
    abbrev Step-waits : {A : Type 0} → Taken × A → State → Type 0
    Step-waits p u = W p.0 u

    set-waits : (d : Taken) (t : Tree) (l : Label) (b : Bool) (u : State) → W d u → Gave (Step-waits {A = ItemOrUse}) (set_item_step at depth d t l b u)
    set-waits d t l true u h = h
    set-waits d t l false u h = expression-waits d t u h

    steps-wait : (t : Tree) (d : Taken) (i : HeadItem) (u : State) → u.names.library ≡ own → W d u → Gave (Step-waits {A = ItemOrUse}) (item_step_of rs at depth t d i u)
    steps-wait t d (head_items.Item i) u n h = h
    steps-wait t d (head_items.Use l) u n h = h
    steps-wait t d (head_items.SetUse l) u n h =
        gave-after (λ b v. Later own u v) (Step-waits {A = ItemOrUse}) (asks_variable rs (place_of t at.place) l u) (set_item_step at depth d t l) (asks-later own rs (place_of t at.place) l u n)
        (λ b v k. set-waits d t l b v (waiting-grown at base d u.bindings v.bindings k.grows.bound h))

    -- with what was taken, and a later state
    abbrev pub Step-both : {A : Type 0} → State → Taken × A → State → Type 0
    Step-both s p u = Takes own at.frame (is_top at.kind) start s p.0 u × W p.0 u

    step-waits : (d : Taken) (t : Tree) (s : State) → Here own s → (is_top at.kind ≡ true → at.level ≡ 0) → Took own (is_top at.kind) start d s → W d s → Gave (Step-waits {A = ItemOrUse}) (item_step rs at depth d t s)
    unfolding item_step
    step-waits d t s here low k h =
        gave-after (λ p u. Comes own start at s p u × W p.0 u) (Step-waits {A = ItemOrUse}) (item_plan at depth d t s) (λ p. item_step_of rs at depth t p.0 p.1)
        (gave-both (Comes own start at s) (λ p u. W p.0 u) (item_plan at depth d t s) (takes-item own start at s here.0 low depth d t k) (item-waits s here low d t h))
        (λ p u j. steps-wait t p.0 p.1 u j.0.later.next j.1)

    pub step-both : (d : Taken) (t : Tree) (s : State) → Here own s → (is_top at.kind ≡ true → at.level ≡ 0) → Took own (is_top at.kind) start d s → W d s → Gave (Step-both {A = ItemOrUse} s) (item_step rs at depth d t s)
    step-both d t s here low k h =
        gave-both (Steps own rs start {A = ItemOrUse} at s) (Step-waits {A = ItemOrUse}) (item_step rs at depth d t s) (step-takes own rs start depth at d t s here.0 low k) (step-waits d t s here low k h)

-- Uses in a body are expanded.

module _ (own : LibName) (rs : List CompiledLibrary) (start : State) (base depth : ℕ) (deep : base ≤ depth) (room : depth ≤ most_round) where
  abbrev pub SettlesWaiting : BodyAt → State → Taken × PlannedItem → State → Type 0
  SettlesWaiting at s p u = AreWaiting at base p.0 u.bindings

  abbrev Both : {A : Type 0} → BodyAt → State → Taken × A → State → Type 0
  Both {A} at s p u = Step-both own start at base depth deep room rs {A = A} s p u

  pub expand_uses-waits : (left : ℕ) (at : BodyAt) (d : Taken) (t : Tree) (s : State) → Here own s → (is_top at.kind ≡ true → at.level ≡ 0) → Took own (is_top at.kind) start d s → AreWaiting at base d s.bindings
      → Gave (SettlesWaiting at s) (expand_item_uses_to rs left at depth d t s)
  unfolding expand_item_uses_to
  expand_uses-waits zero at d t s here low k h =
      gave-after (Both {A = ItemOrUse} at s) (SettlesWaiting at s) (item_step rs at depth d t s) (expand_uses.item_by (λ done l. too_many t at.place) at t) (step-both own start at base depth deep room rs d t s here low k h) by
    where
      by : (p : Taken × ItemOrUse) (u : State) → Both {A = ItemOrUse} at s p u → Gave (SettlesWaiting at s) (expand_uses.item_by (λ done l. too_many t at.place) at t p u)
      by (e, item_steps.Item i) u j = j.1
      by (e, item_steps.Use l) u j = tt
  expand_uses-waits (suc left) at d t s here low k h =
      gave-after (Both {A = ItemOrUse} at s) (SettlesWaiting at s) (item_step rs at depth d t s) (expand_uses.item_by (λ taken l s'. after (next_form rs left at.place t l (Some at.frame) s') (expand_item_uses_to rs left (at_use at t) depth taken)) at t)
      (step-both own start at base depth deep room rs d t s here low k h)
      (λ p u j. by p u j (λ e x v m q w. expand_uses-waits left (at_use at t) e x v m low q w))
    where
      by : (p : Taken × ItemOrUse) (u : State) → Both {A = ItemOrUse} at s p u
          → ((e : Taken) (x : Tree) (v : State) → Here own v → Took own (is_top at.kind) start e v → AreWaiting (at_use at t) base e v.bindings → Gave (SettlesWaiting (at_use at t) v) (expand_item_uses_to rs left (at_use at t) depth e x v))
          → Gave (SettlesWaiting at s) (expand_uses.item_by (λ taken l s'. after (next_form rs left at.place t l (Some at.frame) s') (expand_item_uses_to rs left (at_use at t) depth taken)) at t p u)
      by (e, item_steps.Item i) u j next = j.1
      by (e, item_steps.Use l) u j next =
          gave-after (λ x v. Later own u v) (SettlesWaiting at s) (next_form rs left at.place t l (Some at.frame) u) (expand_item_uses_to rs left (at_use at t) depth e) (next-later own rs left at.place t l (Some at.frame) u j.0.later.next)
          (λ x v i. let g = takes-moved own rs start at s u v e j.0 i in
          let w = waiting-grown at base e u.bindings v.bindings i.grows.bound j.1 in
          gave-less (SettlesWaiting (at_use at t) v) (SettlesWaiting at s) (expand_item_uses_to rs left (at_use at t) depth e x v)
          (next e x v (here-but own at.frame s v here g.later) g.took (record { deep = w.deep; labels = w.labels }))
          (λ y z q. record { deep = q.deep; labels = q.labels }))
