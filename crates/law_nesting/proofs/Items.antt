-- What waits in a body stands at least as deep as the body.
use Rattle.std.proofs.Common.{◌≡◌, ℕ, zero, suc, ◌≤◌, Bool, true, false, List, [], ◌∷◌, ◌++◌, Some, Ok, refl, sym, subst, if◌then◌else◌}
use Rattle.std.specs.Prelude.{◌&&◌, ◌||◌, not}
use Rattle.base_data.proofs.ElementLemmas.{each-append}
use Rattle.base_data.specs.Act.{after, give}
use Rattle.base_data.specs.Elements.{Each}
use Rattle.base_data.specs.declared.fault.FaultKind.TheVariants as kind
use Rattle.base_data.specs.declared.name.Label.{Label}
use Rattle.stx_tree.specs.Tree.{Tree}
use Rattle.core_language.specs.declared.record.CompiledLibrary.{CompiledLibrary}
use Rattle.core_shapes.specs.At.{place_of}
use Rattle.core_shapes.specs.declared.shape.Shape.{Shape}
use Rattle.core_shapes.specs.declared.shape.Shape.TheVariants as shapes
use Rattle.expand_standing.specs.Binders.{bind_variable}
use Rattle.expand_standing.specs.State.{State, fault_word}
use Rattle.expand_standing.specs.Uses.{asks_variable}
use Rattle.expand_heads.specs.declared.item.HeadItem.{HeadItem}
use Rattle.expand_heads.specs.declared.item.HeadItem.TheVariants as head_items
use Rattle.expand_heads.specs.Depth.{most_round}
use Rattle.expand_heads.specs.Items.{waiting_at, any_changed, is_mixed, is_top, with_waiting, heads_like, in_time, define, define_item, item_plan}
use Rattle.expand_heads.specs.declared.item.Item.TheVariants as items
use Rattle.expand_heads.specs.declared.taken.BodyAt.{BodyAt}
use Rattle.expand_heads.specs.declared.taken.Taken.{Taken}
use Rattle.expand_heads.specs.declared.taken.Waiting.{Waiting}
use Rattle.expand_heads.specs.declared.taken.Waits.{Waits}
use Rattle.expand_heads.specs.declared.taken.Waits.TheVariants as waits
use Rattle.expand_forms.specs.ExpandUses as expand_uses
use Rattle.expand_forms.specs.ExpandUses.{next_form, too_many, at_use, set_item_step, item_step_of, item_step, expand_item_uses_to}
use Rattle.expand_forms.specs.declared.expand_uses.ItemOrUse.{ItemOrUse}
use Rattle.expand_forms.specs.declared.expand_uses.ItemOrUse.TheVariants as item_steps
use Rattle.expand_forms.specs.declared.expand_uses.PlannedItem.{PlannedItem}
use Rattle.law_expand.proofs.Acts.{Gave, gave-after, gave-any, gave-if}
use Rattle.law_expand.proofs.Items.{item-cases, with_expression}
use Rattle.law_expand.proofs.NestingItems.{IsDeep}
use Rattle.law_nesting.proofs.Bodies.{AreDeep}

module _ (base depth : ℕ) (deep : base ≤ depth) (room : depth ≤ most_round) where
  abbrev Deep : {A : Type 0} → Taken × A → State → Type 0
  Deep p u = AreDeep base p.0

  waits-deep : (at : BodyAt) (d : Taken) (what : Waits) → AreDeep base d → AreDeep base (with_waiting at depth d what)
  waits-deep at d what h = each-append (IsDeep base) d.waiting (waiting_at at depth what ∷ []) h ((deep, room), tt)

  in-time : (at : BodyAt) (d : Taken) (id : Tree) (l : Label) (t : State) → AreDeep base d → Gave (Deep {A = Label}) (after (in_time at d id t) (λ taken. give (taken, l)))
  unfolding in_time
  in-time at d id l t h = by (any_changed false t (heads_like d id))
    where
      m : Bool
      m = d.moved || any_changed true t (heads_like d id)

      by : (c : Bool) → Gave (Deep {A = Label}) (after (if c then fault_word kind.LateDefinition id id at.place t else Ok (record d { moved = m }, t)) (λ taken. give (taken, l)))
      by true = tt
      by false = h

  defines : (at : BodyAt) (d : Taken) (t id : Tree) (s : State) → AreDeep base d → Gave (Deep {A = Label}) (define at d t id s)
  unfolding define
  defines at d t id s h =
      gave-if (Deep {A = Label}) (d.has_expression && not (is_mixed at.kind)) _ _ (λ e. tt)
      (λ e. gave-after (λ l u. Unit {0}) (Deep {A = Label}) (bind_variable at.frame at.place at.level (is_top at.kind) id s) (λ l s'. after (in_time at d id s') (λ taken. give (taken, l)))
      (gave-any (λ l u. Unit {0}) (bind_variable at.frame at.place at.level (is_top at.kind) id s) (λ l u. tt))
      (λ l u k. in-time at d id l u h))

  definition-deep : (at : BodyAt) (d : Taken) (t : Tree) (x : Shape) (s : State) → AreDeep base d → Gave (λ e u. AreDeep base e) (define_item at depth d t x s)
  unfolding define_item
  definition-deep at d t (shapes.Define id value) s h =
      gave-after (Deep {A = Label}) (λ e u. AreDeep base e) (define at d t id s) (λ e. give (with_waiting at depth e.0 (waits.Variable e.1 value))) (defines at d t id s h) (λ e u k. waits-deep at e.0 (waits.Variable e.1 value) k)
  definition-deep at d t (shapes.DefineProcedure id ids forms) s h =
      gave-after (Deep {A = Label}) (λ e u. AreDeep base e) (define at d t id s) (λ e. give (with_waiting at depth e.0 (waits.Procedure e.1 t ids forms))) (defines at d t id s h) (λ e u k. waits-deep at e.0 (waits.Procedure e.1 t ids forms) k)
  definition-deep at d t _ s h = tt

  item-deep : (at : BodyAt) (d : Taken) (t : Tree) (s : State) → AreDeep base d → Gave (Deep {A = HeadItem}) (item_plan at depth d t s)
  item-deep at d t s h = item-cases (AreDeep base) (Deep {A = HeadItem}) at depth s (λ e id j. j)
      (λ e x j. waits-deep at e (waits.Expression x) j)
      (λ e x y j. gave-after (λ z u. AreDeep base z) (Deep {A = HeadItem}) (define_item at depth e x y s) (λ z. give (z, head_items.Item items.Nothing)) (definition-deep at e x y s j) (λ z u k. k))
      (λ e i j. j) d t h

  module _ (rs : List CompiledLibrary) where
    set-deep : (at : BodyAt) (d : Taken) (t : Tree) (l : Label) (b : Bool) (u : State) → AreDeep base d → Gave (Deep {A = ItemOrUse}) (set_item_step at depth d t l b u)
    set-deep at d t l true u h = h
    set-deep at d t l false u h = waits-deep at d (waits.Expression t) h

    steps-deep : (at : BodyAt) (t : Tree) (d : Taken) (i : HeadItem) (u : State) → AreDeep base d → Gave (Deep {A = ItemOrUse}) (item_step_of rs at depth t d i u)
    steps-deep at t d (head_items.Item i) u h = h
    steps-deep at t d (head_items.Use l) u h = h
    steps-deep at t d (head_items.SetUse l) u h =
        gave-after (λ b v. Unit {0}) (Deep {A = ItemOrUse}) (asks_variable rs (place_of t at.place) l u) (set_item_step at depth d t l) (gave-any (λ b v. Unit {0}) (asks_variable rs (place_of t at.place) l u) (λ b v. tt)) (λ b v k. set-deep at d t l b v h)

    step-deep : (at : BodyAt) (d : Taken) (t : Tree) (s : State) → AreDeep base d → Gave (Deep {A = ItemOrUse}) (item_step rs at depth d t s)
    unfolding item_step
    step-deep at d t s h = gave-after (Deep {A = HeadItem}) (Deep {A = ItemOrUse}) (item_plan at depth d t s) (λ p. item_step_of rs at depth t p.0 p.1) (item-deep at d t s h) (λ p u j. steps-deep at t p.0 p.1 u j)

    -- uses in a body are expanded
    pub expand_uses-deep : (left : ℕ) (at : BodyAt) (d : Taken) (t : Tree) (s : State) → AreDeep base d → Gave (Deep {A = PlannedItem}) (expand_item_uses_to rs left at depth d t s)
    unfolding expand_item_uses_to
    expand_uses-deep zero at d t s h =
        gave-after (Deep {A = ItemOrUse}) (Deep {A = PlannedItem}) (item_step rs at depth d t s) (expand_uses.item_by (λ done l. too_many t at.place) at t) (step-deep at d t s h) by
      where
        by : (p : Taken × ItemOrUse) (u : State) → Deep p u → Gave (Deep {A = PlannedItem}) (expand_uses.item_by (λ done l. too_many t at.place) at t p u)
        by (e, item_steps.Item i) u j = j
        by (e, item_steps.Use l) u j = tt
    expand_uses-deep (suc left) at d t s h =
        gave-after (Deep {A = ItemOrUse}) (Deep {A = PlannedItem}) (item_step rs at depth d t s) (expand_uses.item_by (λ taken l s'. after (next_form rs left at.place t l (Some at.frame) s') (expand_item_uses_to rs left (at_use at t) depth taken)) at t)
        (step-deep at d t s h)
        (λ p u j. by p u j (λ e x v w. expand_uses-deep left (at_use at t) e x v w))
      where
        by : (p : Taken × ItemOrUse) (u : State) → Deep p u
            → ((e : Taken) (x : Tree) (v : State) → AreDeep base e → Gave (Deep {A = PlannedItem}) (expand_item_uses_to rs left (at_use at t) depth e x v))
            → Gave (Deep {A = PlannedItem}) (expand_uses.item_by (λ taken l s'. after (next_form rs left at.place t l (Some at.frame) s') (expand_item_uses_to rs left (at_use at t) depth taken)) at t p u)
        by (e, item_steps.Item i) u j next = j
        by (e, item_steps.Use l) u j next =
            gave-after (λ x v. Unit {0}) (Deep {A = PlannedItem}) (next_form rs left at.place t l (Some at.frame) u) (expand_item_uses_to rs left (at_use at t) depth e) (gave-any (λ x v. Unit {0}) (next_form rs left at.place t l (Some at.frame) u) (λ x v. tt))
            (λ x v i. next e x v j)
