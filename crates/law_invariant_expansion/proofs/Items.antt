-- What a form of a body is keeps an invariant of the form.
use Rattle.std.proofs.Common.{ℕ, Bool, true, false, Result, Ok, Err, if◌then◌else◌}
use Rattle.std.specs.Prelude.{◌||◌, ◌&&◌, not}
use Rattle.base_data.proofs.ElementLemmas.{each-and}
use Rattle.base_data.specs.Act.{after, give}
use Rattle.base_data.specs.Elements.{Each}
use Rattle.base_data.specs.declared.fault.Fault.{Fault}
use Rattle.base_data.specs.declared.fault.FaultKind.TheVariants as kind
use Rattle.base_data.specs.declared.name.Label.{Label}
use Rattle.stx_tree.specs.Tree.{Tree, atom, leaf, pair, vector}
use Rattle.core_language.specs.declared.core_form.CoreForm.{CoreForm}
use Rattle.core_shapes.specs.Forms.{shape}
use Rattle.core_shapes.specs.Lists.{is_leaf}
use Rattle.core_shapes.specs.declared.shape.BindingSpec.{BindingSpec}
use Rattle.core_shapes.specs.declared.shape.Shape.{Shape}
use Rattle.core_shapes.specs.declared.shape.Shape.TheVariants as shapes
use Rattle.expand_standing.specs.Binders.{bind_variable}
use Rattle.expand_standing.specs.Standing.{standing_of, role_of}
use Rattle.expand_standing.specs.State.{State, fault_word}
use Rattle.expand_standing.specs.Uses.{bind_keyword}
use Rattle.expand_standing.specs.declared.binders.BoundSpec.{BoundSpec}
use Rattle.expand_standing.specs.declared.standing.Role.{Role}
use Rattle.expand_standing.specs.declared.standing.Role.TheVariants as role
use Rattle.expand_standing.specs.declared.standing.Standing.{Standing}
use Rattle.expand_standing.specs.declared.standing.Standing.TheVariants as standing
use Rattle.expand_heads.specs.declared.item.HeadItem.{HeadItem}
use Rattle.expand_heads.specs.declared.item.HeadItem.TheVariants as head_items
use Rattle.expand_heads.specs.Items.{waiting_at, wait, keep, any_changed, is_mixed, is_top, with_waiting, heads_like, in_time, keyword_in_time, define, define_keyword, define_item, alone, target_item, set_item, begin_item, keywords_item, with_shape, item_by, core_item, headed_item, list_item, leaf_by, leaf_item, item_plan}
use Rattle.expand_heads.specs.declared.item.Item.{Item}
use Rattle.expand_heads.specs.declared.item.Item.TheVariants as items
use Rattle.expand_heads.specs.declared.taken.BodyAt.{BodyAt}
use Rattle.expand_heads.specs.declared.taken.Taken.{Taken}
use Rattle.expand_heads.specs.declared.taken.Waiting.{Waiting}
use Rattle.expand_heads.specs.declared.taken.Waits.{Waits}
use Rattle.expand_heads.specs.declared.taken.Waits.TheVariants as waits
use Rattle.law_invariants.proofs.Trees.{OkHolds}
use Rattle.law_invariant_expansion.specs.Forms.{WaitsHold}
use Rattle.law_invariant_expansion.proofs.Shapes.{ShapeHolds, shape-holds}
use Rattle.law_invariant_expansion.proofs.Standing.{F, Ts, Gave, gave-after, gave-if, SpecAt, BoundHolds, variable-holds, bind-keyword-holds}
use Rattle.law_invariants.specs.Invariant.{Invariant}
use Rattle.law_invariant_expansion.specs.Kept.{IsKeptByExpansion}

module _ (I : Invariant) (kept : IsKeptByExpansion I) where
  abbrev pub WaitsAt : Waits → Type 0
  WaitsAt w = WaitsHold I w

  abbrev pub WaitingAt : Waiting → Type 0
  WaitingAt w = WaitsAt w.what

  -- what waits for the second pass
  abbrev pub TakenAt : Taken → Type 0
  TakenAt d = Each WaitingAt d.waiting

  abbrev pub ItemAt : Item → Type 0
  ItemAt items.Nothing = Unit {0}
  ItemAt (items.Forms forms) = Ts I kept forms
  ItemAt (items.Keyword b) = SpecAt I kept b
  ItemAt (items.Keywords recursive bs forms) = Each (SpecAt I kept) bs × Ts I kept forms

  abbrev pub HeadItemAt : HeadItem → Type 0
  HeadItemAt (head_items.Item i) = ItemAt i
  HeadItemAt (head_items.Use k) = Unit {0}
  HeadItemAt (head_items.SetUse l) = Unit {0}

  abbrev pub BothAt : Taken × HeadItem → Type 0
  BothAt p = TakenAt p.0 × HeadItemAt p.1

  more-waits : (at : BodyAt) (depth : ℕ) (d : Taken) (w : Waits) → TakenAt d → WaitsAt w → TakenAt (with_waiting at depth d w)
  more-waits at depth d w h k = each-and WaitingAt d.waiting (waiting_at at depth w) h k

  module _ (at : BodyAt) (depth : ℕ) where
    -- the definition of a variable
    abbrev DefinedAt : Taken × Label → Type 0
    DefinedAt p = TakenAt p.0

    in-time : (d : Taken) (id : Tree) (l : Label) (s : State) → F I kept s → TakenAt d → Gave I kept DefinedAt (after (in_time at d id s) (λ taken. give (taken, l)))
    unfolding in_time
    in-time d id l s h k = by (any_changed false s (heads_like d id))
      where
        by : (b : Bool) → Gave I kept DefinedAt (after (if b then fault_word kind.LateDefinition id id at.place s else Ok (record d { moved = d.moved || any_changed true s (heads_like d id) }, s)) (λ taken. give (taken, l)))
        by true = tt
        by false = (h, k)

    define-holds : (d : Taken) (t id : Tree) (s : State) → F I kept s → TakenAt d → I.trees id → Gave I kept DefinedAt (define at d t id s)
    unfolding define
    define-holds d t id s h k g =
        gave-if I kept DefinedAt (d.has_expression && not (is_mixed at.kind)) _ _ tt
        (gave-after I kept (λ l. Unit {0}) DefinedAt (bind_variable at.frame at.place at.level (is_top at.kind) id s) (λ l s'. after (in_time at d id s') (λ taken. give (taken, l))) (variable-holds I kept at.frame at.place at.level (is_top at.kind) id s h g)
        (λ l u i y. in-time d id l u i k))

    define-item-holds : (d : Taken) (t : Tree) (x : Shape) (s : State) → F I kept s → TakenAt d → I.trees t → ShapeHolds I kept.built.closed x → Gave I kept TakenAt (define_item at depth d t x s)
    unfolding define_item
    define-item-holds d t (shapes.Define id value) s h k g j =
        gave-after I kept DefinedAt TakenAt (define at d t id s) (λ e. give (with_waiting at depth e.0 (waits.Variable e.1 value))) (define-holds d t id s h k j.0)
        (λ e u i y. (i, more-waits at depth e.0 (waits.Variable e.1 value) y j.1))
    define-item-holds d t (shapes.DefineProcedure id ids forms) s h k g j =
        gave-after I kept DefinedAt TakenAt (define at d t id s) (λ e. give (with_waiting at depth e.0 (waits.Procedure e.1 t ids forms))) (define-holds d t id s h k j.0)
        (λ e u i y. (
          i,
          more-waits at depth e.0 (waits.Procedure e.1 t ids forms) y
              (g, (j.1.0, j.1.1)),
        ))
    define-item-holds d t (shapes.Quote datum) s h k g j = tt
    define-item-holds d t (shapes.Lambda ids forms) s h k g j = tt
    define-item-holds d t (shapes.CaseLambda cs) s h k g j = tt
    define-item-holds d t (shapes.If test consequent other) s h k g j = tt
    define-item-holds d t (shapes.Set id value) s h k g j = tt
    define-item-holds d t (shapes.Begin forms) s h k g j = tt
    define-item-holds d t (shapes.Letrec bs forms) s h k g j = tt
    define-item-holds d t (shapes.DefineSyntax id value) s h k g j = tt
    define-item-holds d t (shapes.LetSyntax bs forms) s h k g j = tt
    define-item-holds d t (shapes.Operand operand) s h k g j = tt
    define-item-holds d t (shapes.SyntaxCase subject literals cs) s h k g j = tt

    -- the definition of a keyword
    keyword-in-time : (d : Taken) (id : Tree) (b : BoundSpec) (s : State) → F I kept s → BoundHolds I kept b → Gave I kept (BoundHolds I kept) (after (keyword_in_time at d id s) (λ _. give b))
    unfolding keyword_in_time
    keyword-in-time d id b s h k = by (d.moved || any_changed true s (heads_like d id))
      where
        by : (c : Bool) → Gave I kept {A = BoundSpec} (BoundHolds I kept) (after {A = Unit {0}} (if c then fault_word kind.LateDefinition id id at.place s else Ok (tt, s)) (λ _. give b))
        by true = tt
        by false = (h, k)

    pub define-keyword-holds : (d : Taken) (t : Tree) (b : BindingSpec) (s : State) → F I kept s → SpecAt I kept b → Gave I kept (BoundHolds I kept) (define_keyword at d t b s)
    unfolding define_keyword
    define-keyword-holds d t b s h k =
        gave-if I kept (BoundHolds I kept) (d.has_expression && not (is_mixed at.kind)) _ _ tt
        (gave-after I kept (BoundHolds I kept) (BoundHolds I kept) (bind_keyword at.frame at.place at.level b s) (λ x s'. after (keyword_in_time at d b.id s') (λ _. give x)) (bind-keyword-holds I kept at.frame at.place at.level b s h k)
        (λ x u i y. keyword-in-time d b.id x u i y))

    -- Forms.

    waits-so : (d : Taken) (t : Tree) (s : State) → F I kept s → TakenAt d → I.trees t → Gave I kept BothAt (alone (wait at depth d t) s)
    waits-so d t s h k g = (h, (each-and WaitingAt d.waiting (waiting_at at depth (waits.Expression t)) k g, tt))

    target-holds : (d : Taken) (t : Tree) (st : Standing) (s : State) → F I kept s → TakenAt d → I.trees t → Gave I kept BothAt (target_item at depth d t st s)
    target-holds d t (standing.Keyword l) s h k g = (h, (k, tt))
    target-holds d t standing.Nothing s h k g = waits-so d t s h k g
    target-holds d t (standing.Variable v) s h k g = waits-so d t s h k g
    target-holds d t standing.PatternVariable s h k g = waits-so d t s h k g
    target-holds d t (standing.Primitive op) s h k g = waits-so d t s h k g
    target-holds d t (standing.Core f) s h k g = waits-so d t s h k g

    set-holds : (d : Taken) (t : Tree) (r : Result Shape Fault) (s : State) → F I kept s → TakenAt d → I.trees t → Gave I kept BothAt (set_item at depth d t r s)
    unfolding keep
    set-holds d t (Ok (shapes.Set id value)) s h k g = target-holds _ t (standing_of s id) s h k g
    set-holds d t (Ok (shapes.Quote datum)) s h k g = waits-so d t s h k g
    set-holds d t (Ok (shapes.Lambda ids forms)) s h k g = waits-so d t s h k g
    set-holds d t (Ok (shapes.CaseLambda cs)) s h k g = waits-so d t s h k g
    set-holds d t (Ok (shapes.If test consequent other)) s h k g = waits-so d t s h k g
    set-holds d t (Ok (shapes.Begin forms)) s h k g = waits-so d t s h k g
    set-holds d t (Ok (shapes.Letrec bs forms)) s h k g = waits-so d t s h k g
    set-holds d t (Ok (shapes.Define id value)) s h k g = waits-so d t s h k g
    set-holds d t (Ok (shapes.DefineProcedure id ids forms)) s h k g = waits-so d t s h k g
    set-holds d t (Ok (shapes.DefineSyntax id value)) s h k g = waits-so d t s h k g
    set-holds d t (Ok (shapes.LetSyntax bs forms)) s h k g = waits-so d t s h k g
    set-holds d t (Ok (shapes.Operand operand)) s h k g = waits-so d t s h k g
    set-holds d t (Ok (shapes.SyntaxCase subject literals cs)) s h k g = waits-so d t s h k g
    set-holds d t (Err e) s h k g = waits-so d t s h k g

    begin-holds : (d : Taken) (t : Tree) (x : Shape) (s : State) → F I kept s → TakenAt d → ShapeHolds I kept.built.closed x → Gave I kept BothAt (begin_item at d t x s)
    unfolding begin_item
    begin-holds d t (shapes.Begin forms) s h k g = (h, (k, g))
    begin-holds d t _ s h k g = tt

    keywords-item-holds : (d : Taken) (t : Tree) (f : CoreForm) (x : Shape) (s : State) → F I kept s → TakenAt d → ShapeHolds I kept.built.closed x → Gave I kept BothAt (keywords_item at d t f x s)
    unfolding keywords_item
    keywords-item-holds d t f (shapes.DefineSyntax id value) s h k g = (h, (k, g))
    keywords-item-holds d t f (shapes.LetSyntax bs forms) s h k g = (h, (k, g))
    keywords-item-holds d t f _ s h k g = tt

    shaped : (t : Tree) (r : Result Shape Fault) (go : Shape → State → Result ((Taken × HeadItem) × State) Fault) (s : State) → OkHolds (ShapeHolds I kept.built.closed) r → ((x : Shape) → ShapeHolds I kept.built.closed x → Gave I kept BothAt (go x s))
        → Gave I kept BothAt (with_shape r go s)
    shaped t (Err e) go s j k = tt
    shaped t (Ok x) go s j k = k x j

    item-by-holds : (d : Taken) (t : Tree) (f : CoreForm) (r : Role) (s : State) → F I kept s → TakenAt d → I.trees t → Gave I kept BothAt (item_by at depth d t f r s)
    item-by-holds d t f role.Expression s h k g = waits-so d t s h k g
    item-by-holds d t f role.Assignment s h k g = set-holds d t (shape f t at.place) s h k g
    item-by-holds d t f role.Sequence s h k g = shaped t (shape f t at.place) (begin_item at d t) s (shape-holds I kept.built.closed f t at.place g) (λ x j. begin-holds d t x s h k j)
    item-by-holds d t f role.Definition s h k g =
        shaped t (shape f t at.place) (λ x. alone (define_item at depth d t x)) s (shape-holds I kept.built.closed f t at.place g)
        (λ x j. gave-after I kept TakenAt BothAt (define_item at depth d t x s) (λ e. give (e, head_items.Item items.Nothing)) (define-item-holds d t x s h k g j) (λ e u i y. (i, (y, tt))))
    item-by-holds d t f role.Keywords s h k g = shaped t (shape f t at.place) (keywords_item at d t f) s (shape-holds I kept.built.closed f t at.place g) (λ x j. keywords-item-holds d t f x s h k j)
    item-by-holds d t f role.Record s h k g = (h, (k, tt))
    item-by-holds d t f role.RecordValue s h k g = (h, (k, tt))
    item-by-holds d t f role.Auxiliary s h k g = waits-so d t s h k g

    core-item-holds : (d : Taken) (t : Tree) (f : CoreForm) (s : State) → F I kept s → TakenAt d → I.trees t → Gave I kept BothAt (core_item at depth d t f s)
    unfolding core_item
    core-item-holds d t f s h k g = item-by-holds d t f (role_of f) s h k g

    headed-holds : (d : Taken) (t : Tree) (st : Standing) (s : State) → F I kept s → TakenAt d → I.trees t → Gave I kept BothAt (headed_item at depth d t st s)
    headed-holds d t standing.Nothing s h k g = waits-so d t s h k g
    headed-holds d t (standing.Variable v) s h k g = waits-so d t s h k g
    headed-holds d t standing.PatternVariable s h k g = waits-so d t s h k g
    headed-holds d t (standing.Primitive op) s h k g = waits-so d t s h k g
    headed-holds d t (standing.Core f) s h k g = core-item-holds d t f s h k g
    headed-holds d t (standing.Keyword l) s h k g = (h, (k, tt))

    list-item-holds : (d : Taken) (t head : Tree) (s : State) → F I kept s → TakenAt d → I.trees t → Gave I kept BothAt (list_item at depth d t head s)
    unfolding list_item keep
    list-item-holds d t head s h k g = gave-if I kept BothAt (is_leaf head) _ _ (headed-holds _ t (standing_of s head) s h k g) (waits-so d t s h k g)

    leaf-by-holds : (d : Taken) (t : Tree) (st : Standing) (s : State) → F I kept s → TakenAt d → I.trees t → Gave I kept BothAt (leaf_by at depth d t st s)
    leaf-by-holds d t standing.Nothing s h k g = waits-so d t s h k g
    leaf-by-holds d t (standing.Variable v) s h k g = waits-so d t s h k g
    leaf-by-holds d t standing.PatternVariable s h k g = waits-so d t s h k g
    leaf-by-holds d t (standing.Primitive op) s h k g = waits-so d t s h k g
    leaf-by-holds d t (standing.Core f) s h k g = waits-so d t s h k g
    leaf-by-holds d t (standing.Keyword l) s h k g = (h, (k, tt))

    leaf-item-holds : (d : Taken) (t : Tree) (s : State) → F I kept s → TakenAt d → I.trees t → Gave I kept BothAt (leaf_item at depth d t s)
    unfolding leaf_item keep
    leaf-item-holds d t s h k g = leaf-by-holds _ t (standing_of s t) s h k g

    pub item-plan-holds : (d : Taken) (t : Tree) (s : State) → F I kept s → TakenAt d → I.trees t → Gave I kept BothAt (item_plan at depth d t s)
    item-plan-holds d (atom r a) s h k g = waits-so d (atom r a) s h k g
    item-plan-holds d (leaf r x c) s h k g = leaf-item-holds d (leaf r x c) s h k g
    item-plan-holds d (pair r a e) s h k g = list-item-holds d (pair r a e) a s h k g
    item-plan-holds d (vector r e) s h k g = waits-so d (vector r e) s h k g
