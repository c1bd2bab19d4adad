-- What is taken of a form of a body has the leaves of the form.
use Rattle.std.proofs.Common.{◌≤◌, ℕ, Bool, true, false, List, Result, Ok, Err, if◌then◌else◌}
use Rattle.std.specs.Prelude.{◌||◌, ◌&&◌, not}
use Rattle.base_data.proofs.ElementLemmas.{each-and, each-implied}
use Rattle.base_data.specs.Act.{after, give}
use Rattle.base_data.specs.Elements.{Each}
use Rattle.base_data.specs.declared.fault.Fault.{Fault}
use Rattle.base_data.specs.declared.fault.FaultKind.TheVariants as kind
use Rattle.base_data.specs.declared.library.LibName.{LibName}
use Rattle.base_data.specs.declared.name.Label.{Label}
use Rattle.base_data.specs.declared.name.FrameNo.{FrameNo}
use Rattle.base_data.specs.declared.name.Mark.{Mark}
use Rattle.stx_tree.specs.Context.{LeafContext}
use Rattle.stx_tree.specs.Tree.{Tree, atom, leaf, pair, vector}
use Rattle.core_language.specs.declared.core_form.CoreForm.{CoreForm}
use Rattle.core_shapes.specs.Forms.{shape}
use Rattle.core_shapes.specs.Lists.{is_leaf}
use Rattle.core_shapes.specs.declared.shape.BindingSpec.{BindingSpec}
use Rattle.core_shapes.specs.declared.shape.Shape.{Shape}
use Rattle.core_shapes.specs.declared.shape.Shape.TheVariants as shapes
use Rattle.expand_standing.specs.Binders.{bind_variable}
use Rattle.expand_standing.specs.Standing.{standing_of, role_of}
use Rattle.expand_standing.specs.State.{State, fault_word}
use Rattle.expand_standing.specs.Uses.{bind_keyword}
use Rattle.expand_standing.specs.declared.binders.BoundSpec.{BoundSpec}
use Rattle.expand_standing.specs.declared.standing.Role.{Role}
use Rattle.expand_standing.specs.declared.standing.Role.TheVariants as role
use Rattle.expand_standing.specs.declared.standing.Standing.{Standing}
use Rattle.expand_standing.specs.declared.standing.Standing.TheVariants as standing
use Rattle.expand_heads.specs.declared.item.HeadItem.{HeadItem}
use Rattle.expand_heads.specs.declared.item.HeadItem.TheVariants as head_items
use Rattle.expand_heads.specs.Items.{waiting_at, wait, keep, any_changed, is_mixed, is_top, with_waiting, heads_like, in_time, keyword_in_time, define, define_keyword, define_item, alone, target_item, set_item, begin_item, keywords_item, with_shape, item_by, core_item, headed_item, list_item, leaf_by, leaf_item, item_plan}
use Rattle.expand_heads.specs.declared.item.Item.{Item}
use Rattle.expand_heads.specs.declared.item.Item.TheVariants as items
use Rattle.expand_heads.specs.declared.taken.BodyAt.{BodyAt}
use Rattle.expand_heads.specs.declared.taken.Taken.{Taken}
use Rattle.expand_heads.specs.declared.taken.Waiting.{Waiting}
use Rattle.expand_heads.specs.declared.taken.Waits.{Waits}
use Rattle.expand_heads.specs.declared.taken.Waits.TheVariants as waits
use Rattle.law_fresh.proofs.Trees.{OkHolds}
use Rattle.law_fresh_expansion.specs.Forms.{WaitsHold}
use Rattle.law_fresh_expansion.specs.Living.{Lives}
use Rattle.law_fresh_expansion.proofs.Shapes.{FormalsHold, ShapeHolds, shape-holds}
use Rattle.law_fresh_expansion.proofs.Standing.{F, T, Ts, tree-up, trees-up, option-up, state-self, state-then, Gave, gave-after, gave-if, SpecAt, BoundHolds, variable-holds, bind-keyword-holds}

module _ (own : LibName) (K : ℕ → Mark → Type 0) (J : ℕ → FrameNo → Type 0) (P : ℕ → LeafContext → Type 0) (lives : Lives own K J P) (first : ℕ) where
  abbrev pub WaitsAt : ℕ → Waits → Type 0
  WaitsAt n w = WaitsHold (P n) w

  abbrev pub WaitingAt : ℕ → Waiting → Type 0
  WaitingAt n w = WaitsAt n w.what

  -- what waits for the second pass
  abbrev pub TakenAt : ℕ → Taken → Type 0
  TakenAt n d = Each (WaitingAt n) d.waiting

  abbrev pub ItemAt : ℕ → Item → Type 0
  ItemAt n items.Nothing = Unit {0}
  ItemAt n (items.Forms forms) = (Ts own K J P lives first) n forms
  ItemAt n (items.Keyword b) = (SpecAt own K J P lives first) n b
  ItemAt n (items.Keywords recursive bs forms) = Each ((SpecAt own K J P lives first) n) bs × (Ts own K J P lives first) n forms

  abbrev pub HeadItemAt : ℕ → HeadItem → Type 0
  HeadItemAt n (head_items.Item i) = ItemAt n i
  HeadItemAt n (head_items.Use k) = Unit {0}
  HeadItemAt n (head_items.SetUse l) = Unit {0}

  abbrev pub BothAt : ℕ → Taken × HeadItem → Type 0
  BothAt n p = TakenAt n p.0 × HeadItemAt n p.1

  pub formals-up : (m n : ℕ) → m ≤ n → (ids : _) → FormalsHold (P m) ids → FormalsHold (P n) ids
  formals-up m n le ids h = ((trees-up own K J P lives first) m n le ids.required h.0, (option-up own K J P lives first) m n le ids.rest h.1)

  waits-up : (m n : ℕ) → m ≤ n → (w : Waits) → WaitsAt m w → WaitsAt n w
  waits-up m n le (waits.Variable l value) h = (option-up own K J P lives first) m n le value h
  waits-up m n le (waits.Procedure l t ids forms) h = ((tree-up own K J P lives first) m n le t h.0, (formals-up m n le ids h.1.0, (trees-up own K J P lives first) m n le forms h.1.1))
  waits-up m n le (waits.Expression t) h = (tree-up own K J P lives first) m n le t h

  pub waiting-up : (m n : ℕ) → m ≤ n → (ws : List Waiting) → Each (WaitingAt m) ws → Each (WaitingAt n) ws
  waiting-up m n le ws h = each-implied (WaitingAt m) (WaitingAt n) (λ w k. waits-up m n le w.what k) ws h

  pub taken-up : (m n : ℕ) → m ≤ n → (d : Taken) → TakenAt m d → TakenAt n d
  taken-up m n le d h = waiting-up m n le d.waiting h

  more-waits : (n : ℕ) (at : BodyAt) (depth : ℕ) (d : Taken) (w : Waits) → TakenAt n d → WaitsAt n w → TakenAt n (with_waiting at depth d w)
  more-waits n at depth d w h k = each-and (WaitingAt n) d.waiting (waiting_at at depth w) h k

  module _ (at : BodyAt) (depth : ℕ) where
    -- the definition of a variable
    abbrev DefinedAt : ℕ → Taken × Label → Type 0
    DefinedAt n p = TakenAt n p.0

    in-time : (d : Taken) (id : Tree) (l : Label) (s : State) → (F own K J P lives first) s → TakenAt s.names.number d → (Gave own K J P lives first) DefinedAt s (after (in_time at d id s) (λ taken. give (taken, l)))
    unfolding in_time
    in-time d id l s h k = by (any_changed false s (heads_like d id))
      where
        by : (b : Bool) → (Gave own K J P lives first) DefinedAt s (after (if b then fault_word kind.LateDefinition id id at.place s else Ok (record d { moved = d.moved || any_changed true s (heads_like d id) }, s)) (λ taken. give (taken, l)))
        by true = tt
        by false = ((state-self own K J P lives first) s h, k)

    define-holds : (d : Taken) (t id : Tree) (s : State) → (F own K J P lives first) s → TakenAt s.names.number d → (T own K J P lives first) s.names.number id → (Gave own K J P lives first) DefinedAt s (define at d t id s)
    unfolding define
    define-holds d t id s h k g =
        (gave-if own K J P lives first) DefinedAt s (d.has_expression && not (is_mixed at.kind)) _ _ tt
        ((gave-after own K J P lives first) (λ n l. Unit {0}) DefinedAt s (bind_variable at.frame at.place at.level (is_top at.kind) id s) (λ l s'. after (in_time at d id s') (λ taken. give (taken, l))) ((variable-holds own K J P lives first) at.frame at.place at.level (is_top at.kind) id s h g)
        (λ l u i y. in-time d id l u ((state-then own K J P lives first) s u h i) (taken-up s.names.number u.names.number i.stage.up d k)))

    define-item-holds : (d : Taken) (t : Tree) (x : Shape) (s : State) → (F own K J P lives first) s → TakenAt s.names.number d → (T own K J P lives first) s.names.number t → ShapeHolds (P s.names.number) x → (Gave own K J P lives first) TakenAt s (define_item at depth d t x s)
    unfolding define_item
    define-item-holds d t (shapes.Define id value) s h k g j =
        (gave-after own K J P lives first) DefinedAt TakenAt s (define at d t id s) (λ e. give (with_waiting at depth e.0 (waits.Variable e.1 value))) (define-holds d t id s h k j.0)
        (λ e u i y. ((state-self own K J P lives first) u ((state-then own K J P lives first) s u h i), more-waits u.names.number at depth e.0 (waits.Variable e.1 value) y ((option-up own K J P lives first) s.names.number u.names.number i.stage.up value j.1)))
    define-item-holds d t (shapes.DefineProcedure id ids forms) s h k g j =
        (gave-after own K J P lives first) DefinedAt TakenAt s (define at d t id s) (λ e. give (with_waiting at depth e.0 (waits.Procedure e.1 t ids forms))) (define-holds d t id s h k j.0)
        (λ e u i y. (
          (state-self own K J P lives first) u ((state-then own K J P lives first) s u h i),
          more-waits u.names.number at depth e.0 (waits.Procedure e.1 t ids forms) y
              ((tree-up own K J P lives first) s.names.number u.names.number i.stage.up t g, (formals-up s.names.number u.names.number i.stage.up ids j.1.0, (trees-up own K J P lives first) s.names.number u.names.number i.stage.up forms j.1.1)),
        ))
    define-item-holds d t (shapes.Quote datum) s h k g j = tt
    define-item-holds d t (shapes.Lambda ids forms) s h k g j = tt
    define-item-holds d t (shapes.CaseLambda cs) s h k g j = tt
    define-item-holds d t (shapes.If test consequent other) s h k g j = tt
    define-item-holds d t (shapes.Set id value) s h k g j = tt
    define-item-holds d t (shapes.Begin forms) s h k g j = tt
    define-item-holds d t (shapes.Letrec bs forms) s h k g j = tt
    define-item-holds d t (shapes.DefineSyntax id value) s h k g j = tt
    define-item-holds d t (shapes.LetSyntax bs forms) s h k g j = tt
    define-item-holds d t (shapes.Operand operand) s h k g j = tt
    define-item-holds d t (shapes.SyntaxCase subject literals cs) s h k g j = tt

    -- the definition of a keyword
    keyword-in-time : (d : Taken) (id : Tree) (b : BoundSpec) (s : State) → (F own K J P lives first) s → (BoundHolds own K J P lives first) s.names.number b → (Gave own K J P lives first) (BoundHolds own K J P lives first) s (after (keyword_in_time at d id s) (λ _. give b))
    unfolding keyword_in_time
    keyword-in-time d id b s h k = by (d.moved || any_changed true s (heads_like d id))
      where
        by : (c : Bool) → (Gave own K J P lives first) {A = BoundSpec} (BoundHolds own K J P lives first) s (after {A = Unit {0}} (if c then fault_word kind.LateDefinition id id at.place s else Ok (tt, s)) (λ _. give b))
        by true = tt
        by false = ((state-self own K J P lives first) s h, k)

    pub define-keyword-holds : (d : Taken) (t : Tree) (b : BindingSpec) (s : State) → (F own K J P lives first) s → (SpecAt own K J P lives first) s.names.number b → (Gave own K J P lives first) (BoundHolds own K J P lives first) s (define_keyword at d t b s)
    unfolding define_keyword
    define-keyword-holds d t b s h k =
        (gave-if own K J P lives first) (BoundHolds own K J P lives first) s (d.has_expression && not (is_mixed at.kind)) _ _ tt
        ((gave-after own K J P lives first) (BoundHolds own K J P lives first) (BoundHolds own K J P lives first) s (bind_keyword at.frame at.place at.level b s) (λ x s'. after (keyword_in_time at d b.id s') (λ _. give x)) ((bind-keyword-holds own K J P lives first) at.frame at.place at.level b s h k)
        (λ x u i y. keyword-in-time d b.id x u ((state-then own K J P lives first) s u h i) y))

    -- Forms.

    waits-so : (d : Taken) (t : Tree) (s : State) → (F own K J P lives first) s → TakenAt s.names.number d → (T own K J P lives first) s.names.number t → (Gave own K J P lives first) BothAt s (alone (wait at depth d t) s)
    waits-so d t s h k g = ((state-self own K J P lives first) s h, (each-and (WaitingAt s.names.number) d.waiting (waiting_at at depth (waits.Expression t)) k g, tt))

    target-holds : (d : Taken) (t : Tree) (st : Standing) (s : State) → (F own K J P lives first) s → TakenAt s.names.number d → (T own K J P lives first) s.names.number t → (Gave own K J P lives first) BothAt s (target_item at depth d t st s)
    target-holds d t (standing.Keyword l) s h k g = ((state-self own K J P lives first) s h, (k, tt))
    target-holds d t standing.Nothing s h k g = waits-so d t s h k g
    target-holds d t (standing.Variable v) s h k g = waits-so d t s h k g
    target-holds d t standing.PatternVariable s h k g = waits-so d t s h k g
    target-holds d t (standing.Primitive op) s h k g = waits-so d t s h k g
    target-holds d t (standing.Core f) s h k g = waits-so d t s h k g

    set-holds : (d : Taken) (t : Tree) (r : Result Shape Fault) (s : State) → (F own K J P lives first) s → TakenAt s.names.number d → (T own K J P lives first) s.names.number t → (Gave own K J P lives first) BothAt s (set_item at depth d t r s)
    unfolding keep
    set-holds d t (Ok (shapes.Set id value)) s h k g = target-holds _ t (standing_of s id) s h k g
    set-holds d t (Ok (shapes.Quote datum)) s h k g = waits-so d t s h k g
    set-holds d t (Ok (shapes.Lambda ids forms)) s h k g = waits-so d t s h k g
    set-holds d t (Ok (shapes.CaseLambda cs)) s h k g = waits-so d t s h k g
    set-holds d t (Ok (shapes.If test consequent other)) s h k g = waits-so d t s h k g
    set-holds d t (Ok (shapes.Begin forms)) s h k g = waits-so d t s h k g
    set-holds d t (Ok (shapes.Letrec bs forms)) s h k g = waits-so d t s h k g
    set-holds d t (Ok (shapes.Define id value)) s h k g = waits-so d t s h k g
    set-holds d t (Ok (shapes.DefineProcedure id ids forms)) s h k g = waits-so d t s h k g
    set-holds d t (Ok (shapes.DefineSyntax id value)) s h k g = waits-so d t s h k g
    set-holds d t (Ok (shapes.LetSyntax bs forms)) s h k g = waits-so d t s h k g
    set-holds d t (Ok (shapes.Operand operand)) s h k g = waits-so d t s h k g
    set-holds d t (Ok (shapes.SyntaxCase subject literals cs)) s h k g = waits-so d t s h k g
    set-holds d t (Err e) s h k g = waits-so d t s h k g

    begin-holds : (d : Taken) (t : Tree) (x : Shape) (s : State) → (F own K J P lives first) s → TakenAt s.names.number d → ShapeHolds (P s.names.number) x → (Gave own K J P lives first) BothAt s (begin_item at d t x s)
    unfolding begin_item
    begin-holds d t (shapes.Begin forms) s h k g = ((state-self own K J P lives first) s h, (k, g))
    begin-holds d t _ s h k g = tt

    keywords-item-holds : (d : Taken) (t : Tree) (f : CoreForm) (x : Shape) (s : State) → (F own K J P lives first) s → TakenAt s.names.number d → ShapeHolds (P s.names.number) x → (Gave own K J P lives first) BothAt s (keywords_item at d t f x s)
    unfolding keywords_item
    keywords-item-holds d t f (shapes.DefineSyntax id value) s h k g = ((state-self own K J P lives first) s h, (k, g))
    keywords-item-holds d t f (shapes.LetSyntax bs forms) s h k g = ((state-self own K J P lives first) s h, (k, g))
    keywords-item-holds d t f _ s h k g = tt

    shaped : (t : Tree) (r : Result Shape Fault) (go : Shape → State → Result ((Taken × HeadItem) × State) Fault) (s : State) → OkHolds (ShapeHolds (P s.names.number)) r → ((x : Shape) → ShapeHolds (P s.names.number) x → (Gave own K J P lives first) BothAt s (go x s))
        → (Gave own K J P lives first) BothAt s (with_shape r go s)
    shaped t (Err e) go s j k = tt
    shaped t (Ok x) go s j k = k x j

    item-by-holds : (d : Taken) (t : Tree) (f : CoreForm) (r : Role) (s : State) → (F own K J P lives first) s → TakenAt s.names.number d → (T own K J P lives first) s.names.number t → (Gave own K J P lives first) BothAt s (item_by at depth d t f r s)
    item-by-holds d t f role.Expression s h k g = waits-so d t s h k g
    item-by-holds d t f role.Assignment s h k g = set-holds d t (shape f t at.place) s h k g
    item-by-holds d t f role.Sequence s h k g = shaped t (shape f t at.place) (begin_item at d t) s (shape-holds (P s.names.number) f t at.place g) (λ x j. begin-holds d t x s h k j)
    item-by-holds d t f role.Definition s h k g =
        shaped t (shape f t at.place) (λ x. alone (define_item at depth d t x)) s (shape-holds (P s.names.number) f t at.place g)
        (λ x j. (gave-after own K J P lives first) TakenAt BothAt s (define_item at depth d t x s) (λ e. give (e, head_items.Item items.Nothing)) (define-item-holds d t x s h k g j) (λ e u i y. ((state-self own K J P lives first) u ((state-then own K J P lives first) s u h i), (y, tt))))
    item-by-holds d t f role.Keywords s h k g = shaped t (shape f t at.place) (keywords_item at d t f) s (shape-holds (P s.names.number) f t at.place g) (λ x j. keywords-item-holds d t f x s h k j)
    item-by-holds d t f role.Record s h k g = ((state-self own K J P lives first) s h, (k, tt))
    item-by-holds d t f role.RecordValue s h k g = ((state-self own K J P lives first) s h, (k, tt))
    item-by-holds d t f role.Auxiliary s h k g = waits-so d t s h k g

    core-item-holds : (d : Taken) (t : Tree) (f : CoreForm) (s : State) → (F own K J P lives first) s → TakenAt s.names.number d → (T own K J P lives first) s.names.number t → (Gave own K J P lives first) BothAt s (core_item at depth d t f s)
    unfolding core_item
    core-item-holds d t f s h k g = item-by-holds d t f (role_of f) s h k g

    headed-holds : (d : Taken) (t : Tree) (st : Standing) (s : State) → (F own K J P lives first) s → TakenAt s.names.number d → (T own K J P lives first) s.names.number t → (Gave own K J P lives first) BothAt s (headed_item at depth d t st s)
    headed-holds d t standing.Nothing s h k g = waits-so d t s h k g
    headed-holds d t (standing.Variable v) s h k g = waits-so d t s h k g
    headed-holds d t standing.PatternVariable s h k g = waits-so d t s h k g
    headed-holds d t (standing.Primitive op) s h k g = waits-so d t s h k g
    headed-holds d t (standing.Core f) s h k g = core-item-holds d t f s h k g
    headed-holds d t (standing.Keyword l) s h k g = ((state-self own K J P lives first) s h, (k, tt))

    list-item-holds : (d : Taken) (t head : Tree) (s : State) → (F own K J P lives first) s → TakenAt s.names.number d → (T own K J P lives first) s.names.number t → (Gave own K J P lives first) BothAt s (list_item at depth d t head s)
    unfolding list_item keep
    list-item-holds d t head s h k g = (gave-if own K J P lives first) BothAt s (is_leaf head) _ _ (headed-holds _ t (standing_of s head) s h k g) (waits-so d t s h k g)

    leaf-by-holds : (d : Taken) (t : Tree) (st : Standing) (s : State) → (F own K J P lives first) s → TakenAt s.names.number d → (T own K J P lives first) s.names.number t → (Gave own K J P lives first) BothAt s (leaf_by at depth d t st s)
    leaf-by-holds d t standing.Nothing s h k g = waits-so d t s h k g
    leaf-by-holds d t (standing.Variable v) s h k g = waits-so d t s h k g
    leaf-by-holds d t standing.PatternVariable s h k g = waits-so d t s h k g
    leaf-by-holds d t (standing.Primitive op) s h k g = waits-so d t s h k g
    leaf-by-holds d t (standing.Core f) s h k g = waits-so d t s h k g
    leaf-by-holds d t (standing.Keyword l) s h k g = ((state-self own K J P lives first) s h, (k, tt))

    leaf-item-holds : (d : Taken) (t : Tree) (s : State) → (F own K J P lives first) s → TakenAt s.names.number d → (T own K J P lives first) s.names.number t → (Gave own K J P lives first) BothAt s (leaf_item at depth d t s)
    unfolding leaf_item keep
    leaf-item-holds d t s h k g = leaf-by-holds _ t (standing_of s t) s h k g

    pub item-plan-holds : (d : Taken) (t : Tree) (s : State) → (F own K J P lives first) s → TakenAt s.names.number d → (T own K J P lives first) s.names.number t → (Gave own K J P lives first) BothAt s (item_plan at depth d t s)
    item-plan-holds d (atom r a) s h k g = waits-so d (atom r a) s h k g
    item-plan-holds d (leaf r x c) s h k g = leaf-item-holds d (leaf r x c) s h k g
    item-plan-holds d (pair r a e) s h k g = list-item-holds d (pair r a e) a s h k g
    item-plan-holds d (vector r e) s h k g = waits-so d (vector r e) s h k g
