-- A library whose forms are all definitions of keywords has no lines.
use Rattle.std.proofs.Common.{◌≡◌, ℕ, zero, suc, ◌+◌, Bool, true, false, List, [], ◌∷◌, map, Option, Some, None, Result, Ok, Err, refl, sym, ◌∙◌, ap, subst, inl, inr, if◌then◌else◌}
use Rattle.std.specs.Prelude.{nat_eq, nat_lt, codes}
use Rattle.std.specs.Cmp.Lexicographic.{pointwise}
use Rattle.std.proofs.lemmas.Bool.{and_from, and_parts}
use Rattle.base_data.proofs.ElementLemmas.{among-map}
use Rattle.base_data.specs.Act.{after, give, gather}
use Rattle.base_data.specs.Elements.{Each, Among, Once}
use Rattle.base_data.specs.Same.{texts_decides}
use Rattle.base_data.specs.declared.fault.Fault.{Fault}
use Rattle.base_data.specs.declared.imported_name.ImportedName.{ImportedName}
use Rattle.base_data.specs.declared.library.LibName.{LibName}
use Rattle.base_data.specs.declared.library.LibName.TheVariants as library
use Rattle.base_data.specs.declared.name.FrameNo.{FrameNo}
use Rattle.base_data.specs.declared.name.Label.{Label}
use Rattle.base_data.specs.declared.name.Mark.{Mark}
use Rattle.base_data.specs.declared.span.Span.{Span}
use Rattle.stx_tree.specs.Changes.{stamp}
use Rattle.stx_tree.specs.Context.{LeafContext, blank, stamped}
use Rattle.stx_tree.specs.SameMarks.{same_marks, same_marks_decides}
use Rattle.stx_tree.specs.Tree.{Tree, atom, leaf, pair, vector}
use Rattle.stx_frames.specs.Rows.{Row, is_of, label_in}
use Rattle.stx_frames.specs.Scope.{rows_at, label_at, or_else}
use Rattle.core_language.specs.declared.core_form.CoreForm.TheVariants as core_forms
use Rattle.core_language.specs.declared.record.CompiledLibrary.{CompiledLibrary}
use Rattle.core_language.specs.declared.record.Line.{Line}
use Rattle.stx_scope.specs.Stands.{stands}
use Rattle.core_shapes.specs.Forms.{define_syntax_shape, shaped, by_operands, or_bad, shape_of, shape}
use Rattle.core_shapes.specs.Lists.{if_some, is_leaf, proper_elements}
use Rattle.core_shapes.specs.declared.shape.Shape.{Shape}
use Rattle.core_shapes.specs.declared.shape.Shape.TheVariants as shapes
use Rattle.expand_standing.specs.Standing.{standing_of, label_standing, standing_by, role_of}
use Rattle.expand_standing.specs.Start.{first_frame, started}
use Rattle.expand_standing.specs.State.{State, Does}
use Rattle.expand_standing.specs.declared.standing.Standing.{Standing}
use Rattle.expand_standing.specs.declared.standing.Standing.TheVariants as standing
use Rattle.expand_heads.specs.declared.item.HeadItem.{HeadItem}
use Rattle.expand_heads.specs.declared.item.HeadItem.TheVariants as head_items
use Rattle.expand_heads.specs.Depth.{deeper, most_round}
use Rattle.expand_heads.specs.Items.{begun, is_top, kept_head, wait, alone, keep, core_item, headed_item, list_item, item_plan, keywords_item, with_shape}
use Rattle.expand_heads.specs.Kept.{with_head}
use Rattle.expand_heads.specs.declared.item.Item.{Item}
use Rattle.expand_heads.specs.declared.item.Item.TheVariants as items
use Rattle.expand_heads.specs.declared.plan.KeywordUse.{KeywordUse}
use Rattle.expand_heads.specs.declared.taken.BodyAt.{BodyAt}
use Rattle.expand_heads.specs.declared.taken.Taken.{Taken}
use Rattle.expand_heads.specs.declared.taken.Waiting.{Waiting}
use Rattle.expand_forms.specs.Body as body
use Rattle.expand_forms.specs.Body.{splice, perform_item, item, finish_one, finish_all}
use Rattle.expand_forms.specs.Expanding.{ready, library_record}
use Rattle.expand_forms.specs.Expression.{inside, full_room}
use Rattle.expand_forms.specs.Inside.{Inside}
use Rattle.expand_forms.specs.Keywords.{define_syntax}
use Rattle.expand_forms.specs.ExpandUses as expand_uses
use Rattle.expand_forms.specs.ExpandUses.{item_step, item_step_of, expand_item_uses_to, expand_item_uses, next_form, too_many, at_use}
use Rattle.expand_forms.specs.Top.{exports, give_record, record_in, body_at, second_pass, first_pass, top, top_at}
use Rattle.expand_forms.specs.declared.expand_uses.ItemOrUse.{ItemOrUse}
use Rattle.expand_forms.specs.declared.expand_uses.ItemOrUse.TheVariants as item_steps
use Rattle.expand_forms.specs.declared.expand_uses.PlannedItem.{PlannedItem}
use Rattle.expand_forms.specs.declared.top.LibraryBody.{LibraryBody}
use Rattle.expand_forms.specs.declared.top.TopAt.{TopAt}
use Rattle.expand_forms.specs.Forms.{definition_parts}
use Rattle.eval_code.specs.Codes.{Codes}
use Rattle.law_expand.specs.States.{IsOwn, row_key, AreKeyed}
use Rattle.law_expand.proofs.Acts.{Gave, gave-any, gave-after, gave-if, gave-both, gave-less, each-nil}
use Rattle.law_expand.proofs.Changes.{inside-moves, took-none}
use Rattle.law_expand.proofs.Items.{Takes}
use Rattle.law_expand.proofs.Later.{but-self, but-then, keeps-self, keeps-then}

-- the label of the core `define-syntax`
abbrev pub defining : Label
defining = record { 0 = record { library = library.Core; number = 8 } }

abbrev pub word : List ℕ
word = codes "define-syntax"

-- a form that defines a keyword by this word
abbrev pub IsWord : LeafContext → Tree → Type 0
IsWord c (atom s a) = ⊥
IsWord c (leaf s x d) = (x ≡ word) × (d ≡ c)
IsWord c (pair s a d) = ⊥
IsWord c (vector s d) = ⊥

abbrev pub IsDefinition : LeafContext → Tree → Type 0
IsDefinition c (atom s a) = ⊥
IsDefinition c (leaf s x d) = ⊥
IsDefinition c (pair s a d) = IsWord c a
IsDefinition c (vector s d) = ⊥

word-stamped : (f : FrameNo) (t : Tree) → IsWord blank t → IsWord (stamped f blank) (stamp f t)
word-stamped f (atom s a) h = elim h [ ]
word-stamped f (leaf s x d) h = (h.0, ap (stamped f) h.1)
word-stamped f (pair s a d) h = elim h [ ]
word-stamped f (vector s d) h = elim h [ ]

pub definitions-stamped : (f : FrameNo) (ts : List Tree) → Each (IsDefinition blank) ts → Each (IsDefinition (stamped f blank)) (map (stamp f) ts)
definitions-stamped f [] h = tt
definitions-stamped f (atom s a ∷ ts) h = elim h.0 [ ]
definitions-stamped f (leaf s x d ∷ ts) h = elim h.0 [ ]
definitions-stamped f (pair s a d ∷ ts) h = (word-stamped f a h.0, definitions-stamped f ts h.1)
definitions-stamped f (vector s d ∷ ts) h = elim h.0 [ ]

-- The shape of such a form.

abbrev IsOfKeyword : Shape → Type 0
IsOfKeyword x = (id : Tree) × ((value : Tree) × (x ≡ shapes.DefineSyntax id value))

shape-keyword : (xs : List Tree) (x : Shape) → define_syntax_shape xs ≡ Some x → IsOfKeyword x
unfolding define_syntax_shape
shape-keyword [] x e = absurd (cc)
shape-keyword (id ∷ []) x e = absurd (cc)
shape-keyword (id ∷ (value ∷ [])) x e = by (is_leaf id) e
  where
    by : (b : Bool) → (if b then Some (shapes.DefineSyntax id value) else None) ≡ Some x → IsOfKeyword x
    by true k = let is : shapes.DefineSyntax id value ≡ x = cc in (id, (value, sym is))
    by false k = absurd (cc)
shape-keyword (id ∷ (value ∷ (y ∷ ys))) x e = absurd (cc)

operands-keyword : (xs : List Tree) (x : Shape) → by_operands core_forms.DefineSyntax xs ≡ Some x → IsOfKeyword x
unfolding shaped
operands-keyword [] x e = absurd (cc)
operands-keyword (h ∷ xs) x e = shape-keyword xs x e

keyword-shape : (t : Tree) (place : Span) (x : Shape) → shape core_forms.DefineSyntax t place ≡ Ok x → IsOfKeyword x
unfolding shape shape_of
keyword-shape t place x e = by (proper_elements t) e
  where
    by_shape : (o : Option Shape) → ((y : Shape) → o ≡ Some y → IsOfKeyword y) → or_bad t place o ≡ Ok x → IsOfKeyword x
    by_shape None of k = absurd (cc)
    by_shape (Some y) of k = let is : y ≡ x = cc in subst IsOfKeyword is (of y refl)

    by : (o : Option (List Tree)) → or_bad t place (if_some o (by_operands core_forms.DefineSyntax)) ≡ Ok x → IsOfKeyword x
    by None k = absurd (cc)
    by (Some xs) k = by_shape (by_operands core_forms.DefineSyntax xs) (λ y d. operands-keyword xs y d) k

-- What is taken of it.

abbrev IsKeyword : Item → Type 0
IsKeyword (items.Keyword b) = Unit {0}
IsKeyword items.Nothing = ⊥
IsKeyword (items.Forms forms) = ⊥
IsKeyword (items.Keywords recursive bs forms) = ⊥

abbrev HeadIsKeyword : HeadItem → Type 0
HeadIsKeyword (head_items.Item i) = IsKeyword i
HeadIsKeyword (head_items.Use l) = ⊥
HeadIsKeyword (head_items.SetUse l) = ⊥

module _ (at : BodyAt) (depth : ℕ) where
  -- nothing more waits, and the state stays
  abbrev Plans : Taken → State → Taken × HeadItem → State → Type 0
  Plans d s p u = (p.0.waiting ≡ d.waiting) × ((u ≡ s) × HeadIsKeyword p.1)

  keyword-taken : (d : Taken) (t : Tree) (x : Shape) (s : State) → IsOfKeyword x → Gave (Plans d s) (keywords_item at d t core_forms.DefineSyntax x s)
  unfolding keywords_item
  keyword-taken d t x s (id, (value, e)) = subst (λ (y : Shape). Gave (Plans d s) (keywords_item at d t core_forms.DefineSyntax y s)) (sym e) (refl, (refl, tt))

  form-taken : (d : Taken) (t : Tree) (s : State) → Gave (Plans d s) (core_item at depth d t core_forms.DefineSyntax s)
  unfolding core_item role_of
  form-taken d t s = by (shape core_forms.DefineSyntax t at.place) refl
    where
      by : (r : Result Shape Fault) → shape core_forms.DefineSyntax t at.place ≡ r → Gave (Plans d s) (with_shape r (keywords_item at d t core_forms.DefineSyntax) s)
      by (Err f) e = tt
      by (Ok x) e = keyword-taken d t x s (keyword-shape t at.place x e)

  -- its head stands for the core form
  abbrev pub Found : State → Type 0
  Found s = label_at s.frames at.frame word [] ≡ Some defining

  word-standing : (s : State) (a : Tree) → Found s → IsWord (stamped at.frame blank) a → (is_leaf a ≡ true) × (standing_of s a ≡ standing.Core core_forms.DefineSyntax)
  unfolding standing_of label_standing
  word-standing s (atom q b) f h = elim h [ ]
  word-standing s (leaf q x c) f h =
      let here : stands s.frames (leaf q word (stamped at.frame blank)) ≡ Some defining = ap (λ (o : Option Label). or_else o None) f in
      let as_it_is : standing_by s (stands s.frames (leaf q word (stamped at.frame blank))) ≡ standing.Core core_forms.DefineSyntax = ap (standing_by s) here in
      (refl, subst (λ (y : List ℕ). standing_by s (stands s.frames (leaf q y c)) ≡ standing.Core core_forms.DefineSyntax) (sym h.0) (subst (λ (k : LeafContext). standing_by s (stands s.frames (leaf q word k)) ≡ standing.Core core_forms.DefineSyntax) (sym h.1) as_it_is))
  word-standing s (pair q b e) f h = elim h [ ]
  word-standing s (vector q e) f h = elim h [ ]

  definition-planned : (d : Taken) (t : Tree) (s : State) → Found s → IsDefinition (stamped at.frame blank) t → Gave (Plans d s) (item_plan at depth d t s)
  unfolding list_item keep
  definition-planned d (atom q a) s f h = elim h [ ]
  definition-planned d (leaf q x c) s f h = elim h [ ]
  definition-planned d (vector q e) s f h = elim h [ ]
  definition-planned d (pair q a e) s f h = by (is_leaf a) (word-standing s a f h).0
    where
      taken : Taken
      taken = record d { kept = with_head d.kept (kept_head s a) }

      by : (b : Bool) → b ≡ true → Gave (Plans d s) ((if b then after (keep d a s) (λ kept s'. headed_item at depth kept (pair q a e) (standing_of s' a) s') else alone (wait at depth d (pair q a e)) s))
      by false k = absurd (cc)
      by true k = subst (λ (st : Standing). Gave (Plans d s) (headed_item at depth taken (pair q a e) st s)) (sym (word-standing s a f h).1) (form-taken taken (pair q a e) s)

  -- a step that is one of these items
  abbrev IsItem : ItemOrUse → Type 0
  IsItem (item_steps.Item i) = IsKeyword i
  IsItem (item_steps.Use k) = ⊥

  module _ (rs : List CompiledLibrary) where
    abbrev Steps : Taken → State → Taken × ItemOrUse → State → Type 0
    Steps d s p u = (p.0.waiting ≡ d.waiting) × ((u ≡ s) × IsItem p.1)

    item-stepped : (d e : Taken) (t : Tree) (i : HeadItem) (s : State) → e.waiting ≡ d.waiting → HeadIsKeyword i → Gave (Steps d s) (item_step_of rs at depth t e i s)
    item-stepped d e t (head_items.Item (items.Keyword b)) s same k = (same, (refl, tt))
    item-stepped d e t (head_items.Item items.Nothing) s same k = elim k [ ]
    item-stepped d e t (head_items.Item (items.Forms forms)) s same k = elim k [ ]
    item-stepped d e t (head_items.Item (items.Keywords recursive bs forms)) s same k = elim k [ ]
    item-stepped d e t (head_items.Use l) s same k = elim k [ ]
    item-stepped d e t (head_items.SetUse l) s same k = elim k [ ]

    definition-stepped : (d : Taken) (t : Tree) (s : State) → Found s → IsDefinition (stamped at.frame blank) t → Gave (Steps d s) (item_step rs at depth d t s)
    unfolding item_step
    definition-stepped d t s f h =
        gave-after (Plans d s) (Steps d s) (item_plan at depth d t s) (λ p. item_step_of rs at depth t p.0 p.1) (definition-planned d t s f h)
        (λ p u k. subst (λ (v : State). Gave (Steps d s) (item_step_of rs at depth t p.0 p.1 v)) (sym k.1.0) (item-stepped d p.0 t p.1 s k.0 k.1.1))

    abbrev Settles : Taken → Taken × PlannedItem → State → Type 0
    Settles d p u = (p.0.waiting ≡ d.waiting) × IsKeyword p.1.item

    item-settled : (onward : Taken → KeywordUse → Does (Taken × PlannedItem)) (d : Taken) (t : Tree) (p : Taken × ItemOrUse) (s u : State) → Steps d s p u → Gave (Settles d) (expand_uses.item_by onward at t p u)
    item-settled onward d t (e, item_steps.Item i) s u k = (k.0, k.1.1)
    item-settled onward d t (e, item_steps.Use l) s u k = elim k.1.1 [ ]

    definition-settled : (left : ℕ) (d : Taken) (t : Tree) (s : State) → Found s → IsDefinition (stamped at.frame blank) t → Gave (Settles d) (expand_item_uses_to rs left at depth d t s)
    unfolding expand_item_uses_to
    definition-settled zero d t s f h =
        gave-after (Steps d s) (Settles d) (item_step rs at depth d t s) (expand_uses.item_by (λ done k. too_many t at.place) at t) (definition-stepped d t s f h) (λ p u k. item-settled (λ done j. too_many t at.place) d t p s u k)
    definition-settled (suc left) d t s f h =
        gave-after (Steps d s) (Settles d) (item_step rs at depth d t s)
        (expand_uses.item_by (λ taken k s'. after (next_form rs left at.place t k (Some at.frame) s') (expand_item_uses_to rs left (at_use at t) depth taken)) at t) (definition-stepped d t s f h)
        (λ p u k. item-settled (λ taken j s'. after (next_form rs left at.place t j (Some at.frame) s') (expand_item_uses_to rs left (at_use at t) depth taken)) d t p s u k)

  -- and it leaves nothing that waits
  keyword-performed : (go : Inside) (other : BodyAt) (d : Taken) (t : Tree) (i : Item) (s : State) → IsKeyword i → Gave (λ e u. e ≡ d) (perform_item go other depth d t i s)
  unfolding perform_item
  keyword-performed go other d t (items.Keyword b) s k =
      gave-after (λ x u. Unit {0}) (λ e u. e ≡ d) (define_syntax go other (deeper depth) d (definition_parts t b) s) (λ _. give d) (gave-any (λ x u. Unit {0}) (define_syntax go other (deeper depth) d (definition_parts t b) s) (λ x u. tt)) (λ x u j. refl)
  keyword-performed go other d t items.Nothing s k = elim k [ ]
  keyword-performed go other d t (items.Forms forms) s k = elim k [ ]
  keyword-performed go other d t (items.Keywords recursive bs forms) s k = elim k [ ]

  pub definition-taken : (go : Inside) (d : Taken) (t : Tree) (s : State) → Found s → IsDefinition (stamped at.frame blank) t → Gave (λ e u. e.waiting ≡ d.waiting) (item go at depth d t s)
  unfolding item
  definition-taken go d t s f h =
      gave-if (λ e u. e.waiting ≡ d.waiting) (nat_lt most_round depth) _ (after (expand_item_uses go.earlier at depth d t s) (body.perform_settled go depth)) (λ e. tt)
      (λ e. gave-after (Settles go.earlier d) (λ x u. x.waiting ≡ d.waiting) (expand_item_uses go.earlier at depth d t s) (body.perform_settled go depth) (definition-settled go.earlier s.uses_left d t s f h)
      (λ p u k. gave-less (λ x v. x ≡ p.0) (λ x v. x.waiting ≡ d.waiting) (body.perform_settled go depth p u) (keyword-performed go p.1.at p.0 p.1.form p.1.item u k.1) (λ x v j. ap (λ (y : Taken). y.waiting) j ∙ k.0)))

-- What the frame of a library gives stays, where it has each symbol under marks once.

abbrev row : Row
row = record { symbol = word; marks = []; label = defining }

row-found : (rs : List Row) (r : Row) → Once (map row_key rs) → Among rs r → label_in rs r.symbol r.marks ≡ Some r.label
row-found [] r once a = elim a [ ]
row-found (y ∷ rs) r once (inl e) = subst (λ (z : Row). label_in (z ∷ rs) r.symbol r.marks ≡ Some r.label) e here
  where
    here : label_in (r ∷ rs) r.symbol r.marks ≡ Some r.label
    here =
        ap (λ (b : Bool). if b then Some r.label else label_in rs r.symbol r.marks)
        (and_from (pointwise nat_eq r.symbol r.symbol) (same_marks r.marks r.marks) ((texts_decides r.symbol r.symbol).1 refl) ((same_marks_decides r.marks r.marks).1 refl))
row-found (y ∷ rs) r once (inr a) = by (is_of r.symbol r.marks y) refl (row-found rs r once.1 a)
  where
    by : (b : Bool) → is_of r.symbol r.marks y ≡ b → label_in rs r.symbol r.marks ≡ Some r.label → (if b then Some y.label else label_in rs r.symbol r.marks) ≡ Some r.label
    by true e rest =
        let both = and_parts (pointwise nat_eq r.symbol y.symbol) (same_marks r.marks y.marks) e in
        let text = (texts_decides r.symbol y.symbol).0 both.0 in
        let marks = (same_marks_decides r.marks y.marks).0 both.1 in
        let key : row_key r ≡ row_key y = λ i. (text i, marks i) in
        absurd (once.0 (subst (Among (map row_key rs)) key (among-map row_key rs r a)))
    by false e rest = rest

-- the row that gives a label
found-row : (rs : List Row) (x : List ℕ) (ms : List Mark) (l : Label) → label_in rs x ms ≡ Some l → Among rs (record { symbol = x; marks = ms; label = l })
found-row [] x ms l e = absurd (cc)
found-row (y ∷ rs) x ms l e = by (is_of x ms y) refl e (found-row rs x ms l)
  where
    by : (b : Bool) → is_of x ms y ≡ b → (if b then Some y.label else label_in rs x ms) ≡ Some l → (label_in rs x ms ≡ Some l → Among rs (record { symbol = x; marks = ms; label = l }))
        → Among (y ∷ rs) (record { symbol = x; marks = ms; label = l })
    by true is k rest =
        let both = and_parts (pointwise nat_eq x y.symbol) (same_marks ms y.marks) is in
        let text = (texts_decides x y.symbol).0 both.0 in
        let marks = (same_marks_decides ms y.marks).0 both.1 in
        let label : y.label ≡ l = cc in
        inl (λ i. record { symbol = text i; marks = marks i; label = sym label i })
    by false is k rest = inr (rest k)

-- All forms of a body.

module _ (own : LibName) (rs : List CompiledLibrary) (room : ℕ) (at : BodyAt) (low : is_top at.kind ≡ true → at.level ≡ 0) (mine : IsOwn own at.frame.0) where
  record Leaves (start : State) (d : Taken) (t : State) : Type 0 where
    pub takes : Takes own at.frame (is_top at.kind) start start d t
    pub none : d.waiting ≡ []

  leaves-all : (start : State) (forms : List Tree) → AreKeyed own start.frames → Found at 0 start → Each (IsDefinition (stamped at.frame blank)) forms → (d : Taken) (t : State) → Leaves start d t → Gave (Leaves start) (gather ((inside rs (suc room)).item at 0) d forms t)
  unfolding gather inside
  leaves-all start [] keyed f h d t k = k
  leaves-all start (x ∷ forms) keyed f h d t k =
      gave-after (Leaves start) (Leaves start) ((inside rs (suc room)).item at 0 d x t) (λ e. gather ((inside rs (suc room)).item at 0) e forms) one (λ e u j. leaves-all start forms keyed f h.1 e u j)
    where
      here : Found at 0 t
      here = row-found (rows_at at.frame t.frames) row (k.takes.later.grows.keyed keyed at.frame mine) (k.takes.later.grows.kept at.frame row (found-row (rows_at at.frame start.frames) word [] defining f))

      one : Gave (Leaves start) (item (inside rs room) at 0 d x t)
      one =
          gave-less (λ e u. Takes own at.frame (is_top at.kind) start t e u × (e.waiting ≡ d.waiting)) (Leaves start) (item (inside rs room) at 0 d x t)
          (gave-both (Takes own at.frame (is_top at.kind) start t) (λ e u. e.waiting ≡ d.waiting) (item (inside rs room) at 0 d x t)
          ((inside-moves own rs (suc room)).item at 0 d x start t k.takes.later.next low k.takes.took) (definition-taken at 0 (inside rs room) d x t here h.0))
          (λ e u j. record {
            takes = record { later = but-then own at.frame start t u k.takes.later j.0.later; took = j.0.took; keeps = keeps-then own start t u k.takes.later.up j.0.later.up k.takes.keeps j.0.keeps };
            none = j.1 ∙ k.none;
          })

  pub definitions-leave : (start : State) (forms : List Tree) → start.names.library ≡ own → AreKeyed own start.frames → Found at 0 start → Each (IsDefinition (stamped at.frame blank)) forms
      → Gave (λ d t. d.waiting ≡ []) (splice (inside rs (suc room)) at 0 begun forms start)
  definitions-leave start forms n keyed f h =
      gave-less (Leaves start) (λ d t. d.waiting ≡ []) (splice (inside rs (suc room)) at 0 begun forms start)
      (leaves-all start forms keyed f h begun start (record { takes = record { later = but-self own at.frame start n; took = took-none own (is_top at.kind) start; keeps = keeps-self own start }; none = refl })) (λ d t k. k.none)

-- The record of such a library has no lines.

finished-bare : (go : Inside) (at : TopAt) (es : List (List ℕ × Tree)) (d : Taken) (s : State) → d.waiting ≡ [] → Gave (λ r t. r.run ≡ []) (second_pass go at es d s)
unfolding second_pass
finished-bare go at es d s none =
    gave-after (λ ls t. Unit {0}) (λ r t. r.run ≡ []) (exports at es s) (λ ls s'. after (finish_all go 0 d.waiting s') (λ lines. give_record at ls lines)) (gave-any (λ ls t. Unit {0}) (exports at es s) (λ ls t. tt))
    (λ ls t k. subst (λ (ws : List Waiting). Gave (λ r u. r.run ≡ []) (after (finish_all go 0 ws t) (λ lines. give_record at ls lines))) (sym none)
    (subst (λ (x : Result (List Line × State) Fault). Gave (λ r u. r.run ≡ []) (after x (λ lines. give_record at ls lines))) (sym (each-nil (finish_one go 0) t)) refl))

top-bare : (at : TopAt) (es : List (List ℕ × Tree)) (forms : List Tree) (start : State) → start.names.library ≡ start.library → IsOwn start.library at.frame.0 → AreKeyed start.library start.frames → label_at start.frames at.frame word [] ≡ Some defining → Each (IsDefinition blank) forms → Gave (λ r t. r.run ≡ []) (top (inside [] full_room) at es forms start)
unfolding top first_pass
top-bare at es forms start n mine keyed found are =
    let place = body_at at start.library in
    gave-after (λ d t. d.waiting ≡ []) (λ r t. r.run ≡ []) (splice (inside [] full_room) place 0 begun (map (stamp at.frame) forms) start) (second_pass (inside [] full_room) at es)
    (definitions-leave start.library [] (most_round + 1) place (λ e. refl) mine start (map (stamp at.frame) forms) n keyed found (definitions-stamped at.frame forms are))
    (λ d t k. finished-bare (inside [] full_room) at es d t k)

pub no-lines : (own : LibName) (imports : List ImportedName) (text : LibraryBody) (codes : Codes) (r : CompiledLibrary)
    → label_at (started own [] imports codes).frames (first_frame own) word [] ≡ Some defining → (started own [] imports codes).names.library ≡ (started own [] imports codes).library → (started own [] imports codes).library ≡ own → AreKeyed own (started own [] imports codes).frames
    → Each (IsDefinition blank) text.forms
    → library_record (ready own [] imports codes) [] text ≡ Ok r → r.run ≡ []
no-lines own imports text codes r found same lib keyed are e =
    by (top (inside [] full_room) (top_at (first_frame own) text) text.exports text.forms (started own [] imports codes)) (top-bare (top_at (first_frame own) text) text.exports text.forms (started own [] imports codes) same (sym lib) (subst (λ (k : LibName). AreKeyed k (started own [] imports codes).frames) (sym lib) keyed) found are) e
  where
    by : (x : Result (CompiledLibrary × State) Fault) → Gave (λ q t. q.run ≡ []) x → record_in x ≡ Ok r → r.run ≡ []
    by (Ok p) h k = let is : p.0 ≡ r = cc in subst (λ (q : CompiledLibrary). q.run ≡ []) is h
    by (Err f) h k = absurd (cc)
