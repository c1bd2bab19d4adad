-- What a library adds to frames and bindings.
use Rattle.std.proofs.Common.{◌≡◌, ℕ, Bool, true, false, List, [], ◌∷◌, ◌++◌, map, Some, refl, sym, ◌∙◌, ap, subst, arith, inl, inr, if◌then◌else◌}
use Rattle.std.specs.Prelude.{◌⊎◌, ◌≤◌, is_some, nat_eq}
use Rattle.std.specs.Cmp.Lexicographic.{pointwise}
use Rattle.std.proofs.lemmas.Bool.{and_from}
use Rattle.std.proofs.lemmas.List.{map-append}
use Rattle.base_data.proofs.ElementLemmas.{among-first, among-parts}
use Rattle.base_data.specs.Elements.{Among, Once}
use Rattle.base_data.specs.Same.{texts_decides}
use Rattle.base_data.specs.declared.library.LibName.{LibName}
use Rattle.base_data.specs.declared.name.FrameNo.{FrameNo}
use Rattle.base_data.specs.declared.name.Label.{Label}
use Rattle.base_data.specs.declared.name.Mark.{Mark}
use Rattle.stx_tree.specs.SameMarks.{same_marks, same_marks_decides}
use Rattle.stx_tree.specs.Tree.{Tree}
use Rattle.stx_frames.specs.Rows.{Row, is_of, label_in}
use Rattle.stx_frames.specs.Scope.{Scope, rows_at, same_frame, label_at, with_row}
use Rattle.stx_frames.proofs.FrameLaws.{rows_at-with_row, rows_at-other}
use Rattle.stx_frames.proofs.MemoLemmas.{same_frame_is}
use Rattle.stx_frames.proofs.ScopeLemmas.{same_frame-self}
use Rattle.core_language.specs.Bindings.{bound_to}
use Rattle.core_language.specs.declared.binding.Binding.{Binding}
use Rattle.expand_quasi.specs.Inserted.{dots, ellipsis}
use Rattle.stx_scope.specs.Stands.{row_for}
use Rattle.expand_standing.specs.State.{State}
use Rattle.law_expand.specs.States.{IsOwn, IsOwnOrEllipsis, IsBound, RowsShow, IsAdded, IndicesApart, row_key, AreKeyed, RowsAreBound, Grows}
use Rattle.law_expand.proofs.Fresh.{once-append}

-- a frame that keeps its rows shows what it showed
pub shows-more : (rs more : List Row) (l : Label) → ((r : Row) → Among rs r → Among more r) → RowsShow rs l → RowsShow more l
shows-more rs more l w h = record { row = h.row; there = w h.row h.there; label = h.label }

module _ (own : LibName) where
  indices-same : (s t : State) → t.bindings ≡ s.bindings → t.index ≡ s.index → IndicesApart own s → IndicesApart own t
  indices-same s t b x h = record {
    below = λ l v i o e k. let lt = h.below l v i o (ap (λ bs. bound_to bs l) (sym b) ∙ e) k in omega (arith, lt, x);
    apart = λ l m v w i o q e d k r. h.apart l m v w i o q (ap (λ bs. bound_to bs l) (sym b) ∙ e) (ap (λ bs. bound_to bs m) (sym b) ∙ d) k r;
  }

  shown-same : (s t : State) → t.bindings ≡ s.bindings → (r : Row) → IsBound s r.label ⊎ (r ≡ row_for dots ellipsis) → IsBound t r.label ⊎ (r ≡ row_for dots ellipsis)
  shown-same s t b r (inl x) = inl (x.0, subst (λ bs. bound_to bs r.label ≡ Some x.0) (sym b) x.1)
  shown-same s t b r (inr e) = inr e

  -- where frames, bindings and the next index are the same
  pub grows-same : (s t : State) → t.frames ≡ s.frames → t.bindings ≡ s.bindings → t.index ≡ s.index → s.names.number ≤ t.names.number → Grows own s t
  grows-same s t f b x up = record {
    kept = λ g r a. subst (λ fs. Among (rows_at g fs) r) (sym f) a;
    rows = λ g r a. inl (subst (λ fs. Among (rows_at g fs) r) f a);
    bindings = λ l y e. inl (subst (λ bs. bound_to bs l ≡ Some y) b e);
    bound = λ l y e. subst (λ bs. bound_to bs l ≡ Some y) (sym b) e;
    indices = indices-same s t b x;
    numbered = λ h l y o e. let lt = h l y o (subst (λ bs. bound_to bs l ≡ Some y) b e) in omega (arith, lt, up);
    keyed = λ h. subst (AreKeyed own) (sym f) h;
    shown = λ h g r a o. shown-same s t b r (h g r (subst (λ fs. Among (rows_at g fs) r) f a) o);
  }

  pub grows-self : (s : State) → Grows own s s
  grows-self s = grows-same s s refl refl refl (omega arith)

  pub grows-then : (s t u : State) → Grows own s t → Grows own t u → Grows own s u
  grows-then s t u h k = record {
    kept = λ f r a. k.kept f r (h.kept f r a);
    rows = λ f r a. by_row f r (k.rows f r a);
    bindings = λ l b e. by_binding l b (k.bindings l b e);
    bound = λ l b e. k.bound l b (h.bound l b e);
    indices = λ a. k.indices (h.indices a);
    numbered = λ n. k.numbered (h.numbered n);
    keyed = λ n. k.keyed (h.keyed n);
    shown = λ n. k.shown (h.shown n);
  }
    where
      by_row : (f : FrameNo) (r : Row) → Among (rows_at f t.frames) r ⊎ IsOwnOrEllipsis own r → Among (rows_at f s.frames) r ⊎ IsOwnOrEllipsis own r
      by_row f r (inl a) = h.rows f r a
      by_row f r (inr o) = inr o

      by_binding : (l : Label) (b : Binding) → (bound_to t.bindings l ≡ Some b) ⊎ (IsOwn own l.0 × IsAdded b) → (bound_to s.bindings l ≡ Some b) ⊎ (IsOwn own l.0 × IsAdded b)
      by_binding l b (inl e) = h.bindings l b e
      by_binding l b (inr v) = inr v

-- A row at the end of its frame's rows.

module _ (fs : Scope) (f : FrameNo) (r : Row) where
  apart : (g : FrameNo) → same_frame g f ≡ false → g ≡ f → ⊥
  apart g d e = let is = ap (λ x. same_frame x f) e in let self = same_frame-self f in absurd (cc)

  pub row-kept : (g : FrameNo) (x : Row) → Among (rows_at g fs) x → Among (rows_at g (with_row fs f r)) x
  row-kept g x a = by (same_frame g f) refl
    where
      by : (b : Bool) → same_frame g f ≡ b → Among (rows_at g (with_row fs f r)) x
      by true e = let is = same_frame_is g f e in
          subst (λ (h : FrameNo). Among (rows_at h (with_row fs f r)) x) (sym is)
          (subst (λ (rs : List Row). Among rs x) (sym (rows_at-with_row fs f r)) (among-first (rows_at f fs) (r ∷ []) x (subst (λ (h : FrameNo). Among (rows_at h fs) x) is a)))
      by false e = subst (λ (rs : List Row). Among rs x) (sym (rows_at-other fs f g r (apart g e))) a

  pub row-new : (g : FrameNo) (x : Row) → Among (rows_at g (with_row fs f r)) x → Among (rows_at g fs) x ⊎ (x ≡ r)
  row-new g x a = by (same_frame g f) refl
    where
      last : g ≡ f → Among (rows_at f fs) x ⊎ Among (r ∷ []) x → Among (rows_at g fs) x ⊎ (x ≡ r)
      last is (inl b) = inl (subst (λ (h : FrameNo). Among (rows_at h fs) x) (sym is) b)
      last is (inr (inl e)) = inr e
      last is (inr (inr b)) = elim b [ ]

      by : (b : Bool) → same_frame g f ≡ b → Among (rows_at g fs) x ⊎ (x ≡ r)
      by true e = let is = same_frame_is g f e in
          last is (among-parts (rows_at f fs) (r ∷ []) x
          (subst (λ (rs : List Row). Among rs x) (rows_at-with_row fs f r) (subst (λ (h : FrameNo). Among (rows_at h (with_row fs f r)) x) is a)))
      by false e = inl (subst (λ (rs : List Row). Among rs x) (rows_at-other fs f g r (apart g e)) a)

-- a symbol under marks that a row has is found
key-found : (rs : List Row) (x : List ℕ) (ms : List Mark) → Among (map row_key rs) (x, ms) → is_some (label_in rs x ms) ≡ true
key-found [] x ms a = elim a [ ]
key-found (r ∷ rs) x ms (inl e) =
    let text = (texts_decides x r.symbol).1 (ap (λ (k : List ℕ × List Mark). k.0) e) in
    let marks = (same_marks_decides ms r.marks).1 (ap (λ (k : List ℕ × List Mark). k.1) e) in
    ap (λ b. is_some (if b then Some r.label else label_in rs x ms)) (and_from (pointwise nat_eq x r.symbol) (same_marks ms r.marks) text marks)
key-found (r ∷ rs) x ms (inr a) = by (is_of x ms r) (key-found rs x ms a)
  where
    by : (b : Bool) → is_some (label_in rs x ms) ≡ true → is_some (if b then Some r.label else label_in rs x ms) ≡ true
    by true e = refl
    by false e = e

-- where a frame has no row of its symbol and marks, all rows stay keyed
pub keyed-with-row : (own : LibName) (fs : Scope) (f : FrameNo) (r : Row) → is_some (label_at fs f r.symbol r.marks) ≡ false → AreKeyed own fs → AreKeyed own (with_row fs f r)
keyed-with-row own fs f r new h g o = by (same_frame g f) refl
  where
    never : (k : List ℕ × List Mark) → Among (map row_key (rows_at f fs)) k → Among (row_key r ∷ []) k → ⊥
    never k a (inl e) =
        let there = key-found (rows_at f fs) r.symbol r.marks (subst (Among (map row_key (rows_at f fs))) e a) in
        let bad : false ≡ true = sym new ∙ there in absurd (cc)
    never k a (inr b) = elim b [ ]

    last : IsOwn own f.0 → Once (map row_key (rows_at f fs ++ r ∷ []))
    last mine = subst Once (sym (map-append row_key (rows_at f fs) (r ∷ []))) (once-append (map row_key (rows_at f fs)) (row_key r ∷ []) (h f mine) ((λ a. a), tt) never)

    by : (b : Bool) → same_frame g f ≡ b → Once (map row_key (rows_at g (with_row fs f r)))
    by true e = subst (λ (x : FrameNo). Once (map row_key (rows_at x (with_row fs f r)))) (sym (same_frame_is g f e)) (subst (λ (rs : List Row). Once (map row_key rs)) (sym (rows_at-with_row fs f r)) (last (subst (λ (x : FrameNo). IsOwn own x.0) (same_frame_is g f e) o)))
    by false e = subst (λ (rs : List Row). Once (map row_key rs)) (sym (rows_at-other fs f g r (apart fs f r g e))) (h g o)

-- a row for a label that is bound
pub shown-with-row : (own : LibName) (s t : State) (f : FrameNo) (id : Tree) (l : Label) → t.frames ≡ with_row s.frames f (row_for id l) → ((m : Label) → IsBound s m → IsBound t m) → IsBound t l → RowsAreBound own s → RowsAreBound own t
shown-with-row own s t f id l is kept bound h g r a o = by (row-new s.frames f (row_for id l) g r (subst (λ fs. Among (rows_at g fs) r) is a))
  where
    still : IsBound s r.label ⊎ (r ≡ row_for dots ellipsis) → IsBound t r.label ⊎ (r ≡ row_for dots ellipsis)
    still (inl x) = inl (kept r.label x)
    still (inr e) = inr e

    by : Among (rows_at g s.frames) r ⊎ (r ≡ row_for id l) → IsBound t r.label ⊎ (r ≡ row_for dots ellipsis)
    by (inl b) = still (h g r b o)
    by (inr e) = inl (subst (λ (x : Row). IsBound t x.label) (sym e) bound)
