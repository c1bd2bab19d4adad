-- What frames give without the binders of a use.
use Rattle.std.specs.Prelude.{◌≡◌, ◌≢◌, ℕ, Bool, true, false, cond, not, nat_eq, List, [], ◌∷◌, ◌++◌, option_map, Option, None, Some, IsSomeAnd, ◌⊎◌, IsFalse, refl}
use Rattle.std.proofs.Common.{sym, ◌∙◌, ap, subst, true≢false, inl, inr}
use Rattle.std.proofs.lemmas.List.Elements.{filter-append}
use Rattle.std.specs.Cmp.{first_so, second_so}
use Rattle.std.specs.Cmp.Lexicographic.{pointwise}
use Rattle.base_data.proofs.ElementLemmas.{each-at}
use Rattle.base_data.specs.Elements.{Each, Among}
use Rattle.base_data.specs.Same.{texts_decides}
use Rattle.base_data.specs.declared.name.FrameNo.{FrameNo}
use Rattle.base_data.specs.declared.name.Mark.{Mark}
use Rattle.stx_tree.specs.SameMarks.{same_marks, same_marks_decides}
use Rattle.stx_tree.specs.declared.stamp.Stamp.{Stamp}
use Rattle.stx_frames.specs.Rows.{Row, is_of, label_in}
use Rattle.stx_frames.specs.Scope.{Scope, same_frame, rows_at, label_at, or_else, label_by, with_row}
use Rattle.law_hygiene.specs.Marked.{has_mark, StampedWithout}
use Rattle.law_hygiene.specs.Binder.{row_in, row_by, IsRowAt, IsOfUse, IsOfOther, IntroducesNone, others, without, IsNew}

label_in-row : (rs : List Row) (s : List ℕ) (ms : List Mark) → label_in rs s ms ≡ option_map (λ (r : Row). r.label) (row_in rs s ms)
label_in-row [] s ms = refl
label_in-row (r ∷ rs) s ms = ap (cond (is_of s ms r) (Some r.label)) (label_in-row rs s ms) ∙ by (is_of s ms r)
  where
    by : (b : Bool) → cond b (Some r.label) (option_map (λ (q : Row). q.label) (row_in rs s ms)) ≡ option_map (λ (q : Row). q.label) (cond b (Some r) (row_in rs s ms))
    by true = refl
    by false = refl

-- the label of the row that is found
pub label_by-row : (fs : Scope) (s : List ℕ) (ts : List Stamp) → label_by fs s ts ≡ option_map (λ (r : Row). r.label) (row_by fs s ts)
label_by-row fs s [] = refl
label_by-row fs s (t ∷ ts) = (λ i. or_else (label_in-row (rows_at t.frame fs) s t.marks i) (label_by-row fs s ts i)) ∙ by (row_in (rows_at t.frame fs) s t.marks)
  where
    by : (o : Option Row) → or_else (option_map (λ (q : Row). q.label) o) (option_map (λ (q : Row). q.label) (row_by fs s ts)) ≡ option_map (λ (q : Row). q.label) (or_else o (row_by fs s ts))
    by None = refl
    by (Some q) = refl

-- a row that is found has the symbol and the marks
pub row_in_is : (s : List ℕ) (ms : List Mark) (rs : List Row) (r : Row) → row_in rs s ms ≡ Some r → Among rs r × (r.symbol ≡ s) × (r.marks ≡ ms)
row_in_is s ms [] r h = absurd (cc)
row_in_is s ms (q ∷ rs) r h = by (is_of s ms q) refl h (row_in_is s ms rs r)
  where
    by : (b : Bool) → is_of s ms q ≡ b → cond b (Some q) (row_in rs s ms) ≡ Some r → (row_in rs s ms ≡ Some r → Among rs r × (r.symbol ≡ s) × (r.marks ≡ ms))
        → Among (q ∷ rs) r × (r.symbol ≡ s) × (r.marks ≡ ms)
    by true e k n =
        let same : r ≡ q = cc in
        let x = (texts_decides s q.symbol).0 (first_so (pointwise nat_eq s q.symbol) (same_marks ms q.marks) e) in
        let y = (same_marks_decides ms q.marks).0 (second_so (pointwise nat_eq s q.symbol) (same_marks ms q.marks) e) in
        (inl same, ap (λ (z : Row). z.symbol) same ∙ sym x, ap (λ (z : Row). z.marks) same ∙ sym y)
    by false e k n = let i = n k in (inr i.0, i.1, i.2)

-- marks that pass a test find nothing where those of no row of the symbol do
pub row_in-failed : (p : List Mark → Bool) (s : List ℕ) (ms : List Mark) → p ms ≡ true → (rs : List Row) → Each (λ (r : Row). r.symbol ≡ s → IsFalse (p r.marks)) rs
    → row_in rs s ms ≡ None
row_in-failed p s ms h rs n = by (row_in rs s ms) refl
  where
    by : (o : Option Row) → row_in rs s ms ≡ o → o ≡ None
    by None e = refl
    by (Some r) e =
        let i = row_in_is s ms rs r e in
        absurd (true≢false (sym h ∙ sym (ap p i.2) ∙ each-at (λ (r : Row). r.symbol ≡ s → IsFalse (p r.marks)) rs r n i.0 i.1))

pub by_a_stamp : (fs : Scope) (s : List ℕ) (ts : List Stamp) (r : Row) → row_by fs s ts ≡ Some r → (t : Stamp) × Among ts t × IsRowAt fs r s t
by_a_stamp fs s [] r h = absurd (cc)
by_a_stamp fs s (t ∷ ts) r h = by (row_in (rows_at t.frame fs) s t.marks) refl h (by_a_stamp fs s ts r)
  where
    by : (o : Option Row) → row_in (rows_at t.frame fs) s t.marks ≡ o → or_else o (row_by fs s ts) ≡ Some r
        → (row_by fs s ts ≡ Some r → (u : Stamp) × Among ts u × IsRowAt fs r s u) → (u : Stamp) × Among (t ∷ ts) u × IsRowAt fs r s u
    by None k n g = let i = g n in (i.0, inr i.1, i.2)
    by (Some q) k n g =
        let i = row_in_is s t.marks (rows_at t.frame fs) r (k ∙ n) in
        (t, inl refl, record { row = i.0; symbol = i.1; marks = i.2 })

module _ (m : Mark) where
  -- a row that is found has the mark where the leaf had it at its stamp
  has_found : (s : List ℕ) (ms : List Mark) (r : Row) → is_of s ms r ≡ true → has_mark m ms ≡ has_mark m r.marks
  has_found s ms r h = ap (has_mark m) ((same_marks_decides ms r.marks).0 (second_so (pointwise nat_eq s r.symbol) (same_marks ms r.marks) h))

  symbol_found : (s : List ℕ) (ms : List Mark) (r : Row) → is_of s ms r ≡ true → r.symbol ≡ s
  symbol_found s ms r h = sym ((texts_decides s r.symbol).0 (first_so (pointwise nat_eq s r.symbol) (same_marks ms r.marks) h))

  -- a row that has the mark is none for a stamp without it, nor the other way round
  pub apart : (s : List ℕ) (ms : List Mark) (r : Row) (b c : Bool) → has_mark m ms ≡ b → has_mark m r.marks ≡ c → b ≢ c → is_of s ms r ≡ false
  apart s ms r b c h k d = by (is_of s ms r) refl
    where
      by : (v : Bool) → is_of s ms r ≡ v → v ≡ false
      by true e = absurd (d (sym h ∙ has_found s ms r e ∙ k))
      by false e = refl

  -- so of a row that is found
  row_in_has : (s : List ℕ) (ms : List Mark) (rs : List Row) (r : Row) → row_in rs s ms ≡ Some r → has_mark m ms ≡ has_mark m r.marks
  row_in_has s ms [] r h = absurd (cc)
  row_in_has s ms (q ∷ rs) r h = by (is_of s ms q) refl h (row_in_has s ms rs r)
    where
      by : (b : Bool) → is_of s ms q ≡ b → cond b (Some q) (row_in rs s ms) ≡ Some r → (row_in rs s ms ≡ Some r → has_mark m ms ≡ has_mark m r.marks) → has_mark m ms ≡ has_mark m r.marks
      by true e k n = let same : q ≡ r = cc in has_found s ms q e ∙ ap (λ (x : Row). has_mark m x.marks) same
      by false e k n = n k

  -- stamps without the mark find a row without it
  pub row_by_other : (fs : Scope) (s : List ℕ) (ts : List Stamp) → StampedWithout m ts → (r : Row) → row_by fs s ts ≡ Some r → has_mark m r.marks ≡ false
  row_by_other fs s [] h r e = absurd (cc)
  row_by_other fs s (t ∷ ts) h r e = by (row_in (rows_at t.frame fs) s t.marks) refl e (row_by_other fs s ts h.1 r)
    where
      by : (o : Option Row) → row_in (rows_at t.frame fs) s t.marks ≡ o → or_else o (row_by fs s ts) ≡ Some r → (row_by fs s ts ≡ Some r → has_mark m r.marks ≡ false) → has_mark m r.marks ≡ false
      by None k n g = g n
      by (Some q) k n g = sym (row_in_has s t.marks (rows_at t.frame fs) r (k ∙ n)) ∙ h.0

  -- where no row has it none that is found does
  rows_at_new : (f : FrameNo) (fs : Scope) → IsNew m fs → Each (IsOfOther m) (rows_at f fs)
  rows_at_new f [] h = tt
  rows_at_new f (e ∷ es) h = by (same_frame f e.0) (rows_at_new f es h.1)
    where
      by : (b : Bool) → Each (IsOfOther m) (rows_at f es) → Each (IsOfOther m) (cond b e.1 (rows_at f es))
      by true k = h.0
      by false k = k

  row_in_new : (s : List ℕ) (ms : List Mark) (rs : List Row) → Each (IsOfOther m) rs → (r : Row) → row_in rs s ms ≡ Some r → IsOfOther m r
  row_in_new s ms [] h r e = absurd (cc)
  row_in_new s ms (q ∷ rs) h r e = by (is_of s ms q) e (row_in_new s ms rs h.1 r)
    where
      by : (b : Bool) → cond b (Some q) (row_in rs s ms) ≡ Some r → (row_in rs s ms ≡ Some r → IsOfOther m r) → IsOfOther m r
      by true k n = let same : q ≡ r = cc in subst (IsOfOther m) same h.0
      by false k n = n k

  pub row_by_new : (fs : Scope) → IsNew m fs → (s : List ℕ) (ts : List Stamp) (r : Row) → row_by fs s ts ≡ Some r → IsOfOther m r
  row_by_new fs h s [] r e = absurd (cc)
  row_by_new fs h s (t ∷ ts) r e = by (row_in (rows_at t.frame fs) s t.marks) refl e (row_by_new fs h s ts r)
    where
      by : (o : Option Row) → row_in (rows_at t.frame fs) s t.marks ≡ o → or_else o (row_by fs s ts) ≡ Some r → (row_by fs s ts ≡ Some r → IsOfOther m r) → IsOfOther m r
      by None k n g = g n
      by (Some q) k n g = row_in_new s t.marks (rows_at t.frame fs) (rows_at_new t.frame fs h) r (k ∙ n)

  -- a stamp with the mark finds a row with it or none, in front of what the others find
  pub row_by_more : (fs : Scope) (f : FrameNo) (s : List ℕ) (ms : List Mark) → has_mark m ms ≡ true → (o : Option Row)
      → IsSomeAnd (or_else (row_in (rows_at f fs) s ms) o) (IsOfUse m) ⊎ (or_else (row_in (rows_at f fs) s ms) o ≡ o)
  row_by_more fs f s ms h o = by (row_in (rows_at f fs) s ms) refl
    where
      by : (p : Option Row) → row_in (rows_at f fs) s ms ≡ p → IsSomeAnd (or_else p o) (IsOfUse m) ⊎ (or_else p o ≡ o)
      by None e = inr refl
      by (Some r) e = inl (sym (row_in_has s ms (rows_at f fs) r e) ∙ h)

  -- a stamp without the mark finds the same
  label_in-others : (s : List ℕ) (ms : List Mark) → has_mark m ms ≡ false → (rs : List Row) → label_in (others m rs) s ms ≡ label_in rs s ms
  label_in-others s ms h [] = refl
  label_in-others s ms h (r ∷ rs) = by (has_mark m r.marks) refl (label_in-others s ms h rs)
    where
      by : (b : Bool) → has_mark m r.marks ≡ b → label_in (others m rs) s ms ≡ label_in rs s ms
          → label_in (cond (not (has_mark m r.marks)) (r ∷ others m rs) (others m rs)) s ms ≡ cond (is_of s ms r) (Some r.label) (label_in rs s ms)
      by true e k =
          ap (λ b. label_in (cond (not b) (r ∷ others m rs) (others m rs)) s ms) e ∙ k
          ∙ sym (ap (λ b. cond b (Some r.label) (label_in rs s ms)) (apart s ms r false true h e (λ x. true≢false (sym x))))
      by false e k =
          ap (λ b. label_in (cond (not b) (r ∷ others m rs) (others m rs)) s ms) e ∙ ap (cond (is_of s ms r) (Some r.label)) k

  -- one with it finds nothing
  label_in-none : (s : List ℕ) (ms : List Mark) → has_mark m ms ≡ true → (rs : List Row) → label_in (others m rs) s ms ≡ None
  label_in-none s ms h [] = refl
  label_in-none s ms h (r ∷ rs) = by (has_mark m r.marks) refl (label_in-none s ms h rs)
    where
      by : (b : Bool) → has_mark m r.marks ≡ b → label_in (others m rs) s ms ≡ None
          → label_in (cond (not (has_mark m r.marks)) (r ∷ others m rs) (others m rs)) s ms ≡ None
      by true e k = ap (λ b. label_in (cond (not b) (r ∷ others m rs) (others m rs)) s ms) e ∙ k
      by false e k =
          ap (λ b. label_in (cond (not b) (r ∷ others m rs) (others m rs)) s ms) e
          ∙ ap (λ b. cond b (Some r.label) (label_in (others m rs) s ms)) (apart s ms r true false h e true≢false) ∙ k

  -- and none where no row of its symbol has the mark
  row_in-free : (s : List ℕ) (ms : List Mark) → has_mark m ms ≡ true → (rs : List Row) → Each (λ (r : Row). r.symbol ≡ s → IsOfOther m r) rs → row_in rs s ms ≡ None
  row_in-free s ms h [] n = refl
  row_in-free s ms h (r ∷ rs) n = by (is_of s ms r) refl (row_in-free s ms h rs n.1)
    where
      by : (b : Bool) → is_of s ms r ≡ b → row_in rs s ms ≡ None → cond (is_of s ms r) (Some r) (row_in rs s ms) ≡ None
      by true e k = absurd (true≢false (sym h ∙ has_found s ms r e ∙ n.0 (symbol_found s ms r e)))
      by false e k = ap (λ b. cond b (Some r) (row_in rs s ms)) e ∙ k

  pub row_by-free : (fs : Scope) (f : FrameNo) (s : List ℕ) (ms : List Mark) → has_mark m ms ≡ true → IntroducesNone m fs s f → (o : Option Row)
      → or_else (row_in (rows_at f fs) s ms) o ≡ o
  row_by-free fs f s ms h n o = ap (λ p. or_else p o) (row_in-free s ms h (rows_at f fs) n)

  rows_at-without : (f : FrameNo) (fs : Scope) → rows_at f (without m fs) ≡ others m (rows_at f fs)
  rows_at-without f [] = refl
  rows_at-without f (e ∷ es) = by (same_frame f e.0) (rows_at-without f es)
    where
      by : (b : Bool) → rows_at f (without m es) ≡ others m (rows_at f es) → cond b (others m e.1) (rows_at f (without m es)) ≡ others m (cond b e.1 (rows_at f es))
      by true k = refl
      by false k = k

  pub label_at-without : (fs : Scope) (f : FrameNo) (s : List ℕ) (ms : List Mark) → has_mark m ms ≡ false → label_at (without m fs) f s ms ≡ label_at fs f s ms
  label_at-without fs f s ms h = ap (λ rs. label_in rs s ms) (rows_at-without f fs) ∙ label_in-others s ms h (rows_at f fs)

  pub label_at-none : (fs : Scope) (f : FrameNo) (s : List ℕ) (ms : List Mark) → has_mark m ms ≡ true → label_at (without m fs) f s ms ≡ None
  label_at-none fs f s ms h = ap (λ rs. label_in rs s ms) (rows_at-without f fs) ∙ label_in-none s ms h (rows_at f fs)

  -- stamps without the mark find the same
  pub label_by-without : (fs : Scope) (s : List ℕ) (ts : List Stamp) → StampedWithout m ts → label_by (without m fs) s ts ≡ label_by fs s ts
  label_by-without fs s [] h = refl
  label_by-without fs s (t ∷ ts) h = λ i. or_else (label_at-without fs t.frame s t.marks h.0 i) (label_by-without fs s ts h.1 i)

  -- a row that has the mark, at the end of a frame's rows
  row_in-more : (s : List ℕ) (ms : List Mark) (r : Row) → is_of s ms r ≡ false → (rs : List Row) → row_in (rs ++ r ∷ []) s ms ≡ row_in rs s ms
  row_in-more s ms r h [] = ap (λ b. cond {A = Option Row} b (Some r) None) h
  row_in-more s ms r h (q ∷ rs) = ap (cond (is_of s ms q) (Some q)) (row_in-more s ms r h rs)

  row_at-with_row : (f : FrameNo) (r : Row) → (g : FrameNo) (s : List ℕ) (ms : List Mark) → is_of s ms r ≡ false → (fs : Scope) → row_in (rows_at g (with_row fs f r)) s ms ≡ row_in (rows_at g fs) s ms
  row_at-with_row f r g s ms h [] = by (same_frame g f)
    where
      by : (b : Bool) → row_in (cond b (r ∷ []) []) s ms ≡ None
      by true = row_in-more s ms r h []
      by false = refl
  row_at-with_row f r g s ms h (e ∷ es) = by (same_frame f e.0) (row_at-with_row f r g s ms h es)
    where
      here : (b : Bool) → row_in (cond b (e.1 ++ r ∷ []) (rows_at g es)) s ms ≡ row_in (cond b e.1 (rows_at g es)) s ms
      here true = row_in-more s ms r h e.1
      here false = refl

      there : (b : Bool) → row_in (rows_at g (with_row es f r)) s ms ≡ row_in (rows_at g es) s ms → row_in (cond b e.1 (rows_at g (with_row es f r))) s ms ≡ row_in (cond b e.1 (rows_at g es)) s ms
      there true k = refl
      there false k = k

      by : (b : Bool) → row_in (rows_at g (with_row es f r)) s ms ≡ row_in (rows_at g es) s ms
          → row_in (rows_at g (cond b ((e.0, e.1 ++ r ∷ []) ∷ es) (e ∷ with_row es f r))) s ms ≡ row_in (cond (same_frame g e.0) e.1 (rows_at g es)) s ms
      by true k = here (same_frame g e.0)
      by false k = there (same_frame g e.0) k

  pub row_by-with_row : (fs : Scope) (f : FrameNo) (r : Row) → has_mark m r.marks ≡ true → (s : List ℕ) (ts : List Stamp) → StampedWithout m ts
      → row_by (with_row fs f r) s ts ≡ row_by fs s ts
  row_by-with_row fs f r k s [] h = refl
  row_by-with_row fs f r k s (t ∷ ts) h =
      λ i. or_else (row_at-with_row f r t.frame s t.marks (apart s t.marks r false true h.0 k (λ x. true≢false (sym x))) fs i) (row_by-with_row fs f r k s ts h.1 i)

  -- frames that the mark is new to are whole without its binders
  others_new : (rs : List Row) → Each (λ (r : Row). IsFalse (has_mark m r.marks)) rs → others m rs ≡ rs
  others_new [] h = refl
  others_new (r ∷ rs) h = ap (λ b. cond (not b) (r ∷ others m rs) (others m rs)) h.0 ∙ ap (λ qs. r ∷ qs) (others_new rs h.1)

  pub without_new : (fs : Scope) → IsNew m fs → without m fs ≡ fs
  without_new [] h = refl
  without_new (e ∷ es) h = λ i. (e.0, others_new e.1 h.0 i) ∷ without_new es h.1 i

  pub without-with_row : (fs : Scope) (f : FrameNo) (r : Row) → has_mark m r.marks ≡ false → without m (with_row fs f r) ≡ with_row (without m fs) f r
  without-with_row [] f r h = ap (λ rs. (f, rs) ∷ []) (others_new (r ∷ []) (h, tt))
  without-with_row (e ∷ es) f r h = by (same_frame f e.0) (without-with_row es f r h)
    where
      by : (b : Bool) → without m (with_row es f r) ≡ with_row (without m es) f r
          → without m (cond b ((e.0, e.1 ++ r ∷ []) ∷ es) (e ∷ with_row es f r)) ≡ cond b ((e.0, others m e.1 ++ r ∷ []) ∷ without m es) ((e.0, others m e.1) ∷ with_row (without m es) f r)
      by true k = ap (λ rs. (e.0, rs) ∷ without m es) (filter-append (λ (r : Row). not (has_mark m r.marks)) e.1 (r ∷ []) ∙ ap (λ qs. others m e.1 ++ qs) (others_new (r ∷ []) (h, tt)))
      by false k = ap (λ xs. (e.0, others m e.1) ∷ xs) k
