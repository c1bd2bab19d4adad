-- What a row more in a frame changes for a leaf.
use Rattle.std.specs.Prelude.{◌≡◌, ◌≢◌, ◌⊎◌, ℕ, Bool, true, false, cond, ◌&&◌, nat_eq, List, [], ◌∷◌, ◌++◌, option_map, Option, None, Some, refl}
use Rattle.std.proofs.Common.{sym, ◌∙◌, ap, subst, true≢false, inl, inr}
use Rattle.std.specs.Cmp.{first_so, second_so}
use Rattle.std.specs.Cmp.Lexicographic.{pointwise}
use Rattle.base_data.specs.Same.{texts_decides}
use Rattle.base_data.specs.declared.name.FrameNo.{FrameNo}
use Rattle.base_data.specs.declared.name.Mark.{Mark}
use Rattle.stx_tree.specs.Leaves.{stamps_of}
use Rattle.stx_tree.specs.SameMarks.{same_marks, same_marks_decides}
use Rattle.stx_tree.specs.Tree.{Tree}
use Rattle.stx_tree.specs.declared.stamp.Stamp.{Stamp}
use Rattle.stx_frames.specs.Rows.{Row, is_of}
use Rattle.stx_frames.specs.Scope.{Scope, same_frame, rows_at, or_else, with_row}
use Rattle.stx_frames.proofs.FrameLaws.{rows_at-with_row, rows_at-other}
use Rattle.stx_frames.proofs.MemoLemmas.{same_frame_is}
use Rattle.stx_frames.proofs.ScopeLemmas.{same_frame-self}
use Rattle.stx_scope.specs.Stands.{symbol_of, stands}
use Rattle.law_hygiene.specs.Binder.{row_in, row_by, binder_of, Captures}
use Rattle.law_hygiene.specs.Bound.{StampedElsewhere}
use Rattle.law_hygiene.proofs.Rowing.{label_by-row}

-- a row is of no symbol and marks that aren't both its own
not_of : (s : List ℕ) (ms : List Mark) (r : Row) → (s ≡ r.symbol → ms ≡ r.marks → ⊥) → is_of s ms r ≡ false
not_of s ms r h = by (is_of s ms r) refl
  where
    by : (b : Bool) → is_of s ms r ≡ b → b ≡ false
    by true e =
        absurd (h ((texts_decides s r.symbol).0 (first_so (pointwise nat_eq s r.symbol) (same_marks ms r.marks) e))
        ((same_marks_decides ms r.marks).0 (second_so (pointwise nat_eq s r.symbol) (same_marks ms r.marks) e)))
    by false e = refl

is_own : (r : Row) → is_of r.symbol r.marks r ≡ true
is_own r = ap (λ b. b && same_marks r.marks r.marks) ((texts_decides r.symbol r.symbol).1 refl) ∙ (same_marks_decides r.marks r.marks).1 refl

-- a row at the end is found where none before it is, and else changes nothing
last_missed : (s : List ℕ) (ms : List Mark) (r : Row) → is_of s ms r ≡ false → (rs : List Row) → row_in (rs ++ r ∷ []) s ms ≡ row_in rs s ms
last_missed s ms r h [] = ap (λ b. cond {A = Option Row} b (Some r) None) h
last_missed s ms r h (q ∷ rs) = ap (cond (is_of s ms q) (Some q)) (last_missed s ms r h rs)

last_found : (s : List ℕ) (ms : List Mark) (r : Row) → is_of s ms r ≡ true → (rs : List Row) → row_in rs s ms ≡ None → row_in (rs ++ r ∷ []) s ms ≡ Some r
last_found s ms r h [] e = ap (λ b. cond {A = Option Row} b (Some r) None) h
last_found s ms r h (q ∷ rs) e = by (is_of s ms q) e (last_found s ms r h rs)
  where
    by : (b : Bool) → cond b (Some q) (row_in rs s ms) ≡ None → (row_in rs s ms ≡ None → row_in (rs ++ r ∷ []) s ms ≡ Some r) → cond b (Some q) (row_in (rs ++ r ∷ []) s ms) ≡ Some r
    by true k n = absurd (cc)
    by false k n = n k

module _ (fs : Scope) (f : FrameNo) (r : Row) (s : List ℕ) where
  -- what a stamp finds that isn't of the frame, the row's marks and its symbol
  at_missed : (t : Stamp) → (t.frame ≡ f → t.marks ≡ r.marks → s ≡ r.symbol → ⊥) → row_in (rows_at t.frame (with_row fs f r)) s t.marks ≡ row_in (rows_at t.frame fs) s t.marks
  at_missed t h = by (same_frame t.frame f) refl
    where
      by : (b : Bool) → same_frame t.frame f ≡ b → row_in (rows_at t.frame (with_row fs f r)) s t.marks ≡ row_in (rows_at t.frame fs) s t.marks
      by true e =
          let same = same_frame_is t.frame f e in
          ap (λ g. row_in (rows_at g (with_row fs f r)) s t.marks) same ∙ ap (λ rs. row_in rs s t.marks) (rows_at-with_row fs f r)
          ∙ last_missed s t.marks r (not_of s t.marks r (λ x y. h same y x)) (rows_at f fs) ∙ ap (λ g. row_in (rows_at g fs) s t.marks) (sym same)
      by false e =
          ap (λ rs. row_in rs s t.marks)
          (rows_at-other fs f t.frame r (λ k. true≢false (sym (same_frame-self f) ∙ ap (λ g. same_frame g f) (sym k) ∙ e)))

  pub missed : (ts : List Stamp) → StampedElsewhere f r.marks ts → row_by (with_row fs f r) s ts ≡ row_by fs s ts
  missed [] h = refl
  missed (t ∷ ts) h = λ i. or_else (at_missed t (λ x y z. h.0 x y) i) (missed ts h.1 i)

  pub missed_symbol : s ≢ r.symbol → (ts : List Stamp) → row_by (with_row fs f r) s ts ≡ row_by fs s ts
  missed_symbol h [] = refl
  missed_symbol h (t ∷ ts) = λ i. or_else (at_missed t (λ x y z. h z) i) (missed_symbol h ts i)

module _ (fs : Scope) (f : FrameNo) (r : Row) where
  abbrev FindsNow : FrameNo → List Mark → Type 0
  FindsNow g ms = (row_in (rows_at g (with_row fs f r)) r.symbol ms ≡ None) ⊎ (row_in (rows_at g (with_row fs f r)) r.symbol ms ≡ Some r)

  -- a stamp that found nothing still does, or finds the row
  at_none : (g : FrameNo) (ms : List Mark) → row_in (rows_at g fs) r.symbol ms ≡ None → FindsNow g ms
  at_none g ms n = by (same_frame g f) refl
    where
      own : (b : Bool) → is_of r.symbol ms r ≡ b → row_in (rows_at f fs) r.symbol ms ≡ None → FindsNow f ms
      own true e k = inr (ap (λ rs. row_in rs r.symbol ms) (rows_at-with_row fs f r) ∙ last_found r.symbol ms r e (rows_at f fs) k)
      own false e k = inl (ap (λ rs. row_in rs r.symbol ms) (rows_at-with_row fs f r) ∙ last_missed r.symbol ms r e (rows_at f fs) ∙ k)

      by : (b : Bool) → same_frame g f ≡ b → FindsNow g ms
      by true e =
          let same = same_frame_is g f e in
          subst (λ h. FindsNow h ms) (sym same) (own (is_of r.symbol ms r) refl (ap (λ h. row_in (rows_at h fs) r.symbol ms) (sym same) ∙ n))
      by false e =
          inl (ap (λ rs. row_in rs r.symbol ms) (rows_at-other fs f g r (λ k. true≢false (sym (same_frame-self f) ∙ ap (λ h. same_frame h f) (sym k) ∙ e))) ∙ n)

  -- at its own stamp
  at_own : row_in (rows_at f fs) r.symbol r.marks ≡ None → row_in (rows_at f (with_row fs f r)) r.symbol r.marks ≡ Some r
  at_own n = ap (λ rs. row_in rs r.symbol r.marks) (rows_at-with_row fs f r) ∙ last_found r.symbol r.marks r (is_own r) (rows_at f fs) n

  no_first : (o p : Option Row) → or_else o p ≡ None → o ≡ None
  no_first None p h = refl
  no_first (Some q) p h = absurd (cc)

  no_second : (o p : Option Row) → or_else o p ≡ None → p ≡ None
  no_second None p h = h
  no_second (Some q) p h = absurd (cc)

  captured : (early late : List Stamp) → row_by fs r.symbol (early ++ record { frame = f; marks = r.marks } ∷ []) ≡ None
      → row_by (with_row fs f r) r.symbol (early ++ record { frame = f; marks = r.marks } ∷ late) ≡ Some r
  captured [] late n = ap (λ o. or_else o (row_by (with_row fs f r) r.symbol late)) (at_own (no_first (row_in (rows_at f fs) r.symbol r.marks) None n))
  captured (t ∷ early) late n =
      let rest = row_by fs r.symbol (early ++ record { frame = f; marks = r.marks } ∷ []) in
      by (at_none t.frame t.marks (no_first (row_in (rows_at t.frame fs) r.symbol t.marks) rest n))
      (captured early late (no_second (row_in (rows_at t.frame fs) r.symbol t.marks) rest n))
    where
      by : FindsNow t.frame t.marks → row_by (with_row fs f r) r.symbol (early ++ record { frame = f; marks = r.marks } ∷ late) ≡ Some r
          → or_else (row_in (rows_at t.frame (with_row fs f r)) r.symbol t.marks) (row_by (with_row fs f r) r.symbol (early ++ record { frame = f; marks = r.marks } ∷ late)) ≡ Some r
      by (inl e) k = ap (λ o. or_else o (row_by (with_row fs f r) r.symbol (early ++ record { frame = f; marks = r.marks } ∷ late))) e ∙ k
      by (inr e) k = ap (λ o. or_else o (row_by (with_row fs f r) r.symbol (early ++ record { frame = f; marks = r.marks } ∷ late))) e

pub elsewhere : (fs : Scope) (f : FrameNo) (r : Row) (t : Tree) → StampedElsewhere f r.marks (stamps_of t) → binder_of (with_row fs f r) t ≡ binder_of fs t
elsewhere fs f r t h = missed fs f r (symbol_of t) (stamps_of t) h

pub other_symbol : (fs : Scope) (f : FrameNo) (r : Row) (t : Tree) → symbol_of t ≢ r.symbol → binder_of (with_row fs f r) t ≡ binder_of fs t
other_symbol fs f r t h = missed_symbol fs f r (symbol_of t) h (stamps_of t)

pub label : (fs : Scope) (f : FrameNo) (r : Row) (t : Tree) → StampedElsewhere f r.marks (stamps_of t) → stands (with_row fs f r) t ≡ stands fs t
label fs f r t h =
    label_by-row (with_row fs f r) (symbol_of t) (stamps_of t) ∙ ap (option_map (λ (q : Row). q.label)) (elsewhere fs f r t h)
    ∙ sym (label_by-row fs (symbol_of t) (stamps_of t))

pub there : (fs : Scope) (f : FrameNo) (r : Row) (t : Tree) (early late : List Stamp) → symbol_of t ≡ r.symbol
    → stamps_of t ≡ early ++ record { frame = f; marks = r.marks } ∷ late → row_by fs r.symbol (early ++ record { frame = f; marks = r.marks } ∷ []) ≡ None
    → Captures (with_row fs f r) r t
there fs f r t early late s e n = (λ i. row_by (with_row fs f r) (s i) (e i)) ∙ captured fs f r early late n
