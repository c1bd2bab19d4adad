-- What a row more changes.
use Rattle.std.specs.Prelude.{◌≡◌, ◌≢◌, ℕ, Bool, true, false, cond, List, [], ◌∷◌, ◌++◌, map, filter, refl}
use Rattle.std.proofs.Common.{sym, ◌∙◌, ap, append-nil, append_assoc, true≢false}
use Rattle.base_data.specs.declared.name.FrameNo.{FrameNo}
use Rattle.stx_tree.specs.declared.frame_row.FrameRow.{FrameRow}
use Rattle.stx_tree.specs.declared.stamp.Stamp.{Stamp}
use Rattle.stx_frames.specs.Avoids.{Avoids}
use Rattle.stx_frames.specs.Rows.{Row, label_in}
use Rattle.stx_frames.specs.Scope.{Scope, same_frame, rows_at, or_else, label_by, with_row, row_in, adopted}
use Rattle.stx_frames.proofs.MemoLemmas.{same_frame_is}
use Rattle.stx_frames.proofs.ScopeLemmas.{same_frame-self}

-- frames that differ compare as different
pub same_frame-differs : (g f : FrameNo) → g ≢ f → same_frame g f ≡ false
same_frame-differs g f d = by (same_frame g f) refl
  where
    by : (b : Bool) → same_frame g f ≡ b → b ≡ false
    by true h = absurd (d (same_frame_is g f h))
    by false h = refl

-- a frame's own rows get the row at their end
pub rows_at-with_row : (fs : Scope) (f : FrameNo) (r : Row) → rows_at f (with_row fs f r) ≡ rows_at f fs ++ r ∷ []
rows_at-with_row [] f r = ap (λ b. cond {A = List Row} b (r ∷ []) []) (same_frame-self f)
rows_at-with_row (e ∷ es) f r = by (same_frame f e.0) refl (rows_at-with_row es f r)
  where
    by : (b : Bool) → same_frame f e.0 ≡ b → rows_at f (with_row es f r) ≡ rows_at f es ++ r ∷ []
        → rows_at f (cond b ((e.0, e.1 ++ r ∷ []) ∷ es) (e ∷ with_row es f r)) ≡ cond b e.1 (rows_at f es) ++ r ∷ []
    by true h k = ap (λ b. cond b (e.1 ++ r ∷ []) (rows_at f es)) h
    by false h k = ap (λ b. cond b e.1 (rows_at f (with_row es f r))) h ∙ k

-- those of another frame stay
pub rows_at-other : (fs : Scope) (f g : FrameNo) (r : Row) → g ≢ f → rows_at g (with_row fs f r) ≡ rows_at g fs
rows_at-other [] f g r d = ap (λ b. cond {A = List Row} b (r ∷ []) []) (same_frame-differs g f d)
rows_at-other (e ∷ es) f g r d = by (same_frame f e.0) refl (rows_at-other es f g r d)
  where
    by : (b : Bool) → same_frame f e.0 ≡ b → rows_at g (with_row es f r) ≡ rows_at g es
        → rows_at g (cond b ((e.0, e.1 ++ r ∷ []) ∷ es) (e ∷ with_row es f r)) ≡ cond (same_frame g e.0) e.1 (rows_at g es)
    by true h k =
        let other = ap (same_frame g) (sym (same_frame_is f e.0 h)) ∙ same_frame-differs g f d in
        ap (λ b. cond b (e.1 ++ r ∷ []) (rows_at g es)) other ∙ sym (ap (λ b. cond b e.1 (rows_at g es)) other)
    by false h k = ap (cond (same_frame g e.0) e.1) k

-- stamps that don't name the frame find what they found
pub label_by-other : (fs : Scope) (f : FrameNo) (r : Row) (s : List ℕ) (ts : List Stamp) → Avoids f ts → label_by (with_row fs f r) s ts ≡ label_by fs s ts
label_by-other fs f r s [] a = refl
label_by-other fs f r s (t ∷ ts) a = λ i. or_else (label_in (rows_at-other fs f t.frame r a.0 i) s t.marks) (label_by-other fs f r s ts a.1 i)

-- each frame gets its rows, in their order
pub rows_at-adopted : (fs : Scope) (f : FrameNo) (rs : List FrameRow) → rows_at f (adopted fs rs) ≡ rows_at f fs ++ map row_in (filter (λ r. same_frame f r.frame) rs)
rows_at-adopted fs f [] = sym (append-nil (rows_at f fs))
rows_at-adopted fs f (r ∷ rs) = rows_at-adopted (with_row fs r.frame (row_in r)) f rs ∙ by (same_frame f r.frame) refl
  where
    more : List Row
    more = map row_in (filter (λ x. same_frame f x.frame) rs)

    by : (b : Bool) → same_frame f r.frame ≡ b
        → rows_at f (with_row fs r.frame (row_in r)) ++ more ≡ rows_at f fs ++ map row_in (cond b (r ∷ filter (λ x. same_frame f x.frame) rs) (filter (λ x. same_frame f x.frame) rs))
    by true h =
        let own = ap (λ g. rows_at f (with_row fs g (row_in r))) (sym (same_frame_is f r.frame h)) ∙ rows_at-with_row fs f (row_in r) in
        ap (λ x. x ++ more) own ∙ append_assoc (rows_at f fs) (row_in r ∷ []) more
    by false h = ap (λ x. x ++ more) (rows_at-other fs r.frame f (row_in r) (λ e. true≢false (sym (same_frame-self f) ∙ ap (same_frame f) e ∙ h)))
