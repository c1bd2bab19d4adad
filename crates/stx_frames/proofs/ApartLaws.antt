-- To give the frames of a library is to adopt its rows.
use Rattle.std.specs.Prelude.{◌≡◌, Bool, true, false, cond, List, [], ◌∷◌, ◌++◌, refl}
use Rattle.std.proofs.Common.{sym, ◌∙◌, ap, append-nil, true≢false}
use Rattle.base_data.specs.declared.name.FrameNo.{FrameNo}
use Rattle.stx_tree.specs.declared.frame_row.FrameRow.{FrameRow}
use Rattle.stx_frames.specs.Given.{are_apart}
use Rattle.stx_frames.specs.Rows.{Row}
use Rattle.stx_frames.specs.Scope.{Scope, same_frame, has_frame, with_row, row_in, adopted}
use Rattle.stx_frames.proofs.MemoLemmas.{same_frame_is}
use Rattle.stx_frames.proofs.ScopeLemmas.{same_frame-self}
use Rattle.stx_frames.proofs.GivenLemmas.{with_row-before}

has_frame-row : (f g : FrameNo) (r : Row) (fs : Scope) → has_frame g fs ≡ true → has_frame g (with_row fs f r) ≡ true
has_frame-row f g r [] h = absurd (true≢false (sym h))
has_frame-row f g r (e ∷ es) h = by (same_frame f e.0) h (has_frame-row f g r es)
  where
    rest : (b : Bool) → cond b true (has_frame g es) ≡ true → (has_frame g es ≡ true → has_frame g (with_row es f r) ≡ true) → cond b true (has_frame g (with_row es f r)) ≡ true
    rest true k i = refl
    rest false k i = i k

    by : (b : Bool) → cond (same_frame g e.0) true (has_frame g es) ≡ true → (has_frame g es ≡ true → has_frame g (with_row es f r) ≡ true)
        → has_frame g (cond b ((e.0, e.1 ++ r ∷ []) ∷ es) (e ∷ with_row es f r)) ≡ true
    by true k i = k
    by false k i = rest (same_frame g e.0) k i

has_frame-own : (f : FrameNo) (r : Row) (fs : Scope) → has_frame f (with_row fs f r) ≡ true
has_frame-own f r [] = ap (λ b. cond b true false) (same_frame-self f)
has_frame-own f r (e ∷ es) = by (same_frame f e.0) refl (has_frame-own f r es)
  where
    by : (b : Bool) → same_frame f e.0 ≡ b → has_frame f (with_row es f r) ≡ true → has_frame f (cond b ((e.0, e.1 ++ r ∷ []) ∷ es) (e ∷ with_row es f r)) ≡ true
    by true h i = ap (λ b. cond b true (has_frame f es)) h
    by false h i = ap (λ b. cond b true (has_frame f (with_row es f r))) h ∙ i

has_frame-adopted : (f : FrameNo) (rs : List FrameRow) (fs : Scope) → has_frame f fs ≡ true → has_frame f (adopted fs rs) ≡ true
has_frame-adopted f [] fs h = h
has_frame-adopted f (r ∷ rs) fs h = has_frame-adopted f rs (with_row fs r.frame (row_in r)) (has_frame-row r.frame f (row_in r) fs h)

not_there : (f : FrameNo) (gs fs : Scope) → are_apart gs fs ≡ true → has_frame f gs ≡ true → has_frame f fs ≡ false
not_there f [] fs h k = absurd (true≢false (sym k))
not_there f (e ∷ es) fs h k = by (has_frame e.0 fs) refl h (same_frame f e.0) refl k (not_there f es fs)
  where
    by : (a : Bool) → has_frame e.0 fs ≡ a → cond a false (are_apart es fs) ≡ true → (b : Bool) → same_frame f e.0 ≡ b → cond b true (has_frame f es) ≡ true
        → (are_apart es fs ≡ true → has_frame f es ≡ true → has_frame f fs ≡ false) → has_frame f fs ≡ false
    by true a h b s k i = absurd (true≢false (sym h))
    by false a h true s k i = ap (λ g. has_frame g fs) (same_frame_is f e.0 s) ∙ a
    by false a h false s k i = i h k

adopted_apart : (fs gs : Scope) (rs : List FrameRow) → are_apart (adopted gs rs) fs ≡ true → fs ++ adopted gs rs ≡ adopted (fs ++ gs) rs
adopted_apart fs gs [] h = refl
adopted_apart fs gs (r ∷ rs) h =
    let row = row_in r in
    let there = has_frame-adopted r.frame rs (with_row gs r.frame row) (has_frame-own r.frame row gs) in
    adopted_apart fs (with_row gs r.frame row) rs h
    ∙ ap (λ (y : Scope). adopted y rs) (sym (with_row-before r.frame row fs gs (not_there r.frame (adopted (with_row gs r.frame row) rs) fs h there)))

pub given_are_adopted : (fs : Scope) (rs : List FrameRow) → are_apart (adopted [] rs) fs ≡ true → fs ++ adopted [] rs ≡ adopted fs rs
given_are_adopted fs rs h = adopted_apart fs [] rs h ∙ ap (λ (y : Scope). adopted y rs) (append-nil fs)
