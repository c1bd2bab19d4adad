-- Rows of frames that came by binds can be bound again.
use Rattle.std.proofs.Common.{◌≡◌, ◌≢◌, ℕ, Bool, true, false, List, [], ◌∷◌, ◌++◌, map, Option, None, Some, Ok, Err, refl, sym, ◌∙◌, ap, subst, cond, append_assoc, append-nil, if◌then◌else◌}
use Rattle.std.specs.Prelude.{filter, is_some, nat_eq, ◌&&◌}
use Rattle.std.specs.Cmp.Lexicographic.{pointwise}
use Rattle.base_data.specs.Elements.{Each}
use Rattle.base_data.specs.Same.{texts_decides}
use Rattle.base_data.specs.declared.library.LibName.{LibName}
use Rattle.base_data.specs.declared.name.FrameNo.{FrameNo}
use Rattle.base_data.specs.declared.name.Label.{Label}
use Rattle.base_data.specs.declared.name.Mark.{Mark}
use Rattle.stx_tree.specs.SameMarks.{same_marks}
use Rattle.stx_tree.specs.declared.frame_row.FrameRow.{FrameRow}
use Rattle.stx_frames.specs.Listed.{AreOrdered, rows_from, rows_in}
use Rattle.stx_frames.specs.Rows.{Row, is_of, label_in, second_binder}
use Rattle.stx_frames.specs.Scope.{Scope, same_frame, has_frame, rows_at, label_at, with_row, bound, row_in, adopted}
use Rattle.stx_frames.proofs.FrameLaws.{same_frame-differs, rows_at-with_row, rows_at-other, rows_at-adopted}
use Rattle.stx_frames.proofs.ListedLaws.{filter-rows_in, ordered_rows_in}
use Rattle.stx_frames.proofs.MemoLemmas.{same_frame_is}
use Rattle.stx_frames.proofs.ScopeLemmas.{same_frame-self}
use Rattle.law_run.specs.Bound.{AreBound, BindsOwn, no_more, one_more}

-- no row has the symbol and the marks of one before it
abbrev pub OnceBehind : List Row → List Row → Type 0
OnceBehind before [] = Unit {0}
OnceBehind before (r ∷ rs) = (label_in before r.symbol r.marks ≡ None) × OnceBehind (before ++ r ∷ []) rs

abbrev pub RowsOnce : LibName → Scope → Type 0
RowsOnce own fs = (f : FrameNo) → f.0.library ≡ own → OnceBehind [] (rows_at f fs)

once-end : (before rs : List Row) (r : Row) → OnceBehind before rs → label_in (before ++ rs) r.symbol r.marks ≡ None → OnceBehind before (rs ++ r ∷ [])
once-end before [] r h e = (ap (λ xs. label_in xs r.symbol r.marks) (sym (append-nil before)) ∙ e, tt)
once-end before (x ∷ rs) r h e = (h.0, once-end (before ++ x ∷ []) rs r h.1 (ap (λ xs. label_in xs r.symbol r.marks) (append_assoc before (x ∷ []) rs) ∙ e))

once-at : (before xs : List Row) (r : Row) (more : List Row) → OnceBehind before (xs ++ r ∷ more) → label_in (before ++ xs) r.symbol r.marks ≡ None
once-at before [] r more h = ap (λ xs. label_in xs r.symbol r.marks) (append-nil before) ∙ h.0
once-at before (x ∷ xs) r more h = ap (λ ys. label_in ys r.symbol r.marks) (sym (append_assoc before (x ∷ []) xs)) ∙ once-at (before ++ x ∷ []) xs r more h.1

-- A bind that goes through.

record IsNew (fs : Scope) (f : FrameNo) (r : Row) (gs : Scope) : Type 0 where
  pub none : label_at fs f r.symbol r.marks ≡ None
  pub is : gs ≡ with_row fs f r

bound-is : (fs : Scope) (f : FrameNo) (r : Row) (gs : Scope) → bound fs f r ≡ Ok gs → IsNew fs f r gs
bound-is fs f r gs e = by (label_at fs f r.symbol r.marks) refl e
  where
    by : (o : Option Label) → label_at fs f r.symbol r.marks ≡ o → (if is_some o then Err (second_binder r.symbol) else Ok (with_row fs f r)) ≡ Ok gs → IsNew fs f r gs
    by None is k = record { none = is; is = cc }
    by (Some l) is k = absurd (cc)

pub is-bound : (fs : Scope) (f : FrameNo) (r : Row) → label_at fs f r.symbol r.marks ≡ None → bound fs f r ≡ Ok (with_row fs f r)
is-bound fs f r e = ap (λ o. if is_some o then Err (second_binder r.symbol) else Ok (with_row fs f r)) e

not-same : (f g : FrameNo) → same_frame f g ≡ false → f ≡ g → ⊥
not-same f g apart same =
    let alike : same_frame f g ≡ true = ap (same_frame f) (sym same) ∙ same_frame-self f in
    absurd (cc)

row-once : (own : LibName) (fs : Scope) (g : FrameNo) (r : Row) → RowsOnce own fs → label_at fs g r.symbol r.marks ≡ None → RowsOnce own (with_row fs g r)
row-once own fs g r h e f mine = by (same_frame f g) refl
  where
    by : (b : Bool) → same_frame f g ≡ b → OnceBehind [] (rows_at f (with_row fs g r))
    by true is =
        let same : f ≡ g = same_frame_is f g is in
        subst (OnceBehind []) (sym (ap (λ x. rows_at x (with_row fs g r)) same ∙ rows_at-with_row fs g r))
        (once-end [] (rows_at g fs) r (subst (λ x. OnceBehind [] (rows_at x fs)) same (h f mine)) e)
    by false is = subst (OnceBehind []) (sym (rows_at-other fs g f r (not-same f g is))) (h f mine)

pub binds-once : (own : LibName) (fs gs : Scope) → BindsOwn own fs gs → RowsOnce own fs → RowsOnce own gs
binds-once own fs _ no_more h = h
binds-once own fs gs (one_more {gs = hs} f r k mine e) h =
    let x = bound-is hs f r gs e in
    subst (RowsOnce own) (sym x.is) (row-once own hs f r (binds-once own fs hs k h) x.none)

pub adopted-once : (own : LibName) (fs : Scope) (rows : List FrameRow) → RowsOnce own fs → AreBound fs rows → RowsOnce own (adopted fs rows)
adopted-once own fs [] h k = h
adopted-once own fs (r ∷ rows) h k = adopted-once own (with_row fs r.frame (row_in r)) rows (row-once own fs r.frame (row_in r) h (bound-is fs r.frame (row_in r) (with_row fs r.frame (row_in r)) k.0).none) k.1

-- The rows of the frames of a library.

ordered-own : (own : LibName) (n : ℕ) (rs : List FrameRow) → AreOrdered own n rs → Each (λ (f : FrameRow). f.frame.0.library ≡ own) rs
ordered-own own n [] h = tt
ordered-own own n (r ∷ rs) h = (h.0, ordered-own own r.frame.0.number rs h.2)

back : (f : FrameNo) (rs : List Row) → map row_in (rows_from f rs) ≡ rs
back f [] = refl
back f (r ∷ rs) = ap (λ xs. r ∷ xs) (back f rs)

-- rows are bound one after another where each frame has them once in the end
are-bound : (own : LibName) (fs : Scope) (rows : List FrameRow) → Each (λ (r : FrameRow). r.frame.0.library ≡ own) rows → RowsOnce own (adopted fs rows) → AreBound fs rows
are-bound own fs [] mine h = tt
are-bound own fs (r ∷ rows) mine h = (is-bound fs r.frame (row_in r) none, are-bound own (with_row fs r.frame (row_in r)) rows mine.1 h)
  where
    more : List Row
    more = map row_in (filter (λ x. same_frame r.frame x.frame) rows)

    all : rows_at r.frame (adopted (with_row fs r.frame (row_in r)) rows) ≡ rows_at r.frame fs ++ row_in r ∷ more
    all = rows_at-adopted (with_row fs r.frame (row_in r)) r.frame rows ∙ ap (λ xs. xs ++ more) (rows_at-with_row fs r.frame (row_in r)) ∙ append_assoc (rows_at r.frame fs) (row_in r ∷ []) more

    none : label_in (rows_at r.frame fs) r.symbol r.marks ≡ None
    none = once-at [] (rows_at r.frame fs) (row_in r) more (subst (OnceBehind []) all (h r.frame mine.0))

pub rows-bound : (own : LibName) (fs : Scope) → RowsOnce own fs → AreBound [] (rows_in own fs)
rows-bound own fs h = are-bound own [] (rows_in own fs) (ordered-own own 0 (rows_in own fs) (ordered_rows_in own fs)) once
  where
    same : (f : FrameNo) → f.0.library ≡ own → rows_at f (adopted [] (rows_in own fs)) ≡ rows_at f fs
    same f mine =
        rows_at-adopted [] f (rows_in own fs)
        ∙ ap (λ (l : LibName). map row_in (filter (λ r. same_frame f r.frame) (rows_in l fs))) (sym mine)
        ∙ ap (map row_in) (filter-rows_in fs f) ∙ back f (rows_at f fs)

    once : RowsOnce own (adopted [] (rows_in own fs))
    once f mine = subst (OnceBehind []) (sym (same f mine)) (h f mine)

-- Rows of other frames.

pub has-other : (fs : Scope) (f g : FrameNo) (r : Row) → g ≢ f → has_frame g fs ≡ false → has_frame g (with_row fs f r) ≡ false
has-other [] f g r d h = ap (λ b. cond b true false) (same_frame-differs g f d)
has-other (e ∷ es) f g r d h = by (same_frame f e.0) (same_frame g e.0) refl h (λ k. has-other es f g r d k)
  where
    by : (b c : Bool) → same_frame g e.0 ≡ c → cond c true (has_frame g es) ≡ false → (has_frame g es ≡ false → has_frame g (with_row es f r) ≡ false)
        → has_frame g (cond b ((e.0, e.1 ++ r ∷ []) ∷ es) (e ∷ with_row es f r)) ≡ false
    by b true is k rest = absurd (cc)
    by true false is k rest = ap (λ c. cond c true (has_frame g es)) is ∙ k
    by false false is k rest = ap (λ c. cond c true (has_frame g (with_row es f r))) is ∙ rest k

-- no row is of this frame
abbrev pub AreElsewhere : FrameNo → List FrameRow → Type 0
AreElsewhere f rows = Each (λ (r : FrameRow). f ≢ r.frame) rows

pub has-none : (f : FrameNo) (fs : Scope) (rows : List FrameRow) → AreElsewhere f rows → has_frame f fs ≡ false → has_frame f (adopted fs rows) ≡ false
has-none f fs [] h e = e
has-none f fs (r ∷ rows) h e = has-none f (with_row fs r.frame (row_in r)) rows h.1 (has-other fs r.frame f (row_in r) h.0 e)

pub rows-none : (f : FrameNo) (fs : Scope) (rows : List FrameRow) → AreElsewhere f rows → rows_at f (adopted fs rows) ≡ rows_at f fs
rows-none f fs [] h = refl
rows-none f fs (r ∷ rows) h = rows-none f (with_row fs r.frame (row_in r)) rows h.1 ∙ rows_at-other fs r.frame f (row_in r) h.0

-- what isn't there isn't there with a row of another symbol
pub label-end : (rows : List Row) (r : Row) (s : List ℕ) (ms : List Mark) → label_in rows s ms ≡ None → is_of s ms r ≡ false → label_in (rows ++ r ∷ []) s ms ≡ None
label-end [] r s ms h e = ap (λ b. cond b (Some r.label) None) e
label-end (x ∷ rows) r s ms h e = by (is_of s ms x) h (λ k. label-end rows r s ms k e)
  where
    by : (b : Bool) → cond b (Some x.label) (label_in rows s ms) ≡ None → (label_in rows s ms ≡ None → label_in (rows ++ r ∷ []) s ms ≡ None) → cond b (Some x.label) (label_in (rows ++ r ∷ []) s ms) ≡ None
    by true k rest = absurd (cc)
    by false k rest = rest k

pub other-symbol : (s t : List ℕ) (ms : List Mark) (l : Label) → pointwise nat_eq t s ≡ false → is_of s ms (record { symbol = t; marks = []; label = l }) ≡ false
other-symbol s t ms l e = by (pointwise nat_eq s t) refl
  where
    by : (b : Bool) → pointwise nat_eq s t ≡ b → is_of s ms (record { symbol = t; marks = []; label = l }) ≡ false
    by true is =
        let same : s ≡ t = (texts_decides s t).0 is in
        let again : pointwise nat_eq t s ≡ true = (texts_decides t s).1 (sym same) in
        absurd (cc)
    by false is = ap (λ b. b && same_marks ms []) is
