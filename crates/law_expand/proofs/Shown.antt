-- Labels that frames show.
use Rattle.std.proofs.Common.{◌≡◌, ℕ, Bool, true, false, List, [], ◌∷◌, Option, None, Some, refl, sym, ◌∙◌, ap, subst, inl, inr, cond, if◌then◌else◌}
use Rattle.std.specs.Prelude.{◌⊎◌, filter}
use Rattle.base_data.specs.Elements.{Among}
use Rattle.base_data.specs.declared.name.FrameNo.{FrameNo}
use Rattle.base_data.specs.declared.name.Label.{Label}
use Rattle.base_data.specs.declared.name.Mark.{Mark}
use Rattle.stx_tree.specs.Leaves.{stamps_of}
use Rattle.stx_tree.specs.Tree.{Tree}
use Rattle.stx_tree.specs.declared.frame_row.FrameRow.{FrameRow}
use Rattle.stx_tree.specs.declared.stamp.Stamp.{Stamp}
use Rattle.stx_frames.specs.Listed.{rows_from, rows_in}
use Rattle.stx_frames.specs.Rows.{Row, label_in, is_of}
use Rattle.stx_frames.specs.Scope.{Scope, same_frame, rows_at, label_at, label_by, or_else}
use Rattle.stx_frames.proofs.ListedLaws.{filter-rows_in}
use Rattle.stx_frames.proofs.ScopeLemmas.{same_frame-self}
use Rattle.stx_scope.specs.Stands.{stands, symbol_of}
use Rattle.expand_standing.specs.State.{State}
use Rattle.law_expand.specs.States.{RowsShow, Grows}
use Rattle.law_expand.proofs.Grows.{shows-more}
use Rattle.base_data.specs.declared.library.LibName.{LibName}

-- some frame shows the label
abbrev pub IsShown : Scope → Label → Type 0
IsShown fs l = (f : FrameNo) × RowsShow (rows_at f fs) l

pub shown-later : (own : LibName) (s t : State) (l : Label) → Grows own s t → IsShown s.frames l → IsShown t.frames l
shown-later own s t l h (f, k) = (f, shows-more (rows_at f s.frames) (rows_at f t.frames) l (h.kept f) k)

-- What a leaf stands for.

label-shown : (rs : List Row) (x : List ℕ) (ms : List Mark) (l : Label) → label_in rs x ms ≡ Some l → RowsShow rs l
label-shown [] x ms l e = absurd (cc)
label-shown (r ∷ rs) x ms l e = by (is_of x ms r) (label-shown rs x ms l) e
  where
    by : (b : Bool) → (label_in rs x ms ≡ Some l → RowsShow rs l) → (if b then Some r.label else label_in rs x ms) ≡ Some l → RowsShow (r ∷ rs) l
    by true later k = let is : r.label ≡ l = cc in record { row = r; there = inl refl; label = is }
    by false later k = shows-more rs (r ∷ rs) l (λ y a. inr a) (later k)

stamps-shown : (fs : Scope) (x : List ℕ) (ts : List Stamp) (l : Label) → label_by fs x ts ≡ Some l → IsShown fs l
stamps-shown fs x [] l e = absurd (cc)
stamps-shown fs x (t ∷ ts) l e = by (label_at fs t.frame x t.marks) refl (stamps-shown fs x ts l) e
  where
    by : (o : Option Label) → label_at fs t.frame x t.marks ≡ o → (label_by fs x ts ≡ Some l → IsShown fs l) → or_else o (label_by fs x ts) ≡ Some l → IsShown fs l
    by None at later k = later k
    by (Some m) at later k = (t.frame, label-shown (rows_at t.frame fs) x t.marks l (at ∙ k))

pub leaf-shown : (fs : Scope) (t : Tree) (l : Label) → stands fs t ≡ Some l → IsShown fs l
leaf-shown fs t l e = stamps-shown fs (symbol_of t) (stamps_of t) l e

-- The rows of a library as one list.

pub among-filter : {A : Type 0} (p : A → Bool) (xs : List A) (x : A) → p x ≡ true → Among xs x → Among (filter p xs) x
among-filter p [] x h a = elim a [ ]
among-filter {A} p (y ∷ xs) x h a = by (p y) refl a (among-filter p xs x h)
  where
    by : (b : Bool) → p y ≡ b → (x ≡ y) ⊎ Among xs x → (Among xs x → Among (filter p xs) x) → Among (cond b (y ∷ filter p xs) (filter p xs)) x
    by true e (inl is) later = inl is
    by true e (inr c) later = inr (later c)
    by false e (inl is) later = let same = ap p is in absurd (cc)
    by false e (inr c) later = later c

from-shown : (f : FrameNo) (rs : List Row) (x : FrameRow) → Among (rows_from f rs) x → RowsShow rs x.label
from-shown f [] x a = elim a [ ]
from-shown f (r ∷ rs) x (inl e) = record { row = r; there = inl refl; label = ap (λ (y : FrameRow). y.label) (sym e) }
from-shown f (r ∷ rs) x (inr a) = shows-more rs (r ∷ rs) x.label (λ y b. inr b) (from-shown f rs x a)

pub row-shown : (fs : Scope) (x : FrameRow) → Among (rows_in x.frame.0.library fs) x → IsShown fs x.label
row-shown fs x a = (
  x.frame,
  from-shown x.frame (rows_at x.frame fs) x
      (subst (λ (rs : List FrameRow). Among rs x) (filter-rows_in fs x.frame) (among-filter (λ (r : FrameRow). same_frame x.frame r.frame) (rows_in x.frame.0.library fs) x (same_frame-self x.frame) a)),
)
