-- The binder that a leaf finds, as its row; and frames without the binders that one use introduced.
use Rattle.std.specs.Prelude.{◌≡◌, ℕ, not, List, [], ◌∷◌, filter, map, Option, None, Some, IsTrue, IsFalse, if◌then◌else◌}
use Rattle.base_data.specs.Elements.{Each, Among}
use Rattle.base_data.specs.declared.name.FrameNo.{FrameNo}
use Rattle.base_data.specs.declared.name.Mark.{Mark}
use Rattle.stx_tree.specs.Leaves.{stamps_of}
use Rattle.stx_tree.specs.Marks.{is_first}
use Rattle.stx_tree.specs.Tree.{Tree}
use Rattle.stx_tree.specs.declared.change.Change.{Change}
use Rattle.stx_tree.specs.declared.change.Change.TheVariants as change
use Rattle.stx_tree.specs.declared.stamp.Stamp.{Stamp}
use Rattle.stx_frames.specs.Rows.{Row, is_of}
use Rattle.stx_frames.specs.Scope.{Scope, rows_at, or_else}
use Rattle.stx_scope.specs.Stands.{symbol_of}
use Rattle.law_hygiene.specs.Marked.{has_mark}

-- the row for a symbol and marks
abbrev pub row_in : List Row → List ℕ → List Mark → Option Row
row_in [] s ms = None
row_in (r ∷ rs) s ms = if is_of s ms r then Some r else row_in rs s ms

-- the row that the first stamp gives for which its frame has the symbol and the marks at stamping
abbrev pub row_by : Scope → List ℕ → List Stamp → Option Row
row_by fs s [] = None
row_by fs s (t ∷ ts) = or_else (row_in (rows_at t.frame fs) s t.marks) (row_by fs s ts)

-- the row of the binder that captures a leaf, where one does
abbrev pub binder_of : Scope → Tree → Option Row
binder_of fs t = row_by fs (symbol_of t) (stamps_of t)

abbrev pub Captures : Scope → Row → Tree → Type 0
Captures fs r t = binder_of fs t ≡ Some r

-- the row is in the frame of this stamp, for this symbol and the marks at stamping
pub record IsRowAt (fs : Scope) (r : Row) (s : List ℕ) (t : Stamp) : Type 0 where
  pub row : Among (rows_at t.frame fs) r
  pub symbol : r.symbol ≡ s
  pub marks : r.marks ≡ t.marks

-- a row is that of a binder which the use of m introduced, where it has the mark
abbrev pub IsOfUse : Mark → Row → Type 0
IsOfUse m r = IsTrue (has_mark m r.marks)

abbrev pub IsOfOther : Mark → Row → Type 0
IsOfOther m r = IsFalse (has_mark m r.marks)

-- no binder of this symbol in the frame has m as its newest mark
abbrev pub NoneBeginsWith : Mark → Scope → List ℕ → FrameNo → Type 0
NoneBeginsWith m fs x f = Each (λ (r : Row). r.symbol ≡ x → IsFalse (is_first m r.marks)) (rows_at f fs)

-- the use of m introduced no binder of this symbol into the frame
abbrev pub IntroducesNone : Mark → Scope → List ℕ → FrameNo → Type 0
IntroducesNone m fs x f = Each (λ (r : Row). r.symbol ≡ x → IsOfOther m r) (rows_at f fs)

-- nor does the use introduce one into a frame that the change may stamp
abbrev pub IntroducesNoneIn : Mark → Scope → List ℕ → Change → Type 0
IntroducesNoneIn m fs x (change.Enter n) = Unit {0}
IntroducesNoneIn m fs x (change.Leave n None) = Unit {0}
IntroducesNoneIn m fs x (change.Leave n (Some f)) = IntroducesNone m fs x f
IntroducesNoneIn m fs x (change.Stamp f) = IntroducesNone m fs x f

-- the rows that the use of m did not introduce
abbrev pub others : Mark → List Row → List Row
others m rs = filter (λ (r : Row). not (has_mark m r.marks)) rs

-- the frames without the binders that the use of m introduced
abbrev pub without : Mark → Scope → Scope
without m fs = map (λ (e : FrameNo × List Row). (e.0, others m e.1)) fs

-- no row has the mark yet
abbrev pub IsNew : Mark → Scope → Type 0
IsNew m fs = Each (λ (e : FrameNo × List Row). Each (IsOfOther m) e.1) fs
