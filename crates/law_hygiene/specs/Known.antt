-- Trees and frames all of whose marks are known: those that were taken so far, say.
use Rattle.std.specs.Prelude.{Bool, List, IsTrue}
use Rattle.base_data.specs.Elements.{Each}
use Rattle.base_data.specs.declared.name.FrameNo.{FrameNo}
use Rattle.base_data.specs.declared.name.Mark.{Mark}
use Rattle.stx_tree.specs.Context.{LeafContext}
use Rattle.stx_tree.specs.Leaves.{contexts}
use Rattle.stx_tree.specs.Tree.{Tree}
use Rattle.stx_tree.specs.declared.change.Change.{Change}
use Rattle.stx_tree.specs.declared.change.Change.TheVariants as change
use Rattle.stx_tree.specs.declared.stamp.Stamp.{Stamp}
use Rattle.stx_frames.specs.Rows.{Row}
use Rattle.stx_frames.specs.Scope.{Scope}

-- a mark that passes a test, which says what is known
abbrev pub IsKnown : (Mark → Bool) → Mark → Type 0
IsKnown k m = IsTrue (k m)

-- the marks of a leaf, and those that it had at its stamps
pub record HasKnown (k : Mark → Bool) (c : LeafContext) : Type 0 where
  pub marks : Each (IsKnown k) c.marks
  pub stamps : Each (λ (t : Stamp). Each (IsKnown k) t.marks) c.stamps

abbrev pub AreKnown : (Mark → Bool) → Tree → Type 0
AreKnown k t = Each (HasKnown k) (contexts t)

abbrev pub AreKnownInRows : (Mark → Bool) → Scope → Type 0
AreKnownInRows k fs = Each (λ (e : FrameNo × List Row). Each (λ (r : Row). Each (IsKnown k) r.marks) e.1) fs

-- a change with a known mark
abbrev pub IsWithKnown : (Mark → Bool) → Change → Type 0
IsWithKnown k (change.Enter n) = IsKnown k n
IsWithKnown k (change.Leave n f) = IsKnown k n
IsWithKnown k (change.Stamp f) = Unit {0}
