-- The stamps of leaves name frames that were made.
use Rattle.std.specs.Prelude.{◌≡◌, ◌<◌, ℕ, List}
use Rattle.base_data.specs.Elements.{Each}
use Rattle.base_data.specs.declared.library.LibName.{LibName}
use Rattle.base_data.specs.declared.name.FrameNo.{FrameNo}
use Rattle.stx_tree.specs.Context.{LeafContext}
use Rattle.stx_tree.specs.Tree.{Tree}
use Rattle.stx_tree.specs.declared.stamp.Stamp.{Stamp}
use Rattle.law_fresh.specs.Leaves.{TreeHolds}
use Rattle.law_fresh_expansion.specs.Known.{IsNewAmong, HasKnown}

-- a frame that was made before a name of the library, or one of another library
abbrev pub IsMade : LibName → ℕ → FrameNo → Type 0
IsMade own n f = f.0.library ≡ own → f.0.number < n

abbrev pub StampedByMade : LibName → ℕ → LeafContext → Type 0
StampedByMade own n c = Each (λ (t : Stamp). IsMade own n t.frame) c.stamps

-- A tree with known marks and frames is such a one: a frame that is made later is on none of its leaves, so no row that comes into it changes
-- what they stand for.
abbrev pub StampsAreMade : Type 0
StampsAreMade = (libs : List LibName) (own : LibName) (n : ℕ) (t : Tree) → IsNewAmong libs own → TreeHolds (HasKnown libs own n) t
    → TreeHolds (StampedByMade own n) t
