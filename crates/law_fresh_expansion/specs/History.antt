-- The history of a leaf: what it was made as, and the changes since then, to enter, to leave and to stamp.
use Rattle.std.specs.Prelude.{◌≡◌, ◌⊎◌, ℕ, List, [], ◌∷◌}
use Rattle.base_data.specs.Elements.{Each}
use Rattle.base_data.specs.declared.library.LibName.{LibName}
use Rattle.base_data.specs.declared.name.FrameNo.{FrameNo}
use Rattle.base_data.specs.declared.name.Mark.{Mark}
use Rattle.stx_tree.specs.Context.{LeafContext, blank, acts}
use Rattle.stx_tree.specs.declared.change.Change.{Change}
use Rattle.law_fresh_expansion.specs.Known.{IsKnown, IsKnownFrame}
use Rattle.law_fresh_expansion.specs.Living.{IsChangeOf}

-- as it is read, or with one mark: a temporary, or an insert of a `quasisyntax` form
abbrev pub IsBeginning : (Mark → Type 0) → LeafContext → Type 0
IsBeginning K c = (c ≡ blank) ⊎ ((m : Mark) × (K m × (c ≡ record { marks = m ∷ []; stamps = [] })))

-- what became of a leaf, with such marks and such frames
pub record HasHistory (K : Mark → Type 0) (J : FrameNo → Type 0) (c : LeafContext) : Type 0 where
  pub beginning : LeafContext
  pub begins : IsBeginning K beginning
  pub changes : List Change
  pub are : Each (IsChangeOf K J) changes
  pub gives : acts changes beginning ≡ c

-- with known ones
abbrev pub HasKnownHistory : List LibName → LibName → ℕ → LeafContext → Type 0
HasKnownHistory libs own n c = HasHistory (IsKnown libs own n) (IsKnownFrame libs own n) c
