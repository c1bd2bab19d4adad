-- Names that are known: those of certain libraries, and of the library that is expanded those that were taken before a name.
use Rattle.std.specs.Prelude.{◌≡◌, ◌<◌, ◌⊎◌, ℕ, List, ◌∷◌, map}
use Rattle.base_data.specs.Elements.{Among, Each}
use Rattle.base_data.specs.Named.{Named}
use Rattle.base_data.specs.declared.library.LibName.{LibName}
use Rattle.base_data.specs.declared.library.LibName.TheVariants as library
use Rattle.base_data.specs.declared.name.FrameNo.{FrameNo}
use Rattle.base_data.specs.declared.name.Mark.{Mark}
use Rattle.stx_tree.specs.Context.{LeafContext}
use Rattle.stx_tree.specs.declared.stamp.Stamp.{Stamp}
use Rattle.core_language.specs.declared.record.CompiledLibrary.{CompiledLibrary}

abbrev pub IsKnownName : List LibName → LibName → ℕ → Named → Type 0
IsKnownName libs own n x = Among libs x.library ⊎ ((x.library ≡ own) × (x.number < n))

abbrev pub IsKnown : List LibName → LibName → ℕ → Mark → Type 0
IsKnown libs own n m = IsKnownName libs own n m.0

abbrev pub IsKnownFrame : List LibName → LibName → ℕ → FrameNo → Type 0
IsKnownFrame libs own n f = IsKnownName libs own n f.0

-- the marks of a leaf, the frames of its stamps, and the marks that it had then are such
pub record HasMarks (K : Mark → Type 0) (J : FrameNo → Type 0) (c : LeafContext) : Type 0 where
  pub marks : Each K c.marks
  pub stamps : Each (λ (t : Stamp). J t.frame × Each K t.marks) c.stamps

-- they are known
abbrev pub HasKnown : List LibName → LibName → ℕ → LeafContext → Type 0
HasKnown libs own n c = HasMarks (IsKnown libs own n) (IsKnownFrame libs own n) c

-- the implementation, and the libraries of records
abbrev pub libraries_of : List CompiledLibrary → List LibName
libraries_of rs = library.Core ∷ map (λ (r : CompiledLibrary). r.name) rs

-- a library with a new name
abbrev pub IsNewAmong : List LibName → LibName → Type 0
IsNewAmong libs own = Among libs own → ⊥
