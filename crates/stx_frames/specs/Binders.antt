-- Which frames may have rows of a symbol.
use Rattle.std.specs.Prelude.{◌≡◌, ℕ, Bool, true, false, nat_eq, List, [], ◌∷◌, Option, None, Some, if◌then◌else◌}
use Rattle.std.specs.Cmp.Lexicographic.{pointwise}
use Rattle.std.specs.Coded.{Coded, coded×, coded_ℕ, coded_list}
use Rattle.std.specs.List.{list_any}
use Rattle.std.specs.Map.{lookup}
use Rattle.base_data.specs.Same.{same_library}
use Rattle.base_data.specs.declared.library.LibName.{LibName}
use Rattle.base_data.specs.declared.name.FrameNo.{FrameNo}
use Rattle.base_data.specs.declared.name.Mark.{Mark}
use Rattle.stx_tree.specs.declared.frame_row.FrameRow.{FrameRow}
use Rattle.stx_frames.specs.declared.binders.Binders.{Binders}
use Rattle.stx_frames.specs.contracts.binders.Binders as binders
use Rattle.stx_frames.specs.Scope.{Scope, same_frame, label_at}

-- each symbol with the frames that may have a row of it
abbrev pub Index : Type 0
Index = List (List ℕ × Binders)

abbrev pub index_code : Coded Index
index_code = coded_list (coded× (coded_list coded_ℕ) binders.the_row.coded)

abbrev pub is_among : FrameNo → List FrameNo → Bool
is_among f gs = list_any (λ g. same_frame g f) gs

abbrev pub may_be : FrameNo → Binders → Bool
may_be f b = if b.many then true else is_among f b.frames

-- each frame that may be one is one of these
pub record AreAll (b : Binders) (gs : List FrameNo) : Type 0 where
  pub each : (f : FrameNo) → is_among f gs ≡ false → may_be f b ≡ false

abbrev pub binders_at : List ℕ → Index → Option Binders
binders_at s index = lookup (pointwise nat_eq s) index

abbrev pub may_be_of : FrameNo → Option Binders → Bool
may_be_of f None = false
may_be_of f (Some b) = may_be f b

-- whether a frame may have a row of a symbol
abbrev pub may_bind : FrameNo → List ℕ → Index → Bool
may_bind f s index = may_be_of f (binders_at s index)

-- no frame may have a row by the first that may not by the second
pub record Covers (is has : Index) : Type 0 where
  pub each : (f : FrameNo) (s : List ℕ) → may_bind f s has ≡ false → may_bind f s is ≡ false

-- each frame that may have a row of the symbol is named
pub record NamesAll (index : Index) (s : List ℕ) (gs : List FrameNo) : Type 0 where
  pub each : (f : FrameNo) → is_among f gs ≡ false → may_bind f s index ≡ false

-- the frame of each row may have it
abbrev pub AllNoted : List FrameRow → Index → Type 0
AllNoted [] index = Unit {0}
AllNoted (r ∷ rs) index = (may_bind r.frame r.symbol index ≡ true) × AllNoted rs index

-- a frame that may not have a row of a symbol has none
pub record IsIndexed (index : Index) (fs : Scope) : Type 0 where
  pub none : (f : FrameNo) (s : List ℕ) (ms : List Mark) → may_bind f s index ≡ false → label_at fs f s ms ≡ None

-- only these frames have a row of the symbol
pub record OnlyBinders (fs : Scope) (s : List ℕ) (gs : List FrameNo) : Type 0 where
  pub none : (f : FrameNo) (ms : List Mark) → is_among f gs ≡ false → label_at fs f s ms ≡ None

-- of the frames of the library, only these have a row of the symbol
pub record OnlyOfLibrary (fs : Scope) (s : List ℕ) (l : LibName) (gs : List FrameNo) : Type 0 where
  pub none : (f : FrameNo) (ms : List Mark) → same_library f.0.library l ≡ true → is_among f gs ≡ false → label_at fs f s ms ≡ None
