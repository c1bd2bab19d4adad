-- The frames of libraries that are complete, before those that grow.
use Rattle.std.specs.Prelude.{◌≡◌, Bool, true, false, ◌&&◌, List, [], ◌∷◌, ◌++◌, if◌then◌else◌}
use Rattle.std.specs.Coded.{Coded, coded×, coded_list}
use Rattle.base_data.specs.Same.{same_library}
use Rattle.base_data.specs.declared.library.LibName.{LibName}
use Rattle.base_data.specs.contracts.library.LibName as libraries
use Rattle.stx_tree.specs.declared.frame_row.FrameRow.{FrameRow}
use Rattle.stx_frames.specs.Scope.{Scope, scope_code, has_frame}

-- whether no frame of the first is one of the second
abbrev pub are_apart : Scope → Scope → Bool
are_apart [] fs = true
are_apart (e ∷ es) fs = if has_frame e.0 fs then false else are_apart es fs

-- whether each row is of a frame of the library
abbrev pub are_rows_of : LibName → List FrameRow → Bool
are_rows_of l [] = true
are_rows_of l (r ∷ rs) = same_library r.frame.0.library l && are_rows_of l rs

-- all frames are of the library
abbrev pub AreOf : LibName → Scope → Type 0
AreOf l [] = Unit {0}
AreOf l (e ∷ es) = (same_library e.0.0.library l ≡ true) × AreOf l es

-- no frame is of the library
abbrev pub AreElsewhere : LibName → Scope → Type 0
AreElsewhere l [] = Unit {0}
AreElsewhere l (e ∷ es) = (same_library e.0.0.library l ≡ false) × AreElsewhere l es

-- a library and its frames
abbrev pub Part : Type 0
Part = LibName × Scope

abbrev pub part_code : Coded Part
part_code = coded× libraries.the_row.coded scope_code

-- the frames of each library
abbrev pub Parts : Type 0
Parts = List Part

abbrev pub parts_code : Coded Parts
parts_code = coded_list part_code

-- those frames, library by library
abbrev pub flat : Parts → Scope
flat [] = []
flat (p ∷ ps) = p.1 ++ flat ps

-- whether a library has a part
abbrev pub has_part : LibName → Parts → Bool
has_part l [] = false
has_part l (p ∷ ps) = if same_library l p.0 then true else has_part l ps

-- the frames among which those of a library are: its part, or those that may grow
abbrev pub part_of : Parts → Scope → LibName → Scope
part_of [] own l = own
part_of (p ∷ ps) own l = if same_library l p.0 then p.1 else part_of ps own l

-- whether no row is of a library that has a part
abbrev pub are_own : List FrameRow → Parts → Bool
are_own [] ps = true
are_own (r ∷ rs) ps = if has_part r.frame.0.library ps then false else are_own rs ps

-- each part has the frames of its library, and no other has any
abbrev pub ArePlaced : Parts → Scope → Type 0
ArePlaced [] own = Unit {0}
ArePlaced (p ∷ ps) own = AreOf p.0 p.1 × AreElsewhere p.0 (flat ps ++ own) × ArePlaced ps own
