-- What the labels of libraries that are complete are bound to, before those that are bound later.
use Rattle.std.specs.Prelude.{◌≡◌, Bool, true, false, List, [], ◌∷◌, ◌++◌, if◌then◌else◌}
use Rattle.std.specs.Coded.{Coded, coded×, coded_list}
use Rattle.base_data.specs.Same.{same_library}
use Rattle.base_data.specs.declared.library.LibName.{LibName}
use Rattle.base_data.specs.contracts.library.LibName as libraries
use Rattle.base_data.specs.declared.name.Label.{Label}
use Rattle.core_language.specs.Bindings.{bindings_code}
use Rattle.core_language.specs.declared.binding.Binding.{Binding}

abbrev pub LabelBindings : Type 0
LabelBindings = List (Label × Binding)

-- all labels are of the library
abbrev pub AreOf : LibName → LabelBindings → Type 0
AreOf l [] = Unit {0}
AreOf l (b ∷ bs) = (same_library b.0.0.library l ≡ true) × AreOf l bs

-- no label is of the library
abbrev pub AreElsewhere : LibName → LabelBindings → Type 0
AreElsewhere l [] = Unit {0}
AreElsewhere l (b ∷ bs) = (same_library b.0.0.library l ≡ false) × AreElsewhere l bs

-- a library and what its labels are bound to
abbrev pub Part : Type 0
Part = LibName × LabelBindings

abbrev pub part_code : Coded Part
part_code = coded× libraries.the_row.coded bindings_code

-- what the labels of each library are bound to
abbrev pub Parts : Type 0
Parts = List Part

abbrev pub parts_code : Coded Parts
parts_code = coded_list part_code

-- those bindings, library by library
abbrev pub flat : Parts → LabelBindings
flat [] = []
flat (p ∷ ps) = p.1 ++ flat ps

-- whether a library has a part
abbrev pub has_part : LibName → Parts → Bool
has_part l [] = false
has_part l (p ∷ ps) = if same_library l p.0 then true else has_part l ps

-- the bindings among which those of a library's labels are: its part, or those that came later
abbrev pub part_of : Parts → LabelBindings → LibName → LabelBindings
part_of [] own l = own
part_of (p ∷ ps) own l = if same_library l p.0 then p.1 else part_of ps own l

-- each part is of its library, and nothing behind it is
abbrev pub ArePlaced : Parts → LabelBindings → Type 0
ArePlaced [] own = Unit {0}
ArePlaced (p ∷ ps) own = AreOf p.0 p.1 × AreElsewhere p.0 (flat ps ++ own) × ArePlaced ps own
