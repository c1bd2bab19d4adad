-- What the libraries that this implementation gives export.
use Rattle.std.specs.Prelude.{ℕ, ◌+◌, Bool, false, ◌==◌, List, [], ◌∷◌, map, Option, Some, None, if◌then◌else◌, option_map}
use Rattle.base_data.specs.Op.{op_text}
use Rattle.base_data.specs.declared.imported_name.ImportedName.{ImportedName}
use Rattle.base_data.specs.declared.library.LibName.{LibName}
use Rattle.base_data.specs.declared.library.LibName.TheVariants as name
use Rattle.base_data.specs.declared.name.Label.{Label}
use Rattle.base_data.specs.declared.op.names.TheConstants as names
use Rattle.load_builtin.specs.declared.library.Library.{Library}
use Rattle.load_builtin.specs.Libraries.{library_named, library_numbers}

-- the definitions of the derived library, in order, each with the number of its name where it is exported; those of `case-clauses`,
-- `lv-formals` and `lv-clauses` it has for itself alone
abbrev pub derived : List (Option ℕ)
derived =
    Some names.SYNTAX_RULES ∷ Some names.LET ∷ Some names.LET_STAR ∷ Some names.AND ∷ Some names.OR ∷ Some names.COND ∷
    None ∷ Some names.CASE ∷ Some names.WHEN ∷ Some names.UNLESS ∷ Some names.WITH_SYNTAX ∷ Some names.DO ∷
    Some names.LET_STAR_VALUES ∷ None ∷ None ∷ Some names.LET_VALUES ∷ Some names.ASSERT ∷ Some names.IDENTIFIER_SYNTAX ∷ []

abbrev pub is_number : ℕ → Option ℕ → Bool
is_number n None = false
is_number n (Some m) = m == n

-- the place of a name among some definitions that begin at a place
abbrev pub definition_from : ℕ → ℕ → List (Option ℕ) → Option ℕ
definition_from place n [] = None
definition_from place n (d ∷ ds) = if is_number n d then Some place else definition_from (place + 1) n ds

-- the place of a name among the definitions of the derived library
abbrev pub derived_place : ℕ → Option ℕ
derived_place n = definition_from 0 n derived

abbrev pub label_at : LibName → ℕ → Label
label_at library n = record { 0 = record { library = library; number = n } }

abbrev pub core_unless : ℕ → Option ℕ → Label
core_unless n None = label_at name.Core n
core_unless n (Some place) = label_at name.Derived place

-- a name that the derived library defines has the label of its definition, and any other name its own
abbrev pub label_of : ℕ → Label
label_of n = core_unless n (derived_place n)

abbrev pub export : ℕ → ImportedName
export n = record { name = op_text n; label = label_of n }

abbrev pub library_exports : Library → List ImportedName
library_exports library = map export (library_numbers library)

-- the names that a library exports, each with its label; none where this implementation doesn't give it
abbrev pub exports : LibName → Option (List ImportedName)
exports name.Core = None
exports name.Derived = None
exports name.Prelude = None
exports name.Program = None
exports (name.User parts) = option_map library_exports (library_named parts)
