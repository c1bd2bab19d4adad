-- The names that the derived library imports and exports.
use Rattle.std.specs.Prelude.{ℕ, zero, suc, ◌+◌, List, [], ◌∷◌, ◌++◌, codes, Bool, true, false, Option, None, Some, if◌then◌else◌}
use Rattle.std.specs.List.{flat_map}
use Rattle.base_data.specs.Op.{name_count, op_text}
use Rattle.base_data.specs.declared.imported_name.ImportedName.{ImportedName}
use Rattle.base_data.specs.declared.library.LibName.TheVariants as library
use Rattle.base_data.specs.declared.span.Span.{Span}
use Rattle.load_builtin.specs.Exports.{derived, is_number, label_at}
use Rattle.stx_tree.specs.Context.{blank}
use Rattle.stx_tree.specs.Tree.{Tree, leaf}

abbrev pub path : List ℕ
path = codes "(derived)"

abbrev pub start : Span
start = record { file = path; from = 0; to = 0 }

-- It imports all names of the implementation that it doesn't define, in the order of their numbers.

abbrev pub is_defined : ℕ → List (Option ℕ) → Bool
is_defined n [] = false
is_defined n (d ∷ ds) = if is_number n d then true else is_defined n ds

-- a name of the implementation that stands for itself
abbrev pub core_name : ℕ → ImportedName
core_name n = record { name = op_text n; label = label_at library.Core n }

abbrev pub name_at : List (Option ℕ) → ℕ → List ImportedName
name_at ds n = if is_defined n ds then [] else core_name n ∷ []

-- so many names, from a number on, without those of these definitions
unfoldable pub names_from : List (Option ℕ) → ℕ → ℕ → List ImportedName
names_from ds n zero = []
names_from ds n (suc count) = name_at ds n ++ names_from ds (n + 1) count

abbrev pub names : List ImportedName
names = names_from derived 0 name_count

-- It exports, in the order of definition, what isn't for itself alone.

abbrev pub export_at : Option ℕ → List (List ℕ × Tree)
export_at None = []
export_at (Some n) = (op_text n, leaf (Some start) (op_text n) blank) ∷ []

unfoldable pub exports_of : List (Option ℕ) → List (List ℕ × Tree)
exports_of ds = flat_map export_at ds
