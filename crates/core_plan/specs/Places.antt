-- Where the record of a library stands.
use Rattle.std.specs.Prelude.{ℕ, suc, List, [], ◌∷◌, Option, Some, None, if◌then◌else◌}
use Rattle.std.specs.Borrow.{Bor}
use Rattle.std.specs.Map.{lookup}
use Rattle.std.specs.Ordering.{is_eq}
use Rattle.base_data.specs.NameOrder.{library_cmp}
use Rattle.base_data.specs.Same.{same_library}
use Rattle.base_data.specs.declared.library.LibName.{LibName}
use Rattle.core_language.specs.declared.record.CompiledLibrary.{CompiledLibrary}

abbrev pub place_from : ℕ → LibName → List CompiledLibrary → Option ℕ
place_from i name [] = None
place_from i name (r ∷ rs) = if same_library r.name name then Some i else place_from (suc i) name rs

-- where the record of a library stands: the first of that name
abbrev pub place_of : List CompiledLibrary → LibName → Option ℕ
place_of records name = place_from 0 name records

-- the place that a table has for a library
abbrev pub place_in : List (Bor LibName × ℕ) → LibName → Option ℕ
place_in rows name = lookup (λ k. is_eq (library_cmp name k.now)) rows
