-- Names with their labels as a table holds them.
use Rattle.std.specs.Prelude.{ℕ, List, map}
use Rattle.std.specs.Borrow.{Bor}
use Rattle.base_data.specs.declared.imported_name.ImportedName.{ImportedName}
use Rattle.base_data.specs.declared.name.Label.{Label}

abbrev pub imported_name : List ℕ × Label → ImportedName
imported_name row = record { name = row.0; label = row.1 }

-- the rows of a table
abbrev pub imported : List (List ℕ × Label) → List ImportedName
imported rows = map imported_name rows

abbrev pub imported_now : Bor (List ℕ) × Bor Label → ImportedName
imported_now row = record { name = row.0.now; label = row.1.now }
