-- Inserts in their order.
use Rattle.std.specs.Prelude.{◌≡◌, ℕ, suc, List, [], ◌∷◌}
use Rattle.core_quasi.specs.QuasiSyntax.{insert_leaf}
use Rattle.core_quasi.specs.declared.quasi_syntax.Insert.{Insert}

-- from this number on, each has the leaf of its own number
abbrev pub IsNumbered : ℕ → List Insert → Type 0
IsNumbered k [] = Unit {0}
IsNumbered k (i ∷ is) = (i.leaf ≡ insert_leaf k) × IsNumbered (suc k) is
