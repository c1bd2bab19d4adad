-- The variables that have generated names.
use Rattle.std.specs.Prelude.{ℕ, ◌<◌, List, length, All}
use Rattle.std.specs.Str.{IsUtf8}
use Rattle.base_data.specs.declared.library.LibName.{LibName}
use Rattle.base_data.specs.declared.library.LibName.TheVariants as library
use Rattle.core_naming.specs.Generated.{generated_name}

-- a variable, with its number among those of its library
pub record NamedVariable : Type 0 where
  pub library : LibName
  pub symbol : List ℕ
  pub number : ℕ

-- a part of a library's name isn't empty
abbrev pub IsPart : List ℕ → Type 0
IsPart text = IsUtf8 text × (0 < length text)

-- the program, or a library whose name has one or more parts
abbrev pub IsNamed : LibName → Type 0
IsNamed library.Core = ⊥
IsNamed library.Derived = ⊥
IsNamed library.Prelude = ⊥
IsNamed library.Program = Unit {0}
IsNamed (library.User parts) = (0 < length parts) × All IsPart parts

abbrev pub IsVariable : NamedVariable → Type 0
IsVariable v = IsNamed v.library × IsUtf8 v.symbol

abbrev pub name_of : NamedVariable → List ℕ
name_of v = generated_name v.library v.symbol v.number
