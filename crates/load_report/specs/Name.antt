-- Names of libraries, as they are told.
use Rattle.std.specs.Prelude.{ℕ, List, [], ◌∷◌, ◌++◌, codes}
use Rattle.base_data.specs.declared.library.LibName.{LibName}
use Rattle.base_data.specs.declared.library.LibName.TheVariants as library

-- parts behind the first, each behind a space
abbrev pub further_parts : List (List ℕ) → List ℕ
further_parts [] = []
further_parts (part ∷ parts) = codes " " ++ part ++ further_parts parts

abbrev pub spaced : List (List ℕ) → List ℕ
spaced [] = []
spaced (part ∷ parts) = part ++ further_parts parts

-- only the libraries of files, and those that users may name, have parts
abbrev pub parts_text : LibName → List ℕ
parts_text library.Core = []
parts_text library.Derived = []
parts_text library.Prelude = []
parts_text library.Program = []
parts_text (library.User parts) = spaced parts

abbrev pub name_text : LibName → List ℕ
name_text name = codes "(" ++ parts_text name ++ codes ")"
