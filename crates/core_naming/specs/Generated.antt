-- The names of variables in core text.
use Rattle.std.specs.Prelude.{ℕ, Bool, List, [], ◌∷◌, ◌++◌, ◌||◌, if◌then◌else◌, codes}
use Rattle.std.specs.List.{flat_map, list_any}
use Rattle.std.specs.Prelude.{◌==◌}
use Rattle.std.specs.Str.{chars}
use Rattle.std.specs.Char.{is_ascii_alphanumeric}
use Rattle.base_data.specs.Hex.{hex}
use Rattle.base_data.specs.declared.library.LibName.{LibName}
use Rattle.base_data.specs.declared.library.LibName.TheVariants as library
use Rattle.core_naming.specs.Decimal.{number_text}

-- the characters beside letters and digits that stand for themselves: ! $ % & * : < = > ? ^ _ + - @
abbrev pub is_plain_sign : ℕ → Bool
is_plain_sign c = list_any (λ sign. c == sign) (codes "!$%&*:<=>?^_+-@")

-- what stands for itself in a name
abbrev pub is_plain : ℕ → Bool
is_plain c = is_ascii_alphanumeric c || is_plain_sign c

abbrev pub name_char : ℕ → List ℕ
name_char c = if is_plain c then c ∷ [] else codes "~" ++ hex c ++ codes "~"

-- a symbol, or a part of a library's name
abbrev pub name_part : List ℕ → List ℕ
name_part text = flat_map name_char (chars text)

abbrev pub further_parts : List (List ℕ) → List ℕ
further_parts [] = []
further_parts (p ∷ ps) = codes "." ++ name_part p ++ further_parts ps

abbrev pub parts_text : List (List ℕ) → List ℕ
parts_text [] = []
parts_text (p ∷ ps) = name_part p ++ further_parts ps

-- the parts of a library's name joined by dots; a library without parts, as the program, has none
abbrev pub library_text : LibName → List ℕ
library_text library.Core = []
library_text library.Derived = []
library_text library.Prelude = []
library_text library.Program = []
library_text (library.User parts) = parts_text parts

-- %LIBRARY/SYMBOL/NUMBER
abbrev pub generated_name : LibName → List ℕ → ℕ → List ℕ
generated_name lib symbol number = codes "%" ++ library_text lib ++ codes "/" ++ name_part symbol ++ codes "/" ++ number_text number
