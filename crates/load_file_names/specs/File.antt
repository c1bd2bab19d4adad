-- Where the file of a library stands below a root (R6RS leaves it to the implementation).
use Rattle.std.specs.Prelude.{ℕ, List, [], ◌∷◌, ◌++◌, codes}
use Rattle.percent_encoding.specs.Percent.{percent_encode}
use Rattle.base_data.specs.declared.library.LibName.{LibName}
use Rattle.base_data.specs.declared.library.LibName.TheVariants as library
use Rattle.load_file_names.specs.declared.file.TheConstants.{ESCAPED}

-- parts, each behind a slash, percent-encoded but for letters and digits of ASCII and `- _ + ! ? *`
abbrev pub below : List (List ℕ) → List ℕ
below [] = []
below (part ∷ parts) = codes "/" ++ percent_encode ESCAPED part ++ below parts

-- only the libraries of files have parts
abbrev pub parts_of : LibName → List (List ℕ)
parts_of library.Core = []
parts_of library.Derived = []
parts_of library.Prelude = []
parts_of library.Program = []
parts_of (library.User parts) = parts

-- the file of a library below a root
unfoldable pub file_of : LibName → List ℕ
file_of name = below (parts_of name) ++ codes ".sls"
