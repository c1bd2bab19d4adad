-- Characters spelt by their numbers (R6RS 4.2.4 and 4.2.7).
use Rattle.std.specs.Prelude.{ℕ, List, ◌++◌, codes}
use Rattle.base_data.specs.Hex.{hex}

-- in strings and symbols
abbrev pub escape_text : ℕ → List ℕ
escape_text c = codes "\\x" ++ hex c ++ codes ";"
