-- The text of a datum in core text (R6RS 4.3): on one line, its parts parted by one space.
use Rattle.std.specs.Prelude.{ℕ, true, false, List, [], ◌∷◌, ◌++◌, codes, decimal}
use Rattle.std.specs.Fmt.{signed_decimal}
use Rattle.base_data.specs.Datum.{PlainDatum, atom, symbol, pair, vector}
use Rattle.base_data.specs.declared.atom.Atom.{Atom}
use Rattle.base_data.specs.declared.atom.Atom.TheVariants as a
use Rattle.check_grammar.specs.Characters.{character_text}
use Rattle.check_grammar.specs.Strings.{string_text}
use Rattle.check_grammar.specs.Symbols.{symbol_text}

abbrev pub further_bytes : List ℕ → List ℕ
further_bytes [] = []
further_bytes (n ∷ ns) = codes " " ++ decimal n ++ further_bytes ns

abbrev pub bytes_text : List ℕ → List ℕ
bytes_text [] = []
bytes_text (n ∷ ns) = decimal n ++ further_bytes ns

-- a ratio or a decimal stands as it was spelt
abbrev pub atom_text : Atom → List ℕ
atom_text a.Nil = codes "()"
atom_text (a.Bool true) = codes "#t"
atom_text (a.Bool false) = codes "#f"
atom_text (a.Int z) = signed_decimal z
atom_text (a.Spelt text) = text
atom_text (a.Char c) = character_text c
atom_text (a.Str text) = string_text text
atom_text (a.Bytes ns) = codes "#vu8(" ++ bytes_text ns ++ codes ")"

-- an atom behind a dot, unless it is the empty list
abbrev pub atom_behind : Atom → List ℕ
atom_behind a.Nil = []
atom_behind (a.Bool b) = codes " . " ++ atom_text (a.Bool b)
atom_behind (a.Int z) = codes " . " ++ atom_text (a.Int z)
atom_behind (a.Spelt text) = codes " . " ++ atom_text (a.Spelt text)
atom_behind (a.Char c) = codes " . " ++ atom_text (a.Char c)
atom_behind (a.Str text) = codes " . " ++ atom_text (a.Str text)
atom_behind (a.Bytes ns) = codes " . " ++ atom_text (a.Bytes ns)

abbrev mutual
  pub text_of : PlainDatum → List ℕ
  text_of (atom s a) = atom_text a
  text_of (symbol s x) = symbol_text x
  text_of (pair s d e) = codes "(" ++ (text_of d ++ behind e) ++ codes ")"
  text_of (vector s d) = codes "#(" ++ within d ++ codes ")"

  -- the elements of a vector
  pub within : PlainDatum → List ℕ
  within (atom s a) = []
  within (symbol s x) = []
  within (pair s d e) = text_of d ++ behind e
  within (vector s d) = []

  -- what stands in a list behind an element: further elements, and a tail behind a dot
  pub behind : PlainDatum → List ℕ
  behind (atom s a) = atom_behind a
  behind (symbol s x) = codes " . " ++ symbol_text x
  behind (pair s d e) = codes " " ++ text_of d ++ behind e
  behind (vector s d) = codes " . " ++ (codes "#(" ++ within d ++ codes ")")
