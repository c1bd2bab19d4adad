-- The text of a datum (R6RS 4.3).
use Rattle.std.specs.Prelude.{ℕ, true, false, List, [], ◌∷◌, ◌++◌, if◌then◌else◌, codes, decimal}
use Rattle.std.specs.Fmt.{signed_decimal}
use Rattle.base_data.specs.Datum.{PlainDatum, atom, symbol, pair, vector, is_nil}
use Rattle.base_data.specs.declared.atom.Atom.{Atom}
use Rattle.base_data.specs.declared.atom.Atom.TheVariants as a
use Rattle.read_printer.specs.Characters.{character_text}
use Rattle.read_printer.specs.Strings.{string_text}
use Rattle.read_printer.specs.Symbols.{symbol_text}

abbrev pub further_bytes : List ℕ → List ℕ
further_bytes [] = []
further_bytes (n ∷ ns) = codes " " ++ decimal n ++ further_bytes ns

-- bytes parted by spaces
abbrev pub bytes_text : List ℕ → List ℕ
bytes_text [] = []
bytes_text (n ∷ ns) = decimal n ++ further_bytes ns

abbrev pub atom_text : Atom → List ℕ
atom_text a.Nil = codes "()"
atom_text (a.Bool true) = codes "#t"
atom_text (a.Bool false) = codes "#f"
atom_text (a.Int z) = signed_decimal z
atom_text (a.Spelt text) = text
atom_text (a.Char c) = character_text c
atom_text (a.Str text) = string_text text
atom_text (a.Bytes ns) = codes "#vu8(" ++ bytes_text ns ++ codes ")"

-- a tail of this text
abbrev pub dotted_text : List ℕ → List ℕ
dotted_text text = codes " . " ++ text

-- the atom as a tail, where the empty list isn't written
abbrev pub atom_rest : Atom → List ℕ
atom_rest a.Nil = []
atom_rest (a.Bool b) = dotted_text (atom_text (a.Bool b))
atom_rest (a.Int z) = dotted_text (atom_text (a.Int z))
atom_rest (a.Spelt text) = dotted_text (atom_text (a.Spelt text))
atom_rest (a.Char c) = dotted_text (atom_text (a.Char c))
atom_rest (a.Str text) = dotted_text (atom_text (a.Str text))
atom_rest (a.Bytes ns) = dotted_text (atom_text (a.Bytes ns))

abbrev mutual
  pub datum_text : PlainDatum → List ℕ
  datum_text (atom s a) = atom_text a
  datum_text (symbol s x) = symbol_text x
  datum_text (pair s d e) = codes "(" ++ (datum_text d ++ rest_text e) ++ codes ")"
  datum_text (vector s d) = codes "#(" ++ elements_text d ++ codes ")"

  -- the elements of a vector, which are a list
  pub elements_text : PlainDatum → List ℕ
  elements_text (atom s a) = []
  elements_text (symbol s x) = []
  elements_text (pair s d e) = datum_text d ++ rest_text e
  elements_text (vector s d) = []

  -- what stands in a list behind an element: further elements, and the tail
  pub rest_text : PlainDatum → List ℕ
  rest_text (atom s a) = atom_rest a
  rest_text (symbol s x) = dotted_text (symbol_text x)
  rest_text (pair s d e) = codes " " ++ datum_text d ++ rest_text e
  rest_text (vector s d) = dotted_text (codes "#(" ++ elements_text d ++ codes ")")

-- a tail that is no list, behind the elements
abbrev pub tail_text : PlainDatum → List ℕ
tail_text d = if is_nil d then [] else dotted_text (datum_text d)

abbrev pub further_items : List PlainDatum → List ℕ
further_items [] = []
further_items (d ∷ ds) = codes " " ++ datum_text d ++ further_items ds

-- data parted by spaces
abbrev pub items_text : List PlainDatum → List ℕ
items_text [] = []
items_text (d ∷ ds) = datum_text d ++ further_items ds
