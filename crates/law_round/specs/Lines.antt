-- What is printed line by line is read back.
use Rattle.std.specs.Prelude.{◌≡◌, ℕ, List, [], ◌∷◌, ◌++◌, map, Ok, All, codes}
use Rattle.base_data.specs.Datum.{PlainDatum, unspanned}
use Rattle.read_printer.specs.DatumText.{datum_text}
use Rattle.read_reader.specs.Read.{data_of}
use Rattle.read_reader.specs.Spells.{Spells}
use Rattle.law_round.specs.Readable.{IsReadable}

-- the texts of data, each on a line of its own
abbrev pub lines_text : List PlainDatum → List ℕ
lines_text [] = []
lines_text (d ∷ ds) = datum_text d ++ codes "\n" ++ lines_text ds

-- these lines, as a file where so many forms may be nested, are read as these data in order, and spell them, but for the spans
pub record AreReadBack (file : List ℕ) (nesting : ℕ) (ds : List PlainDatum) : Type 0 where
  pub found : List PlainDatum
  pub read : data_of file (lines_text ds) nesting ≡ Ok found
  pub spelt : Spells file (lines_text ds) nesting found
  pub same : map unspanned found ≡ map unspanned ds

abbrev pub LinesAreReadBack : Type 0
LinesAreReadBack = (file : List ℕ) (nesting : ℕ) (ds : List PlainDatum) → All (IsReadable nesting) ds → AreReadBack file nesting ds
