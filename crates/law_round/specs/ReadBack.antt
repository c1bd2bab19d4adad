-- What is printed is read back.
use Rattle.std.specs.Prelude.{◌≡◌, ℕ, List, [], ◌∷◌, Ok, All}
use Rattle.base_data.specs.Datum.{PlainDatum, unspanned}
use Rattle.read_printer.specs.DatumText.{datum_text}
use Rattle.read_reader.specs.Read.{data_of}
use Rattle.law_round.specs.Readable.{IsReadable}

-- the text of a datum, as a file where so many forms may be nested, has one datum: this one, but for the spans
pub record IsReadBack (file : List ℕ) (nesting : ℕ) (d : PlainDatum) : Type 0 where
  pub datum : PlainDatum
  pub read : data_of file (datum_text d) nesting ≡ Ok (datum ∷ [])
  pub same : unspanned datum ≡ unspanned d

abbrev pub ReadableAreReadBack : Type 0
ReadableAreReadBack = (file : List ℕ) (nesting : ℕ) (d : PlainDatum) → IsReadable nesting d → IsReadBack file nesting d

abbrev pub OnlyReadableAreRead : Type 0
OnlyReadableAreRead = (file bytes : List ℕ) (nesting : ℕ) (ds : List PlainDatum) → data_of file bytes nesting ≡ Ok ds → All (IsReadable nesting) ds

-- what is read of any file is read back from its text, in any other
abbrev pub ReadAreReadBack : Type 0
ReadAreReadBack = (file bytes other : List ℕ) (nesting : ℕ) (ds : List PlainDatum) → data_of file bytes nesting ≡ Ok ds → All (IsReadBack other nesting) ds
