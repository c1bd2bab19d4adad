-- What core text is read as.
use Rattle.std.specs.Prelude.{◌≡◌, ℕ, ◌≤◌, List, ◌∷◌, map, Ok}
use Rattle.base_data.specs.Datum.{PlainDatum, unspanned}
use Rattle.core_language.specs.declared.record.Line.{Line}
use Rattle.core_output.specs.CoreText.{VariableNames}
use Rattle.law_grammar.specs.Reads.{Reads}
use Rattle.read_reader.specs.Read.{data_of}
use Rattle.law_core_grammar.specs.Lines.{import_form, SpellLines}

-- The text, as a file where so many forms may be nested, is read as the import of `(rnrs)` and behind it one datum for each of these lines,
-- which spells it. The bytes spell these data by the grammar of R6RS 4.2 and 4.3, and the data spell the lines by that of R6RS 11.
pub record IsReadAs (names : VariableNames) (lines : List Line) (file text : List ℕ) (nesting : ℕ) : Type 0 where
  pub first : PlainDatum
  pub others : List PlainDatum
  pub read : data_of file text nesting ≡ Ok (first ∷ others)
  pub reads : Reads file text nesting (first ∷ others)
  pub import : unspanned first ≡ import_form
  pub spelled : SpellLines names lines (map unspanned others)

-- it is so read wherever enough forms may be nested
pub record IsTextReadBack (names : VariableNames) (lines : List Line) (text : List ℕ) : Type 0 where
  pub enough : ℕ
  pub read : (file : List ℕ) (nesting : ℕ) → enough ≤ nesting → IsReadAs names lines file text nesting
