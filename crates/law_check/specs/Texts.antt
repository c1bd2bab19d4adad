-- What the checker writes and reads.
use Rattle.std.specs.Prelude.{◌≡◌, ℕ}
use Rattle.base_data.specs.Datum.{PlainDatum}
use Rattle.check_verdict.specs.Lines.{line_on}
use Rattle.check_verdict.specs.Walk.{line_form}
use Rattle.check_verdict.specs.declared.survey.Survey.{Survey}
use Rattle.check_grammar.specs.Lines.{HasNoEnd}
use Rattle.check_grammar.specs.Text.{text_of}
use Rattle.read_printer.specs.DatumText.{datum_text}
use Rattle.read_reader.specs.Read.{most_nesting}
use Rattle.law_round.specs.Readable.{IsReadable}

-- it writes data as the printer does
abbrev pub TextsAlike : Type 0
TextsAlike = (d : PlainDatum) → datum_text d ≡ text_of d

-- no line ends in the text of a datum that can be read
abbrev pub TextsAreLines : Type 0
TextsAreLines = (n : ℕ) (d : PlainDatum) → IsReadable n d → HasNoEnd (text_of d)

-- and that text is a line by which is known what the datum tells
abbrev pub TextsTellTheirData : Type 0
TextsTellTheirData = (d : PlainDatum) (s : Survey) → IsReadable most_nesting d → line_on (text_of d) s ≡ line_form d s
