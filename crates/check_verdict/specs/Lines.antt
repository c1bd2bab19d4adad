-- The lines of a text, and what is said of it.
use Rattle.std.specs.Prelude.{ℕ, suc, Bool, true, false, ◌==◌, List, [], ◌∷◌, length, take, drop, Option, None, Some, option_map, Result, Ok, Err, if◌then◌else◌}
use Rattle.std.specs.Str.{bytes_eq}
use Rattle.base_data.specs.Datum.{PlainDatum}
use Rattle.base_data.specs.declared.fault.Fault.{Fault}
use Rattle.check_verdict.specs.declared.survey.Survey.{Survey}
use Rattle.check_verdict.specs.declared.verdict.Why.TheVariants as why
use Rattle.check_verdict.specs.declared.verdict.Verdict.{Verdict}
use Rattle.check_verdict.specs.declared.verdict.Verdict.TheVariants as verdict
use Rattle.check_verdict.specs.Survey.{Step, nothing_known}
use Rattle.check_verdict.specs.Walk.{line_form}
use Rattle.check_grammar.specs.Forms.{has}
use Rattle.check_grammar.specs.Lines.{first_line}
use Rattle.check_grammar.specs.Text.{text_of}
use Rattle.read_reader.specs.Read.{data_of, most_nesting}

-- bytes as lines: nothing, or bytes that no line end follows, or a line and what is behind its end
pub data Lines : Type 0 where
  ended : Lines
  unended : List ℕ → Lines
  line : List ℕ → Lines → Lines

abbrev pub before : ℕ → Lines → Lines
before b ended = unended (b ∷ [])
before b (unended x) = unended (b ∷ x)
before b (line x ls) = line (b ∷ x) ls

unfoldable pub lines_of : List ℕ → Lines
lines_of [] = ended
lines_of (b ∷ bs) = if b == 0x0A then line [] (lines_of bs) else before b (lines_of bs)

-- the place of the first line end
unfoldable pub line_end : List ℕ → Option ℕ
line_end [] = None
line_end (b ∷ bs) = if b == 0x0A then Some 0 else option_map suc (line_end bs)

-- a datum whose text these bytes are
abbrev pub written_on : List ℕ → PlainDatum → Step
written_on x d s = if bytes_eq (text_of d) x then line_form d s else None

-- the data that the bytes of a line spell: one
abbrev pub data_on : List ℕ → List PlainDatum → Step
data_on x [] s = None
data_on x (d ∷ []) s = written_on x d s
data_on x (d ∷ e ∷ ds) s = None

abbrev pub read_on : List ℕ → Result (List PlainDatum) Fault → Step
read_on x (Ok ds) s = data_on x ds s
read_on x (Err f) s = None

-- a line, without its end
unfoldable pub line_on : List ℕ → Step
line_on x s = read_on x (data_of [] x most_nesting) s

abbrev pub behind : ℕ → Option Survey → (Survey → Result Survey ℕ) → Result Survey ℕ
behind k None f = Err k
behind k (Some s) f = f s

-- what is known behind lines that are numbered from here, or the number of the first that is refused
unfoldable pub lines_on : ℕ → Lines → Survey → Result Survey ℕ
lines_on k ended s = Ok s
lines_on k (unended x) s = Err k
lines_on k (line x ls) s = behind k (line_on x s) (lines_on (suc k) ls)

-- the first of the names that isn't one of those defined
unfoldable pub first_free : List (List ℕ) → List (List ℕ) → Option (List ℕ)
first_free defined [] = None
first_free defined (x ∷ xs) = if has defined x then first_free defined xs else Some x

abbrev pub of_free : Option (List ℕ) → Verdict
of_free None = verdict.Yes
of_free (Some x) = verdict.No (why.Free x)

abbrev pub of_second : Option (List ℕ) → Survey → Verdict
of_second None s = of_free (first_free s.defined s.free)
of_second (Some x) s = verdict.No (why.Twice x)

-- what is said of a text of which this is known
abbrev pub known : Survey → Verdict
known s = of_second s.second s

abbrev pub of_lines : Result Survey ℕ → Verdict
of_lines (Ok s) = known s
of_lines (Err k) = verdict.No (why.Line k)

-- what is said of lines behind the first
abbrev pub behind_first : List ℕ → Verdict
behind_first x = of_lines (lines_on 2 (lines_of x) nothing_known)

abbrev pub if_first : Bool → List ℕ → Verdict
if_first true x = behind_first x
if_first false x = verdict.No (why.Line 1)

-- what is said of a text
unfoldable pub verdict_of : List ℕ → Verdict
verdict_of x = if_first (bytes_eq (take (length first_line) x) first_line) (drop (length first_line) x)
