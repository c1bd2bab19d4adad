-- The data of a source: its lexemes, and the stack of what is open over them.
use Rattle.std.specs.Prelude.{ℕ, List, [], ◌∷◌, Option, Some, None, Result, Err}
use Rattle.base_data.specs.declared.fault.Fault.{Fault}
use Rattle.base_data.specs.Datum.{PlainDatum}
use Rattle.base_data.specs.Gives.{◌>>=◌}
use Rattle.read_lexer.specs.declared.token.Lexeme.{Lexeme}
use Rattle.read_machine.specs.declared.partial.ReaderState.{ReaderState}
use Rattle.read_machine.specs.Step.{state, step, finish}
use Rattle.read_reader.specs.Lexemes.{Lexed, lexed}

-- how many forms may be nested in a program or library
abbrev pub file_nesting : ℕ
file_nesting = 500

-- how many forms may be nested in any source that is read
abbrev pub most_nesting : ℕ
most_nesting = 8192

-- what behind the last lexeme comes of the state there: the fault of the next token, or the end
abbrev pub ended : List ℕ → ReaderState → Option Fault → Result (List PlainDatum) Fault
ended file s None = finish file s.stack s.done
ended file s (Some f) = Err f

-- the data of some lexemes behind a state, where so many forms may be nested
unfoldable pub run : List ℕ → ℕ → ReaderState → List Lexeme → Option Fault → Result (List PlainDatum) Fault
run file nesting s [] f = ended file s f
run file nesting s (l ∷ ls) f = step file nesting s l >>= λ next. run file nesting next ls f

abbrev pub run_over : List ℕ → ℕ → ReaderState → Lexed → Result (List PlainDatum) Fault
run_over file nesting s ls = run file nesting s ls.lexemes ls.fault

-- the data of a source where so many forms may be nested, or its first fault
unfoldable pub data_of : List ℕ → List ℕ → ℕ → Result (List PlainDatum) Fault
data_of file bytes nesting = run_over file nesting (state [] []) (lexed file bytes)
