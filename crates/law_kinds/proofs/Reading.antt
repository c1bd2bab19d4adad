-- A source is refused as bytes.
use Rattle.std.proofs.Common.{ℕ, zero, suc, List, [], ◌∷◌, length, Option, Some, None, Result, Ok, Err}
use Rattle.base_data.specs.declared.fault.Fault.{Fault}
use Rattle.read_lexer.specs.Start.{start_of}
use Rattle.read_lexer.specs.Tokens.{next_lexeme}
use Rattle.read_lexer.specs.declared.token.Lexeme.{Lexeme}
use Rattle.read_machine.specs.Step.{state, step}
use Rattle.read_machine.specs.declared.partial.ReaderState.{ReaderState}
use Rattle.read_reader.specs.Lexemes.{Lexed, lexed_on, lexed_from, lexed_behind, lexed}
use Rattle.read_reader.specs.Read.{ended, run, data_of}
use Rattle.law_kinds.specs.Kinds.{IsOfReading, Tells}
use Rattle.law_kinds.specs.Laws.{ReadingTells}
use Rattle.law_kinds.proofs.Gaps.{r-then, tells-start}
use Rattle.law_kinds.proofs.Tokens.{tells-next}
use Rattle.law_kinds.proofs.Machine.{tells-step, tells-finish}

-- the fault behind some lexemes is of these kinds
abbrev Behind : Option Fault → Type 0
Behind None = Unit {0}
Behind (Some f) = IsOfReading f.kind

on : (r : Result (Option Lexeme) Fault) (others : ℕ → Lexed) → Tells IsOfReading r → ((to : ℕ) → Behind (others to).fault) → Behind (lexed_on r others).fault
on (Ok None) others h k = tt
on (Ok (Some l)) others h k = k l.to
on (Err f) others h k = h

lexemes : (next : ℕ → Result (Option Lexeme) Fault) → ((at : ℕ) → Tells IsOfReading (next at)) → (turns at : ℕ) → Behind (lexed_from next turns at).fault
unfolding lexed_from
lexemes next one zero at = tt
lexemes next one (suc turns) at = on (next at) (λ to. lexed_from next turns to) (one at) (λ to. lexemes next one turns to)

all-lexemes : (file bytes : List ℕ) → Behind (lexed file bytes).fault
unfolding lexed
all-lexemes file bytes = by (start_of file bytes) (tells-start file bytes)
  where
    by : (r : Result ℕ Fault) → Tells IsOfReading r → Behind (lexed_behind (next_lexeme file bytes) (suc (length bytes)) r).fault
    by (Ok at) h = lexemes (next_lexeme file bytes) (tells-next file bytes) (suc (length bytes)) at
    by (Err f) h = h

ends : (file : List ℕ) (s : ReaderState) (f : Option Fault) → Behind f → Tells IsOfReading (ended file s f)
ends file s None h = tells-finish file s.stack s.done
ends file s (Some f) h = h

runs : (file : List ℕ) (nesting : ℕ) (s : ReaderState) (ls : List Lexeme) (f : Option Fault) → Behind f → Tells IsOfReading (run file nesting s ls f)
unfolding run
runs file nesting s [] f h = ends file s f h
runs file nesting s (l ∷ ls) f h = r-then (step file nesting s l) (λ next. run file nesting next ls f) (tells-step file nesting s l) (λ next. runs file nesting next ls f h)

pub reading-tells : ReadingTells
unfolding data_of
reading-tells file bytes nesting = runs file nesting (state [] []) (lexed file bytes).lexemes (lexed file bytes).fault (all-lexemes file bytes)
