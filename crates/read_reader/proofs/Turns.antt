-- The turns of the loop over the lexemes of a source.
use Rattle.std.proofs.Common.{◌≡◌, ℕ, zero, suc, ◌+◌, ◌<◌, ◌≤◌, List, [], length, arith, sym, ap, ◌∙◌, Option, Some, None, Result, Ok, Err}
use Rattle.base_data.specs.declared.fault.Fault.{Fault}
use Rattle.base_data.specs.declared.fault.Stop.{Stop}
use Rattle.base_data.specs.declared.fault.Stop.TheVariants as stops
use Rattle.base_data.specs.Datum.{PlainDatum}
use Rattle.base_data.specs.Gives.{◌>>=◌, Gives, Stops}
use Rattle.read_lexer.specs.declared.token.Lexeme.{Lexeme}
use Rattle.read_lexer.specs.Start.{start_of}
use Rattle.read_lexer.specs.Tokens.{next_lexeme}
use Rattle.read_machine.specs.declared.partial.ReaderState.{ReaderState}
use Rattle.read_machine.specs.Step.{state, step, finish}
use Rattle.read_reader.specs.Lexemes.{lexed, lexed_on, lexed_from, lexed_behind}
use Rattle.read_reader.specs.Read.{run, run_over, data_of}

-- with some number of turns, the lexemes from an offset on lead from this state to this answer
pub record Comes (file : List ℕ) (nesting : ℕ) (next : ℕ → Result (Option Lexeme) Fault) (size : ℕ) (s : ReaderState) (at : ℕ) (answer : Result (List PlainDatum) Fault) : Type 0 where
  pub turns : ℕ
  pub enough : size < at + turns
  pub same : run_over file nesting s (lexed_from next turns at) ≡ answer

begun : (file bytes : List ℕ) (nesting : ℕ) (start : Result ℕ Fault) → start_of file bytes ≡ start
    → data_of file bytes nesting ≡ run_over file nesting (state [] []) (lexed_behind (next_lexeme file bytes) (suc (length bytes)) start)
unfolding data_of lexed
begun file bytes nesting start e = ap (λ r. run_over file nesting (state [] []) (lexed_behind (next_lexeme file bytes) (suc (length bytes)) r)) e

pub begins : (file bytes : List ℕ) (nesting at : ℕ) → start_of file bytes ≡ Ok at
    → Comes file nesting (next_lexeme file bytes) (length bytes) (state [] []) at (data_of file bytes nesting)
begins file bytes nesting at e = record { turns = suc (length bytes); enough = omega arith; same = sym (begun file bytes nesting (Ok at) e) }

pub begins_not : (file bytes : List ℕ) (nesting : ℕ) (f : Fault) → start_of file bytes ≡ Err f → data_of file bytes nesting ≡ Err f
unfolding run
begins_not file bytes nesting f e = begun file bytes nesting (Err f) e

module _ (file : List ℕ) (nesting : ℕ) (next : ℕ → Result (Option Lexeme) Fault) (size : ℕ) (s : ReaderState) (at : ℕ) (answer : Result (List PlainDatum) Fault) (inside : at ≤ size) where
  turned : (k : ℕ) (found : Result (Option Lexeme) Fault) → next at ≡ found → run_over file nesting s (lexed_from next (suc k) at) ≡ answer
      → run_over file nesting s (lexed_on found (λ to. lexed_from next k to)) ≡ answer
  unfolding lexed_from
  turned k found e same = ap (λ r. run_over file nesting s (lexed_on r (λ to. lexed_from next k to))) (sym e) ∙ same

  -- where the source ends, the answer is that of the end
  pub ends : next at ≡ Ok None → Comes file nesting next size s at answer → finish file s.stack s.done ≡ answer
  unfolding run
  ends e c = ends_at c.turns c.enough c.same where
    ends_at : (k : ℕ) → size < at + k → run_over file nesting s (lexed_from next k at) ≡ answer → finish file s.stack s.done ≡ answer
    ends_at zero h same = absurd (omega arith)
    ends_at (suc k) h same = turned k (Ok None) e same

  -- where bytes are no token, the answer is that fault
  pub fails : (f : Fault) → next at ≡ Err f → Comes file nesting next size s at answer → answer ≡ Err f
  unfolding run
  fails f e c = fails_at c.turns c.enough c.same where
    fails_at : (k : ℕ) → size < at + k → run_over file nesting s (lexed_from next k at) ≡ answer → answer ≡ Err f
    fails_at zero h same = absurd (omega arith)
    fails_at (suc k) h same = sym (turned k (Err f) e same)

  -- where a token fits nowhere, the answer is that fault
  pub sticks : (l : Lexeme) (f : Fault) → next at ≡ Ok (Some l) → step file nesting s l ≡ Err f → Comes file nesting next size s at answer → answer ≡ Err f
  unfolding run
  sticks l f e stuck c = sticks_at c.turns c.enough c.same where
    sticks_at : (k : ℕ) → size < at + k → run_over file nesting s (lexed_from next k at) ≡ answer → answer ≡ Err f
    sticks_at zero h same = absurd (omega arith)
    sticks_at (suc k) h same = sym (turned k (Ok (Some l)) e same)
        ∙ ap (λ r. r >>= λ u. run file nesting u (lexed_from next k l.to).lexemes (lexed_from next k l.to).fault) stuck

  -- one turn
  pub turn : (l : Lexeme) (after : ReaderState) → next at ≡ Ok (Some l) → step file nesting s l ≡ Ok after → at < l.to
      → Comes file nesting next size s at answer → Comes file nesting next size after l.to answer
  unfolding run
  turn l after e goes on c = turn_at c.turns c.enough c.same where
    turn_at : (k : ℕ) → size < at + k → run_over file nesting s (lexed_from next k at) ≡ answer → Comes file nesting next size after l.to answer
    turn_at zero h same = absurd (omega arith)
    turn_at (suc k) h same = record {
      turns = k;
      enough = omega arith;
      same = sym (ap (λ r. r >>= λ u. run file nesting u (lexed_from next k l.to).lexemes (lexed_from next k l.to).fault) goes) ∙ turned k (Ok (Some l)) e same;
    }

pub passes_on : {A B : Type 0} (e : Stop) (read : Result A Fault) (answer : Result B Fault) → ((f : Fault) → read ≡ Err f → answer ≡ Err f) → Stops e read → Stops e answer
passes_on (stops.Fault f) read answer so h = so f h
passes_on stops.Memory read answer so h = tt

pub answers : {X A : Type 0} (view : X → A) (r : Result X Stop) (given answer : Result A Fault) → given ≡ answer → Gives view r given → Gives view r answer
answers view r given answer e g = rw e at g
