-- The lexemes of a source, from its first to its last.
use Rattle.std.specs.Prelude.{◌≡◌, ℕ, zero, suc, List, [], ◌∷◌, length, Option, Some, None, Result, Ok, Err}
use Rattle.base_data.specs.declared.fault.Fault.{Fault}
use Rattle.read_lexer.specs.declared.token.Lexeme.{Lexeme}
use Rattle.read_lexer.specs.Start.{start_of}
use Rattle.read_lexer.specs.Tokens.{next_lexeme}

-- from one offset to another these lexemes follow one another, each where the one before it ends
pub data Follow (next : ℕ → Result (Option Lexeme) Fault) : ℕ → List Lexeme → ℕ → Type 0 where
  none : {at : ℕ} → Follow next at [] at
  one : {at to : ℕ} {ls : List Lexeme} (l : Lexeme) → next at ≡ Ok (Some l) → Follow next l.to ls to → Follow next at (l ∷ ls) to

-- the lexemes of a source in order, and the fault behind them, where bytes there are no token
pub record Lexed : Type 0 where
  pub lexemes : List Lexeme
  pub fault : Option Fault

abbrev pub nothing_more : Option Fault → Lexed
nothing_more f = record { lexemes = []; fault = f }

abbrev pub preceded : Lexeme → Lexed → Lexed
preceded l others = record { lexemes = l ∷ others.lexemes; fault = others.fault }

abbrev pub lexed_on : Result (Option Lexeme) Fault → (ℕ → Lexed) → Lexed
lexed_on (Ok None) others = nothing_more None
lexed_on (Ok (Some l)) others = preceded l (others l.to)
lexed_on (Err f) others = nothing_more (Some f)

-- the lexemes from an offset on, each where the one before it ends, in so many turns
unfoldable pub lexed_from : (ℕ → Result (Option Lexeme) Fault) → ℕ → ℕ → Lexed
lexed_from next zero at = nothing_more None
lexed_from next (suc turns) at = lexed_on (next at) (λ to. lexed_from next turns to)

abbrev pub lexed_behind : (ℕ → Result (Option Lexeme) Fault) → ℕ → Result ℕ Fault → Lexed
lexed_behind next turns (Ok at) = lexed_from next turns at
lexed_behind next turns (Err f) = nothing_more (Some f)

-- the lexemes of a source: as many turns as it has bytes, and one, are enough
unfoldable pub lexed : List ℕ → List ℕ → Lexed
lexed file bytes = lexed_behind (next_lexeme file bytes) (suc (length bytes)) (start_of file bytes)
