-- Which data the bytes of a source spell, down to its bytes (R6RS 4.2 and 4.3).
use Rattle.std.specs.Prelude.{◌≡◌, ℕ, ◌+◌, ◌≤◌, ◌↔◌, List, [], ◌∷◌, drop, length}
use Rattle.base_data.specs.Datum.{PlainDatum}
use Rattle.law_faults.specs.Start.{Start}
use Rattle.read_lexer.specs.Between.{Gap}
use Rattle.read_lexer.specs.Grammar.{IsToken}
use Rattle.read_lexer.specs.declared.token.Lexeme.{Lexeme}
use Rattle.read_reader.specs.Grammar.{AreItems}
use Rattle.read_reader.specs.Spells.{Spells}

-- from an offset to the end of the bytes stand these lexemes, each behind a gap of whitespace and comments, and a last gap
pub data Tokens (bytes : List ℕ) : ℕ → List Lexeme → Type 0 where
  none : (at n : ℕ) → Gap (drop at bytes) n → length bytes ≤ at + n → Tokens bytes at []
  one : (at n size : ℕ) (l : Lexeme) (ls : List Lexeme) → l.from ≡ at + n → Gap (drop at bytes) n
      → l.to ≡ l.from + size → IsToken (drop l.from bytes) size l.token → Tokens bytes l.to ls → Tokens bytes at (l ∷ ls)

-- behind what is skipped at its start the source is tokens and gaps to its end, and the tokens are these data in order,
-- where so many forms may be nested
pub record Reads (file bytes : List ℕ) (nesting : ℕ) (ds : List PlainDatum) : Type 0 where
  pub start : ℕ
  pub lexemes : List Lexeme
  pub begins : Start bytes start
  pub tokens : Tokens bytes start lexemes
  pub items : AreItems file nesting lexemes ds

-- exactly that is spelt
abbrev pub SpellingsAre : Type 0
SpellingsAre = (file bytes : List ℕ) (nesting : ℕ) (ds : List PlainDatum) → Spells file bytes nesting ds ↔ Reads file bytes nesting ds
