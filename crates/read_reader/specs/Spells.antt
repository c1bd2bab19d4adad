-- Which data the bytes of a source spell.
use Rattle.std.specs.Prelude.{◌≡◌, ℕ, List, None, Ok}
use Rattle.base_data.specs.Datum.{PlainDatum}
use Rattle.read_lexer.specs.declared.token.Lexeme.{Lexeme}
use Rattle.read_lexer.specs.Start.{start_of}
use Rattle.read_lexer.specs.Tokens.{next_lexeme}
use Rattle.read_reader.specs.Grammar.{AreItems}
use Rattle.read_reader.specs.Lexemes.{Follow}

-- behind what is skipped at its start, the source is lexemes to its end, and these are the data in order, where so many forms may be nested
pub record Spells (file bytes : List ℕ) (nesting : ℕ) (ds : List PlainDatum) : Type 0 where
  pub start : ℕ
  pub end : ℕ
  pub lexemes : List Lexeme
  pub begins : start_of file bytes ≡ Ok start
  pub tokens : Follow (next_lexeme file bytes) start lexemes end
  pub ends : next_lexeme file bytes end ≡ Ok None
  pub items : AreItems file nesting lexemes ds
