-- What follows by the lexer's calls follows by the grammar of tokens, and the other way round.
use Rattle.std.proofs.Common.{◌≡◌, ℕ, ◌+◌, ◌≤◌, List, [], ◌∷◌, drop, length, Option, Some, None, Result, Ok}
use Rattle.base_data.specs.Datum.{PlainDatum}
use Rattle.read_lexer.specs.Between.{Gap}
use Rattle.read_lexer.specs.Grammar.{IsToken, LexemesAre, EndsAre}
use Rattle.read_lexer.specs.Tokens.{next_lexeme}
use Rattle.read_lexer.specs.declared.token.Lexeme.{Lexeme}
use Rattle.read_reader.specs.Lexemes as lexemes
use Rattle.read_reader.specs.Lexemes.{Follow}
use Rattle.read_reader.specs.Spells.{Spells}
use Rattle.law_faults.specs.Laws.{StartsAre}
use Rattle.law_grammar.specs.Reads.{Tokens, none, one, Reads, SpellingsAre}

-- lexemes that follow one another, and none behind the last
record Followed (file bytes : List ℕ) (at : ℕ) (ls : List Lexeme) : Type 0 where
  end : ℕ
  follow : Follow (next_lexeme file bytes) at ls end
  ends : next_lexeme file bytes end ≡ Ok None

module _ (lexemes_are : LexemesAre) (ends_are : EndsAre) (starts_are : StartsAre) (file bytes : List ℕ) where
  to_tokens : {at end : ℕ} {ls : List Lexeme} → Follow (next_lexeme file bytes) at ls end → next_lexeme file bytes end ≡ Ok None → Tokens bytes at ls
  to_tokens (lexemes.none {at}) ends =
      let (n, gap, last) = (ends_are file bytes at).0 ends in
      none at n gap last
  to_tokens (lexemes.one {at} {to} {ls} l next others) ends =
      let p = (lexemes_are file bytes at l).0 next in
      one at p.0 p.3 l ls p.1 p.2 p.4 p.5 (to_tokens others ends)

  to_followed : {at : ℕ} {ls : List Lexeme} → Tokens bytes at ls → Followed file bytes at ls
  to_followed (none at n gap last) = record { end = at; follow = lexemes.none; ends = (ends_are file bytes at).1 (n, gap, last) }
  to_followed (one at n size l ls from gap to token others) =
      let rest = to_followed others in
      record { end = rest.end; follow = lexemes.one l ((lexemes_are file bytes at l).1 (n, from, gap, size, to, token)) rest.follow; ends = rest.ends }

  pub reads : {nesting : ℕ} {ds : List PlainDatum} → Spells file bytes nesting ds → Reads file bytes nesting ds
  reads s = record { start = s.start; lexemes = s.lexemes; begins = (starts_are file bytes s.start).0 s.begins; tokens = to_tokens s.tokens s.ends; items = s.items }

  pub spells : {nesting : ℕ} {ds : List PlainDatum} → Reads file bytes nesting ds → Spells file bytes nesting ds
  spells r =
      let f = to_followed r.tokens in
      record { start = r.start; end = f.end; lexemes = r.lexemes; begins = (starts_are file bytes r.start).1 r.begins; tokens = f.follow; ends = f.ends; items = r.items }

pub spellings_are : LexemesAre → EndsAre → StartsAre → SpellingsAre
spellings_are lexemes_are ends_are starts_are file bytes nesting ds = (reads lexemes_are ends_are starts_are file bytes, spells lexemes_are ends_are starts_are file bytes)
