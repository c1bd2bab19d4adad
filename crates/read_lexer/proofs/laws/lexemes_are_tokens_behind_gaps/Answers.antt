use Rattle.read_lexer.proofs.TokenLemmas.{lexemes_are, ends_are, one_token}
use Rattle.read_lexer.proofs.laws.lexemes_are_tokens_behind_gaps.Goals as goal

pub returns-clause-tokens : goal.returns-clause-tokens
returns-clause-tokens c = lexemes_are

pub returns-clause-ends : goal.returns-clause-ends
returns-clause-ends c = ends_are

pub returns-clause-one : goal.returns-clause-one
returns-clause-one c = one_token
