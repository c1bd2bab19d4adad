use Rattle.law_nesting.proofs.Texts.{read-where-nested, spellings-nest, line-spellings-nest}
use Rattle.law_nesting.proofs.laws.spellings_nest.Goals as goal

pub returns : goal.returns
returns c = record { read = read-where-nested; code = spellings-nest; lines = line-spellings-nest }
