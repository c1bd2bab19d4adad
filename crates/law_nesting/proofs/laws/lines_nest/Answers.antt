use Rattle.law_nesting.proofs.Records.{lines-nest-all}
use Rattle.law_nesting.proofs.laws.lines_nest.Goals as goal

pub returns : goal.returns
returns c = lines-nest-all
