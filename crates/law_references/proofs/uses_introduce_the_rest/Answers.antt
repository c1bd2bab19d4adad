use Rattle.law_references.proofs.Introducing.{uses-introduce}
use Rattle.law_references.proofs.uses_introduce_the_rest.Goals as goal

pub returns : goal.returns
returns c = uses-introduce
