use Rattle.law_core.proofs.GivenLemmas.{references_given}
use Rattle.law_core.proofs.references_are_given.Goals as goal

pub returns : goal.returns
returns c = references_given
