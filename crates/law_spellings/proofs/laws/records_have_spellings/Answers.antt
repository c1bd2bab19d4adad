use Rattle.law_spellings.proofs.Having.{have}
use Rattle.law_spellings.proofs.Recorded.{stay}
use Rattle.law_spellings.proofs.laws.records_have_spellings.Goals as goal

pub returns : goal.returns
returns c = record { stay = stay; records = have }
