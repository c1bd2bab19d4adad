use Rattle.law_spellings.proofs.Rising.{rise}
use Rattle.law_spellings.proofs.laws.records_rise.Goals as goal

pub returns : goal.returns
returns c = rise
