use Rattle.law_spellings.proofs.Recorded.{no-higher, within-levels}
use Rattle.law_spellings.proofs.laws.levels_stay_within.Goals as goal

pub returns : goal.returns
returns c = record { forms = no-higher; records = within-levels }
