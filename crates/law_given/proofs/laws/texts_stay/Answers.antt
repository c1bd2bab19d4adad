use Rattle.law_given.proofs.Codes.{codes-stay}
use Rattle.law_given.proofs.laws.texts_stay.Goals as goal

pub returns : goal.returns
returns c = record { begin = λ number x found. found; stay = codes-stay }
