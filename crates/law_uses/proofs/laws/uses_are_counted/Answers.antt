use Rattle.law_uses.proofs.Counted.{uses-counted, body-uses-counted}
use Rattle.law_uses.proofs.laws.uses_are_counted.Goals as goal

pub returns : goal.returns
returns c = record { expressions = uses-counted; bodies = body-uses-counted }
