use Rattle.law_expand.proofs.Replaced.{uses-replaced, body-uses-replaced, record-forms-replaced, body-record-forms-replaced}
use Rattle.law_expand.proofs.laws.uses_are_replaced.Goals as goal

pub returns : goal.returns
returns c = record { expressions = uses-replaced; bodies = body-uses-replaced; records = record-forms-replaced; records_in_bodies = body-record-forms-replaced }
