use Rattle.law_codec.specs.OrderLaws.{names_rise}
use Rattle.law_codec.proofs.names_rise_as_spelled.Goals as goal

pub returns : goal.returns
returns c = names_rise
