use Rattle.law_stage.proofs.Growing.{begin_grows, finish_grows, value_grows, variable_grows}
use Rattle.law_stage.proofs.Calling.{use_grows}
use Rattle.law_stage.proofs.laws.nothing_is_forgotten.Goals as goal

pub returns : goal.returns
returns c = record { begins = begin_grows; finishes = finish_grows; asks = value_grows; asks_variable = variable_grows; uses = use_grows }
