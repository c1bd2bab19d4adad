use Rattle.law_stuck.proofs.Steps.{uses_never_stuck, transformers_never_stuck, asks_never_stuck, begins_never_stuck, finishes_never_stuck}
use Rattle.law_stuck.proofs.laws.uses_never_get_stuck.Goals as goal

pub returns : goal.returns
returns c = record { uses = uses_never_stuck; transformers = transformers_never_stuck; asks = asks_never_stuck; begins = begins_never_stuck; finishes = finishes_never_stuck }
