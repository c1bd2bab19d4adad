use Rattle.law_hygiene.proofs.Using.{each_hygienic, surroundings}
use Rattle.law_hygiene.proofs.a_use_is_hygienic.Goals as goal

pub returns : goal.returns
returns c = record { output = each_hygienic; surroundings = surroundings }
