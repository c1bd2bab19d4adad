use Rattle.law_run.proofs.GrownLemmas.{say_the_same}
use Rattle.law_run.proofs.cached.runs_say_the_same.Goals as goal

pub returns : goal.returns
returns c = say_the_same
