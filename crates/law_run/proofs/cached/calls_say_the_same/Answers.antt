use Rattle.law_run.proofs.GrownLemmas.{calls_same}
use Rattle.law_run.proofs.cached.calls_say_the_same.Goals as goal

pub returns : goal.returns
returns c = calls_same
