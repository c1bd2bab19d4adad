use Rattle.law_run.proofs.PreludeWorld.{written-texts}
use Rattle.law_run.proofs.stuck.texts_make_a_whole_world.Goals as goal

pub returns : goal.returns
returns c = written-texts
