use Rattle.law_run.proofs.Tops.{own-frames, once-over}
use Rattle.law_run.proofs.memory.expansion_binds_once.Goals as goal

pub returns : goal.returns
returns c = record { frames = own-frames; records = once-over }
