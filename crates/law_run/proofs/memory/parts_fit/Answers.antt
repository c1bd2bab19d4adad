use Rattle.law_run.proofs.PartFits.{parts-fit, parts-begin, programs-begin, derived-begins}
use Rattle.law_run.proofs.memory.parts_fit.Goals as goal

pub returns : goal.returns
returns c = record { records = parts-fit; next = parts-begin; programs = programs-begin; derived = derived-begins }
