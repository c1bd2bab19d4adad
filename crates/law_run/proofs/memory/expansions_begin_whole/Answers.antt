use Rattle.law_run.proofs.KeptTransformers.{starts-are-whole, parts-start-whole, programs-start-whole, derived-starts-whole}
use Rattle.law_run.proofs.memory.expansions_begin_whole.Goals as goal

pub returns : goal.returns
returns c = record { starts = starts-are-whole; next = parts-start-whole; programs = programs-start-whole; derived = derived-starts-whole }
