use Rattle.law_run.proofs.Tops.{new-unbound, starts-numbered}
use Rattle.law_run.proofs.memory.new_labels_are_unbound.Goals as goal

pub returns : goal.returns
returns c = record { forms = new-unbound; starts = starts-numbered }
