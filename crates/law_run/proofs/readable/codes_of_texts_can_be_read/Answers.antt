use Rattle.law_run.proofs.ReadableGiven.{prelude-readable}
use Rattle.law_run.proofs.readable.codes_of_texts_can_be_read.Goals as goal

pub returns : goal.returns
returns c = prelude-readable
