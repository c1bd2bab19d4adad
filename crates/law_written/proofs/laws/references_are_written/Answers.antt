use Rattle.law_written.proofs.Written.{mentions-written, written-generated, references-written}
use Rattle.law_written.proofs.laws.references_are_written.Goals as goal

pub returns : goal.returns
returns c = record { mentions = mentions-written; generated = written-generated; references = references-written }
