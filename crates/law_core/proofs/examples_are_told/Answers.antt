use Rattle.law_core.proofs.ExampleLemmas.{closed_examples, well_made_examples, record_examples, follows_examples}
use Rattle.law_core.proofs.examples_are_told.Goals as goal

pub returns : goal.returns
returns c = record { closed = closed_examples; well_made = well_made_examples; records = record_examples; follows = follows_examples }
