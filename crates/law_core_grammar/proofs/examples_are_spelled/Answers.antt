use Rattle.law_core_grammar.proofs.Examples.{examples}
use Rattle.law_core_grammar.proofs.examples_are_spelled.Goals as goal

pub returns : goal.returns
returns c = examples
