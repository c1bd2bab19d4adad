use Rattle.eval_ops_numbers.proofs.Divisions.{nearest}
use Rattle.eval_ops_numbers.proofs.laws.div0_and_mod0.Goals as goal

pub returns-clause-whole : goal.returns-clause-whole
returns-clause-whole c = nearest
