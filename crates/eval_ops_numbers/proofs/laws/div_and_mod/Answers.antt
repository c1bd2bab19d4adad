use Rattle.eval_ops_numbers.proofs.Divisions.{euclid}
use Rattle.eval_ops_numbers.proofs.laws.div_and_mod.Goals as goal

pub returns-clause-whole : goal.returns-clause-whole
returns-clause-whole c = euclid
