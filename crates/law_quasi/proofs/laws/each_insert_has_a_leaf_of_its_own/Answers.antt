use Rattle.law_quasi.proofs.Numbers.{all_numbered}
use Rattle.law_quasi.proofs.laws.each_insert_has_a_leaf_of_its_own.Goals as goal

pub returns : goal.returns
returns c = λ w t form place q e. all_numbered w t form place q e
