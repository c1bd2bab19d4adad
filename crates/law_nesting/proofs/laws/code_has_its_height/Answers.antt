use Rattle.law_nesting.proofs.Heights.{code-has-its-height}
use Rattle.law_nesting.proofs.laws.code_has_its_height.Goals as goal

pub returns : goal.returns
returns c = code-has-its-height
