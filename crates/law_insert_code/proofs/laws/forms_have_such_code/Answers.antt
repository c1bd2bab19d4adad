use Rattle.law_insert_code.proofs.Coding.{code_is}
use Rattle.law_insert_code.proofs.laws.forms_have_such_code.Goals as goal

pub returns : goal.returns
returns c = λ place level t q cs s u code e. code_is place level t q cs code s u e
