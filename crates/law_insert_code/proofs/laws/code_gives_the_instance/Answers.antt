use Rattle.law_insert_code.proofs.Running.{code-ends}
use Rattle.law_insert_code.proofs.laws.code_gives_the_instance.Goals as goal

pub returns : goal.returns
returns c = λ w xs x span cs scope s t vs bs g whole fit bound r u h. code-ends w scope xs x span cs s t vs bs g whole fit bound r u h
