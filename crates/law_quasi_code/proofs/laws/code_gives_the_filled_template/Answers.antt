use Rattle.law_quasi_code.proofs.Running.{code-gives}
use Rattle.law_quasi_code.proofs.laws.code_gives_the_filled_template.Goals as goal

pub returns : goal.returns
returns c = λ w words t form place q scope given f cs s e g. code-gives w scope given f words t form place q cs s e g
