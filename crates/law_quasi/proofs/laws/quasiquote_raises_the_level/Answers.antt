use Rattle.law_quasi.proofs.Forms.{raised}
use Rattle.law_quasi.proofs.laws.quasiquote_raises_the_level.Goals as goal

pub returns : goal.returns
returns c = λ w f head t n h. raised w f head t n h
