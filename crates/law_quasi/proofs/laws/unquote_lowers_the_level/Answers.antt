use Rattle.law_quasi.proofs.Forms.{reached, lowered}
use Rattle.law_quasi.proofs.laws.unquote_lowers_the_level.Goals as goal

pub returns : goal.returns
returns c = record {
  reached = λ w f head e h. reached w f head e h;
  further_in = λ w f head t n h. lowered w f head t n h;
}
