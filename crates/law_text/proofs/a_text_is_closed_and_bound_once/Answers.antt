use Rattle.law_text.proofs.Text.{text-is-closed-once}
use Rattle.law_text.proofs.a_text_is_closed_and_bound_once.Goals as goal

pub returns : goal.returns
returns c = text-is-closed-once
