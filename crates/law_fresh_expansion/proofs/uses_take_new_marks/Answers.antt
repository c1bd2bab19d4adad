use Rattle.law_fresh_expansion.proofs.Taking.{uses-new}
use Rattle.law_fresh_expansion.proofs.uses_take_new_marks.Goals as goal

pub returns : goal.returns
returns c = uses-new
