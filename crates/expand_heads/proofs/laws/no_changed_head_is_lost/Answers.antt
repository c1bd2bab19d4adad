use Rattle.expand_heads.proofs.KeptLaws.{none_lost}
use Rattle.expand_heads.proofs.laws.no_changed_head_is_lost.Goals as goal

pub returns : goal.returns
returns c = none_lost
