use Rattle.law_room.proofs.Counting.{forms-count-once}
use Rattle.law_room.proofs.laws.forms_count_once.Goals as goal

pub returns : goal.returns
returns c = forms-count-once
