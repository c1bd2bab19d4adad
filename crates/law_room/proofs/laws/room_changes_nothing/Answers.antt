use Rattle.law_room.proofs.Rooms.{forms-need-no-more, items-need-no-more, cases-need-no-more, bodies-need-no-more, tops-need-no-more}
use Rattle.law_room.proofs.laws.room_changes_nothing.Goals as goal

pub returns : goal.returns
returns c = record { forms = forms-need-no-more; items = items-need-no-more; cases = cases-need-no-more; bodies = bodies-need-no-more; tops = tops-need-no-more }
