use Rattle.law_hygiene.proofs.Knowing.{new_leaves, new_rows, new_changes, known_changed, known_bound}
use Rattle.law_hygiene.proofs.unknown_marks_are_new.Goals as goal

pub returns : goal.returns
returns c = record { trees = new_leaves; rows = new_rows; changes = new_changes; known_changed = known_changed; known_bound = known_bound }
