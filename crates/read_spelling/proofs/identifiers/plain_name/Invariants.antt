use Rattle.std.proofs.Common.{◌-◌, ◌≤◌, length, take, drop}
use Rattle.read_spelling.specs.Identifiers.{name}
use Rattle.read_spelling.proofs.NameTurns.{NameGoesOn}
use Rattle.read_spelling.proofs.identifiers.plain_name.Given as goal

abbrev pub invariant-loop-at : goal.invariant-loop-at
invariant-loop-at l = (l.at ≤ length l.text) × NameGoesOn l.class (take l.at l.text) (drop l.at l.text) (name l.fn.class l.text)

abbrev pub decreases-loop-at : goal.decreases-loop-at
decreases-loop-at l = length l.text - l.at
