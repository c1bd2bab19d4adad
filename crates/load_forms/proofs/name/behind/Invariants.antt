use Rattle.std.proofs.Common.{◌≡◌, length}
use Rattle.load_forms.specs.Name.{behind}
use Rattle.load_forms.proofs.name.behind.Given as goal

abbrev pub invariant-loop-first : goal.invariant-loop-first
invariant-loop-first l = behind l.left ≡ behind l.items

abbrev pub decreases-loop-first : goal.decreases-loop-first
decreases-loop-first l = length l.left
