use Rattle.std.proofs.Common.{◌≡◌, drop}
use Rattle.check_verdict.specs.Lines.{first_free}
use Rattle.check_verdict.proofs.lines.first_free.Given as goal

abbrev pub invariant-loop-name : goal.invariant-loop-name
invariant-loop-name l = first_free l.defined (drop l.name-index l.free) ≡ first_free l.defined l.free
