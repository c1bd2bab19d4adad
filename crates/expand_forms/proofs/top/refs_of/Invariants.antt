use Rattle.std.proofs.Common.{◌≡◌, drop}
use Rattle.expand_forms.specs.Top.{with_lines_of, refs_of}
use Rattle.expand_forms.proofs.top.refs_of.Given as goal

abbrev pub invariant-loop-line : goal.invariant-loop-line
invariant-loop-line l = with_lines_of l.own l.done (drop l.line-index l.lines) ≡ refs_of l.own l.lines
