use Rattle.std.proofs.Common.{◌≡◌, drop, [], true}
use Rattle.expand_follows.specs.Pieces.{with_lines}
use Rattle.expand_follows.proofs.code.run_variables.Given as goal

abbrev pub invariant-loop-line : goal.invariant-loop-line
invariant-loop-line l = with_lines l.all (drop l.line-index l.lines) ≡ with_lines (record { numbers = []; variables = []; pattern_variables = []; formed = true }) l.lines
