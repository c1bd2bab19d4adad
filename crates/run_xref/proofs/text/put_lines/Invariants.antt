use Rattle.std.proofs.Common.{◌≡◌, ◌++◌, drop}
use Rattle.std.specs.String.{string_bytes}
use Rattle.run_xref.specs.Text.{lines_at, lines}
use Rattle.run_xref.proofs.text.put_lines.Given as goal

abbrev pub invariant-loop-pair : goal.invariant-loop-pair
invariant-loop-pair l = string_bytes l.out ++ lines (lines_at l.files) (drop l.pair-index l.map) ≡ string_bytes l.initial.out ++ lines (lines_at l.files) l.map
