use Rattle.std.proofs.Common.{◌≡◌, ◌++◌, drop}
use Rattle.std.specs.String.{string_bytes}
use Rattle.core_output.specs.CoreText.{lines_text}
use Rattle.core_output.proofs.text.put_lines.Given as goal

abbrev pub invariant-loop-line : goal.invariant-loop-line
invariant-loop-line l = string_bytes l.out ++ lines_text l.names (drop l.line-index l.lines) ≡ string_bytes l.initial.out ++ lines_text l.names l.lines
