use Rattle.std.proofs.Common.{◌≡◌, drop}
use Rattle.eval_pattern.specs.Compile.{is_literal}
use Rattle.eval_pattern.proofs.compile.is_literal.Given as goal

abbrev pub invariant-loop-literal : goal.invariant-loop-literal
invariant-loop-literal l = is_literal (drop l.literal-index l.literals) l.form ≡ is_literal l.literals l.form
