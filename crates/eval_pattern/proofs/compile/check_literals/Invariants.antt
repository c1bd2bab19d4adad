use Rattle.std.proofs.Common.{◌≡◌, drop}
use Rattle.eval_pattern.specs.Compile.{literals_checked}
use Rattle.eval_pattern.proofs.compile.check_literals.Given as goal

abbrev pub invariant-loop-literal : goal.invariant-loop-literal
invariant-loop-literal l = literals_checked l.context.frames.now l.context.place.now (drop l.literal-index l.context.literals.now) ≡ literals_checked l.context.frames.now l.context.place.now l.context.literals.now
