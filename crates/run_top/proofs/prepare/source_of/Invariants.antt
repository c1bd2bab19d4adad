use Rattle.std.proofs.Common.{◌≡◌, drop}
use Rattle.run_top.specs.Whole.{source_of}
use Rattle.run_top.proofs.prepare.source_of.Given as goal

abbrev pub invariant-loop-source : goal.invariant-loop-source
invariant-loop-source l = source_of (drop l.source-index l.sources) l.path ≡ source_of l.sources l.path
