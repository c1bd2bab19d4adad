use Rattle.std.proofs.Common.{◌≤◌, length, take}
use Rattle.base_outside.specs.Sink.{Gains}
use Rattle.base_outside.proofs.host.write_some.Given as goal

abbrev pub invariant-loop : goal.invariant-loop
invariant-loop g l = record {
  within : l.taken ≤ length l.piece;
  gains : Gains (g.W.Write.contents l.fn.writer) (g.W.Write.contents l.writer) (take l.taken l.piece);
}
