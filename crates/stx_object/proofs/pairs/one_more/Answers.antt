use Rattle.std.proofs.Common.{arith}
use Rattle.stx_object.proofs.Lengths.{counted_on}
use Rattle.stx_object.proofs.pairs.one_more.Goals as goal

pub returns-in-Some : goal.returns-in-Some
returns-in-Some c = counted_on c.args.counted c.in-Some.more (omega (arith, c.if-counted-eq0.false)) c.in-Some.ensures.1
