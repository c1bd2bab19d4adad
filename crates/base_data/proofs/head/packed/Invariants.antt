use Rattle.std.proofs.Common.{◌≡◌, take, fold}
use Rattle.base_data.specs.Head.{digit}
use Rattle.base_data.proofs.head.packed.Given as goal

abbrev pub invariant-loop-b : goal.invariant-loop-b
invariant-loop-b l = l.n ≡ fold digit 0 (take l.b-index l.bytes)
