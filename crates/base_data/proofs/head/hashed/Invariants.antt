use Rattle.std.proofs.Common.{◌≡◌, take, fold}
use Rattle.base_data.specs.Hasher.{mixed}
use Rattle.base_data.proofs.head.hashed.Given as goal

abbrev pub invariant-loop-b : goal.invariant-loop-b
invariant-loop-b l = l.hash ≡ fold mixed 0 (take l.b-index l.bytes)
