use Rattle.std.proofs.Common.{◌≡◌, take, fold}
use Rattle.base_data.specs.Hasher.{mixed}
use Rattle.base_data.proofs.map.NameHasherHasher.write.Given as goal

abbrev pub invariant-loop-b : goal.invariant-loop-b
invariant-loop-b l = l.state ≡ fold mixed l.fn.self.state (take l.b-index l.bytes)
