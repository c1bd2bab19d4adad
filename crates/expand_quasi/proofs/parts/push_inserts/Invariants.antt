use Rattle.std.proofs.Common.{◌≡◌, ◌++◌, map, take}
use Rattle.expand_quasi.specs.Parts.{insert_part}
use Rattle.expand_quasi.proofs.parts.push_inserts.Given as goal

abbrev pub invariant-loop-insert : goal.invariant-loop-insert
invariant-loop-insert l = l.parts ≡ l.initial.parts ++ map (insert_part l.depth) (take l.insert-index l.inserts)
