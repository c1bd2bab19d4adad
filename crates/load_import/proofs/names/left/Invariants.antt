use Rattle.std.proofs.Common.{◌≡◌, ◌++◌, [], drop, map, ℕ, List, length}
use Rattle.load_import.specs.Names.{except}
use Rattle.load_import.proofs.names.left.Given as goal

abbrev pub invariant-loop-row : goal.invariant-loop-row
invariant-loop-row l = l.rows ++ except l.ids (drop l.row-index l.names) ≡ except l.ids l.names
