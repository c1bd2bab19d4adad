use Rattle.std.proofs.Common.{◌≡◌, ◌++◌, [], drop, map, ℕ, List, length}
use Rattle.load_import.specs.Names.{only}
use Rattle.load_import.proofs.names.kept.Given as goal

abbrev pub invariant-loop-row : goal.invariant-loop-row
invariant-loop-row l = l.rows ++ only l.ids (drop l.row-index l.names) ≡ only l.ids l.names
