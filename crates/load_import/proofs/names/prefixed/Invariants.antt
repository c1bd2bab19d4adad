use Rattle.std.proofs.Common.{◌≡◌, ◌++◌, [], drop, map, ℕ, List, length}
use Rattle.load_import.specs.Names.{prefixed}
use Rattle.load_import.proofs.names.prefixed.Given as goal

abbrev pub invariant-loop-row : goal.invariant-loop-row
invariant-loop-row l = l.rows ++ prefixed l.symbol (drop l.row-index l.names) ≡ prefixed l.symbol l.names
