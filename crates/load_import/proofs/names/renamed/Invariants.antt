use Rattle.std.proofs.Common.{◌≡◌, ◌++◌, [], drop, map, ℕ, List, length}
use Rattle.load_import.specs.Names.{renamed}
use Rattle.load_import.proofs.names.renamed.Given as goal

abbrev pub invariant-loop-row : goal.invariant-loop-row
invariant-loop-row l = l.rows ++ renamed l.renamings (drop l.row-index l.names) ≡ renamed l.renamings l.names
