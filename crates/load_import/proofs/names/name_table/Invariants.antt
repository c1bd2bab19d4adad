use Rattle.std.proofs.Common.{◌≡◌, ◌++◌, [], drop, map, ℕ, List, length}
use Rattle.load_import.specs.Names.{put_each}
use Rattle.load_import.proofs.names.name_table.Given as goal

abbrev pub invariant-loop-row : goal.invariant-loop-row
invariant-loop-row l = put_each l.table (drop l.row-index l.names) ≡ put_each [] l.names
