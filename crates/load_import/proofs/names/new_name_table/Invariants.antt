use Rattle.std.proofs.Common.{◌≡◌, ◌++◌, [], drop, map, ℕ, List, length}
use Rattle.load_import.specs.Table.{put_all}
use Rattle.load_import.specs.Names.{pairs_of}
use Rattle.load_import.proofs.names.new_name_table.Given as goal

abbrev pub invariant-loop-renaming : goal.invariant-loop-renaming
invariant-loop-renaming l = put_all l.table (pairs_of (drop l.renaming-index l.renamings)) ≡ put_all [] (pairs_of l.renamings)
