use Rattle.std.proofs.Common.{◌≡◌, ◌++◌, [], drop, map, ℕ, List, length}
use Rattle.load_import.specs.Table.{put_all}
use Rattle.load_import.proofs.NameLemmas.{asked_for}
use Rattle.load_import.proofs.names.id_table.Given as goal

abbrev pub invariant-loop-id : goal.invariant-loop-id
invariant-loop-id l = put_all l.table (asked_for (drop l.id-index l.ids)) ≡ put_all [] (asked_for l.ids)
