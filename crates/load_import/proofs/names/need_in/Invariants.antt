use Rattle.std.proofs.Common.{◌≡◌, ◌++◌, [], drop, map, ℕ, List, length}
use Rattle.std.specs.List.{find}
use Rattle.load_import.proofs.NameLemmas.{is_absent}
use Rattle.load_import.proofs.names.need_in.Given as goal

abbrev pub invariant-loop-id : goal.invariant-loop-id
invariant-loop-id l = find (is_absent l.table) (drop l.id-index l.ids) ≡ find (is_absent l.table) l.ids
