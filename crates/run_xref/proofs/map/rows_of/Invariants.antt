use Rattle.std.proofs.Common.{◌≡◌, map, take}
use Rattle.run_xref.specs.Binders.{row_by}
use Rattle.run_xref.proofs.map.rows_of.Given as goal

abbrev pub invariant-loop-link : goal.invariant-loop-link
invariant-loop-link l = l.rows ≡ map (row_by l.files l.binders.entries) (take l.link-index l.links)
