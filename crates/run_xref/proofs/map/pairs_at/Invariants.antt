use Rattle.std.proofs.Common.{◌≡◌, map, take}
use Rattle.run_xref.specs.Rows.{pair_at}
use Rattle.run_xref.proofs.map.pairs_at.Given as goal

abbrev pub invariant-loop-row : goal.invariant-loop-row
invariant-loop-row l = l.pairs ≡ map (pair_at l.files) (take l.row-index l.rows)
