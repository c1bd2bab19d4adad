use Rattle.std.proofs.Common.{◌≡◌, map, take}
use Rattle.expand_standing.specs.Start.{import_row}
use Rattle.expand_standing.proofs.start.import_rows.Given as goal

abbrev pub invariant-loop-import : goal.invariant-loop-import
invariant-loop-import l = l.rows.items ≡ map (import_row l.frame) (take l.import-index l.imports)
