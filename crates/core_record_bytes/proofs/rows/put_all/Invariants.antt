use Rattle.std.proofs.Common.{◌≡◌, ◌++◌, take, true}
use Rattle.std.specs.List.{flat_map, list_all}
use Rattle.core_codec.specs.Contexts.{frame_row}
use Rattle.core_record_bytes.proofs.rows.put_all.Given as goal

abbrev pub invariant-loop-row : goal.invariant-loop-row
invariant-loop-row l = (l.out.items ≡ l.initial.out.items ++ flat_map (frame_row).put (take l.row-index l.rows)) × (list_all (frame_row).fits (take l.row-index l.rows) ≡ true)
