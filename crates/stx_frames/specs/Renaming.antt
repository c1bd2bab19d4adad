-- Frames with their marks under other names.
use Rattle.std.specs.Prelude.{List, map}
use Rattle.base_data.specs.declared.name.FrameNo.{FrameNo}
use Rattle.base_data.specs.declared.name.Mark.{Mark}
use Rattle.stx_frames.specs.Rows.{Row}
use Rattle.stx_frames.specs.Scope.{Scope}

abbrev pub renamed_row : (Mark → Mark) → Row → Row
renamed_row r row = record { symbol = row.symbol; marks = map r row.marks; label = row.label }

abbrev pub renamed_frame : (Mark → Mark) → FrameNo × List Row → FrameNo × List Row
renamed_frame r e = (e.0, map (renamed_row r) e.1)

abbrev pub renamed_scope : (Mark → Mark) → Scope → Scope
renamed_scope r fs = map (renamed_frame r) fs
