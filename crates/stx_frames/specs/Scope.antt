-- Frames as a map to lists of rows, and the labels that stamps find there.
use Rattle.std.specs.Prelude.{ℕ, Bool, true, false, List, [], ◌∷◌, ◌++◌, Option, None, Some, is_some, Result, Ok, Err, if◌then◌else◌}
use Rattle.std.specs.Coded.{Coded, coded×, coded_list}
use Rattle.base_data.specs.Same.{same_name}
use Rattle.base_data.specs.declared.fault.Bare.{Bare}
use Rattle.base_data.specs.declared.name.FrameNo.{FrameNo}
use Rattle.base_data.specs.declared.name.Label.{Label}
use Rattle.base_data.specs.declared.name.Mark.{Mark}
use Rattle.base_data.specs.contracts.name.FrameNo as frames
use Rattle.stx_tree.specs.declared.frame_row.FrameRow.{FrameRow}
use Rattle.stx_tree.specs.declared.stamp.Stamp.{Stamp}
use Rattle.stx_frames.specs.Rows.{Row, row_code, label_in, second_binder}

-- each frame with its rows; of two entries for one frame the first counts
abbrev pub Scope : Type 0
Scope = List (FrameNo × List Row)

abbrev pub scope_code : Coded Scope
scope_code = coded_list (coded× frames.the_row.coded (coded_list row_code))

abbrev pub same_frame : FrameNo → FrameNo → Bool
same_frame f g = same_name f.0 g.0

abbrev pub has_frame : FrameNo → Scope → Bool
has_frame f [] = false
has_frame f (e ∷ es) = if same_frame f e.0 then true else has_frame f es

-- the rows of a frame, and none where it isn't there
abbrev pub rows_at : FrameNo → Scope → List Row
rows_at f [] = []
rows_at f (e ∷ es) = if same_frame f e.0 then e.1 else rows_at f es

-- the label that a frame has for a symbol and marks
abbrev pub label_at : Scope → FrameNo → List ℕ → List Mark → Option Label
label_at fs f s ms = label_in (rows_at f fs) s ms

abbrev pub or_else : {A : Type 0} → Option A → Option A → Option A
or_else None o = o
or_else (Some x) o = Some x

-- the label that the first stamp gives for which its frame has the symbol and the marks at stamping
abbrev pub label_by : Scope → List ℕ → List Stamp → Option Label
label_by fs s [] = None
label_by fs s (t ∷ ts) = or_else (label_at fs t.frame s t.marks) (label_by fs s ts)

-- the row at the end of its frame's rows
abbrev pub with_row : Scope → FrameNo → Row → Scope
with_row [] f r = (f, r ∷ []) ∷ []
with_row (e ∷ es) f r = if same_frame f e.0 then (e.0, e.1 ++ r ∷ []) ∷ es else e ∷ with_row es f r

-- the row bound, where its frame has none of its symbol and marks
abbrev pub bound : Scope → FrameNo → Row → Result Scope Bare
bound fs f r = if is_some (label_at fs f r.symbol r.marks) then Err (second_binder r.symbol) else Ok (with_row fs f r)

abbrev pub row_in : FrameRow → Row
row_in r = record { symbol = r.symbol; marks = r.marks; label = r.label }

-- the rows bound in their order
abbrev pub adopted : Scope → List FrameRow → Scope
adopted fs [] = fs
adopted fs (r ∷ rs) = adopted (with_row fs r.frame (row_in r)) rs

-- whether no row is of a frame that is there
abbrev pub are_new : List FrameRow → Scope → Bool
are_new [] fs = true
are_new (r ∷ rs) fs = if has_frame r.frame fs then false else are_new rs fs
