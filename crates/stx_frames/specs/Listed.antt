-- The rows of a library's frames as one list: by frame, and then in the order of binding.
use Rattle.std.specs.Prelude.{◌≡◌, ◌≤◌, ℕ, List, [], ◌∷◌, ◌++◌, if◌then◌else◌}
use Rattle.std.specs.BTreeMap.{insert_entry}
use Rattle.std.specs.Ordering.{nat_cmp}
use Rattle.base_data.specs.Same.{same_library}
use Rattle.base_data.specs.declared.library.LibName.{LibName}
use Rattle.base_data.specs.declared.name.FrameNo.{FrameNo}
use Rattle.stx_tree.specs.declared.frame_row.FrameRow.{FrameRow}
use Rattle.stx_frames.specs.Rows.{Row}
use Rattle.stx_frames.specs.Scope.{Scope}

abbrev pub row_from : FrameNo → Row → FrameRow
row_from f r = record { frame = f; symbol = r.symbol; marks = r.marks; label = r.label }

abbrev pub rows_from : FrameNo → List Row → List FrameRow
rows_from f [] = []
rows_from f (r ∷ rs) = row_from f r ∷ rows_from f rs

-- the rows of a frame of the library, at the frame's number
abbrev pub put_place : LibName → FrameNo × List Row → List (ℕ × List FrameRow) → List (ℕ × List FrameRow)
put_place l e places = if same_library e.0.0.library l then insert_entry nat_cmp places e.0.0.number (rows_from e.0 e.1) else places

-- the rows of each frame of the library, by number
abbrev pub placed : LibName → Scope → List (ℕ × List FrameRow)
placed l [] = []
placed l (e ∷ es) = put_place l e (placed l es)

abbrev pub joined : List (ℕ × List FrameRow) → List FrameRow
joined [] = []
joined (p ∷ ps) = p.1 ++ joined ps

abbrev pub rows_in : LibName → Scope → List FrameRow
rows_in l fs = joined (placed l fs)

-- all of the library, and none of a frame before that of an earlier one
abbrev pub AreOrdered : LibName → ℕ → List FrameRow → Type 0
AreOrdered l n [] = Unit {0}
AreOrdered l n (r ∷ rs) = (r.frame.0.library ≡ l) × (n ≤ r.frame.0.number) × AreOrdered l r.frame.0.number rs
