-- Rows that are adopted one after another, and those of a frame that is new.
use Rattle.std.specs.Prelude.{◌≡◌, true, false, cond, List, [], ◌∷◌, ◌++◌, map, refl}
use Rattle.std.proofs.Common.{◌∙◌, ap}
use Rattle.base_data.specs.declared.imported_name.ImportedName.{ImportedName}
use Rattle.base_data.specs.declared.name.FrameNo.{FrameNo}
use Rattle.stx_tree.specs.declared.frame_row.FrameRow.{FrameRow}
use Rattle.stx_frames.specs.Scope.{Scope, has_frame, with_row, row_in, adopted, are_new}
use Rattle.expand_standing.specs.Start.{import_row}

pub adopted_append : (fs : Scope) (xs ys : List FrameRow) → adopted fs (xs ++ ys) ≡ adopted (adopted fs xs) ys
adopted_append fs [] ys = refl
adopted_append fs (x ∷ xs) ys = adopted_append (with_row fs x.frame (row_in x)) xs ys

-- the rows of a frame that is new
pub imports-new : (f : FrameNo) (ns : List ImportedName) (fs : Scope) → has_frame f fs ≡ false → are_new (map (import_row f) ns) fs ≡ true
imports-new f [] fs h = refl
imports-new f (n ∷ ns) fs h = ap (λ b. cond b false (are_new (map (import_row f) ns) fs)) h ∙ imports-new f ns fs h
