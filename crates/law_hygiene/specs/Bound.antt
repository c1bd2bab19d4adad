-- What a bind changes for a leaf.
use Rattle.std.specs.Prelude.{◌≡◌, ◌≢◌, List, [], ◌∷◌, ◌++◌, None}
use Rattle.base_data.specs.declared.name.FrameNo.{FrameNo}
use Rattle.base_data.specs.declared.name.Mark.{Mark}
use Rattle.stx_tree.specs.Leaves.{stamps_of}
use Rattle.stx_tree.specs.Tree.{Tree}
use Rattle.stx_tree.specs.declared.stamp.Stamp.{Stamp}
use Rattle.stx_frames.specs.Rows.{Row}
use Rattle.stx_frames.specs.Scope.{Scope, with_row}
use Rattle.stx_scope.specs.Stands.{symbol_of, stands}
use Rattle.law_hygiene.specs.Binder.{row_by, binder_of, Captures}

-- none of these stamps is of this frame at these marks
abbrev pub StampedElsewhere : FrameNo → List Mark → List Stamp → Type 0
StampedElsewhere f ms [] = Unit {0}
StampedElsewhere f ms (t ∷ ts) = (t.frame ≡ f → t.marks ≢ ms) × StampedElsewhere f ms ts

-- A row more in a frame changes what captures a leaf only where the leaf has a stamp of that frame at the row's marks, whatever its
-- other stamps, and has the row's symbol. There the row captures it, unless that stamp or a newer one finds a row without it.
pub record BindsWhereStamped : Type 0 where
  pub elsewhere : (fs : Scope) (f : FrameNo) (r : Row) (t : Tree) → StampedElsewhere f r.marks (stamps_of t) → binder_of (with_row fs f r) t ≡ binder_of fs t
  pub other_symbol : (fs : Scope) (f : FrameNo) (r : Row) (t : Tree) → symbol_of t ≢ r.symbol → binder_of (with_row fs f r) t ≡ binder_of fs t
  pub label : (fs : Scope) (f : FrameNo) (r : Row) (t : Tree) → StampedElsewhere f r.marks (stamps_of t) → stands (with_row fs f r) t ≡ stands fs t
  pub there : (fs : Scope) (f : FrameNo) (r : Row) (t : Tree) (early late : List Stamp) → symbol_of t ≡ r.symbol →
      stamps_of t ≡ early ++ record { frame = f; marks = r.marks } ∷ late → row_by fs r.symbol (early ++ record { frame = f; marks = r.marks } ∷ []) ≡ None →
      Captures (with_row fs f r) r t
