-- Rows that are bound one after another, and none of them is refused as a second binder.
use Rattle.std.specs.Prelude.{◌≡◌, List, [], ◌∷◌, Ok}
use Rattle.base_data.specs.declared.library.LibName.{LibName}
use Rattle.base_data.specs.declared.name.FrameNo.{FrameNo}
use Rattle.stx_tree.specs.declared.frame_row.FrameRow.{FrameRow}
use Rattle.stx_frames.specs.Rows.{Row}
use Rattle.stx_frames.specs.Scope.{Scope, bound, row_in, with_row}

-- these rows in their order, so that no two of them have one frame, symbol and marks
abbrev pub AreBound : Scope → List FrameRow → Type 0
AreBound fs [] = Unit {0}
AreBound fs (r ∷ rs) = (bound fs r.frame (row_in r) ≡ Ok (with_row fs r.frame (row_in r))) × AreBound (with_row fs r.frame (row_in r)) rs

-- frames that come of others by such binds, each in a frame of this library
pub data BindsOwn (own : LibName) (fs : Scope) : Scope → Type 0 where
  no_more : BindsOwn own fs fs
  one_more : {gs hs : Scope} (f : FrameNo) (r : Row) → BindsOwn own fs gs → f.0.library ≡ own → bound gs f r ≡ Ok hs → BindsOwn own fs hs
