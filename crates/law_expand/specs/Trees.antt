-- Trees whose stamps name certain frames.
use Rattle.std.specs.Prelude.{List}
use Rattle.base_data.specs.Elements.{Each}
use Rattle.base_data.specs.declared.name.FrameNo.{FrameNo}
use Rattle.stx_tree.specs.Tree.{Tree, atom, leaf, pair, vector}
use Rattle.stx_tree.specs.declared.stamp.Stamp.{Stamp}

abbrev pub StampsAre : (FrameNo → Type 0) → List Stamp → Type 0
StampsAre P ts = Each (λ (t : Stamp). P t.frame) ts

-- each stamp of each leaf names such a frame
abbrev pub LeavesAre : (FrameNo → Type 0) → Tree → Type 0
LeavesAre P (atom s a) = Unit {0}
LeavesAre P (leaf s x c) = StampsAre P c.stamps
LeavesAre P (pair s a d) = LeavesAre P a × LeavesAre P d
LeavesAre P (vector s d) = LeavesAre P d
