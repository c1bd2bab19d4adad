-- Stamps that don't name a frame.
use Rattle.std.specs.Prelude.{◌≢◌, List, [], ◌∷◌}
use Rattle.base_data.specs.declared.name.FrameNo.{FrameNo}
use Rattle.stx_tree.specs.declared.stamp.Stamp.{Stamp}

abbrev pub Avoids : FrameNo → List Stamp → Type 0
Avoids f [] = Unit {0}
Avoids f (t ∷ ts) = (t.frame ≢ f) × Avoids f ts
