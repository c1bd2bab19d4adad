-- Those stamps that count for one who knows of one library which of its frames do.
use Rattle.std.specs.Prelude.{Bool, true, List, if◌then◌else◌}
use Rattle.std.specs.List.{list_any}
use Rattle.base_data.specs.Same.{same_library, same_name}
use Rattle.base_data.specs.declared.library.LibName.{LibName}
use Rattle.base_data.specs.declared.name.FrameNo.{FrameNo}
use Rattle.stx_tree.specs.declared.stamp.Stamp.{Stamp}

-- whether a stamp is of another library, or has one of these frames
abbrev pub is_for : LibName → List FrameNo → Stamp → Bool
is_for l fs t = if same_library t.frame.0.library l then list_any (λ f. same_name f.0 t.frame.0) fs else true
