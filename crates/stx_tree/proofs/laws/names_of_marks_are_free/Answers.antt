use Rattle.std.proofs.Common.{◌∷◌, []}
use Rattle.stx_tree.specs.declared.change.Change.TheVariants.{Enter, Leave, Stamp}
use Rattle.stx_tree.proofs.RenamingLaws.{renamed-changed}
use Rattle.stx_tree.proofs.laws.names_of_marks_are_free.Goals as goal

pub returns : goal.returns
returns c = record {
  changes = renamed-changed;
  enter = λ r one m t. renamed-changed r one (Enter m ∷ []) t;
  leave = λ r one m f t. renamed-changed r one (Leave m f ∷ []) t;
  stamp = λ r one f t. renamed-changed r one (Stamp f ∷ []) t;
}
