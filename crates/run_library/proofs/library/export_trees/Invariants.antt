use Rattle.std.proofs.Common.{◌≡◌, ◌++◌, map, drop}
use Rattle.run_library.specs.Library.{export_tree}
use Rattle.run_library.proofs.library.export_trees.Given as goal

abbrev pub invariant-loop-place : goal.invariant-loop-place
invariant-loop-place l = l.trees ++ map export_tree (drop l.place l.exports) ≡ map export_tree l.exports
