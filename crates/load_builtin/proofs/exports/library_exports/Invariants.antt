use Rattle.std.proofs.Common.{◌≡◌, ◌++◌, map, drop}
use Rattle.std.specs.List.{flat_map}
use Rattle.load_builtin.specs.Libraries.{run_numbers, library_numbers}
use Rattle.load_builtin.specs.Exports.{export}
use Rattle.load_builtin.proofs.exports.library_exports.Given as goal

abbrev pub invariant-loop-run : goal.invariant-loop-run
invariant-loop-run l = l.names ++ map export (flat_map run_numbers (drop l.run-index l.run-items)) ≡ map export (library_numbers l.fn.library)
