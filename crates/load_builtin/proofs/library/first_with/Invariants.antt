use Rattle.std.proofs.Common.{◌≡◌, drop}
use Rattle.load_builtin.specs.Libraries.{first_with}
use Rattle.load_builtin.proofs.library.first_with.Given as goal

abbrev pub invariant-loop-library : goal.invariant-loop-library
invariant-loop-library l = first_with l.parts (drop l.library-index l.libraries) ≡ first_with l.parts l.libraries
