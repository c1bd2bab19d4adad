use Rattle.std.proofs.Common.{◌≡◌, ◌++◌, map, drop}
use Rattle.run_derived.specs.Derived.{relabelled_in}
use Rattle.run_library.proofs.imports.all_relabelled.Given as goal

abbrev pub invariant-loop-name : goal.invariant-loop-name
invariant-loop-name l = l.all ++ map (λ e. relabelled_in l.derived e) (drop l.name-index l.names) ≡ map (λ e. relabelled_in l.derived e) l.names
