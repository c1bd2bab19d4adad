use Rattle.std.proofs.Common.{◌≡◌, ℕ, ◌+◌, List, map}
use Rattle.load_files.specs.declared.found.Found.{Found}
use Rattle.load_import.specs.Turns.{turns}
use Rattle.run_prelude.specs.Prelude.{kept}
use Rattle.run_library.specs.Loaded.{expand_next, each_spent}
use Rattle.run_library.proofs.LoadedLemmas.{next_found}
use Rattle.run_library.proofs.loaded.records_behind.Given as goal

abbrev pub invariant-loop-found : goal.invariant-loop-found
invariant-loop-found g l = record {
  given : turns (next_found (kept l.implementation.prelude)) l.records l.found-iterator ≡ turns (expand_next (kept l.implementation.prelude)) l.fn.records l.fn.libraries;
  fuel : l.tally.fuel + each_spent (kept l.implementation.prelude) l.records l.found-iterator ≡ l.fn.tally.fuel + each_spent (kept l.implementation.prelude) l.fn.records (map (λ (row : List ℕ × Found). row.1) l.fn.libraries);
}
