use Rattle.std.proofs.Common.{◌≡◌, ℕ, ◌+◌, List, map}
use Rattle.load_files.specs.declared.found.Found.{Found}
use Rattle.load_import.specs.Turns.{turns}
use Rattle.run_prelude.specs.Prelude.{kept}
use Rattle.run_library.specs.Loaded.{link_next, each_spent}
use Rattle.run_library.proofs.LinkLemmas.{next_linked}
use Rattle.run_library.proofs.loaded.linked_behind.Given as goal

abbrev pub invariant-loop-found : goal.invariant-loop-found
invariant-loop-found g l = record {
  given : turns (next_linked (kept l.implementation.prelude)) l.all l.found-iterator ≡ turns (link_next (kept l.implementation.prelude)) l.fn.all l.fn.libraries;
  fuel : l.tally.fuel + each_spent (kept l.implementation.prelude) l.all.records l.found-iterator ≡ l.fn.tally.fuel + each_spent (kept l.implementation.prelude) l.fn.all.records (map (λ (row : List ℕ × Found). row.1) l.fn.libraries);
}
