use Rattle.std.proofs.Common.{◌≡◌, ◌++◌, drop}
use Rattle.std.specs.Prelude.{slice_get}
use Rattle.std.specs.List.{flat_map}
use Rattle.load_files.specs.Found.{places_from}
use Rattle.run_reuse.specs.Groups.{places_if}
use Rattle.run_reuse.proofs.groups.add_marked.Given as goal

abbrev pub invariant-loop-place : goal.invariant-loop-place
invariant-loop-place l = l.all ++ flat_map (λ p. places_if (slice_get l.groups p)) (places_from l.place (drop l.place l.marks)) ≡ l.fn.all ++ flat_map (λ p. places_if (slice_get l.groups p)) (places_from 0 l.marks)
