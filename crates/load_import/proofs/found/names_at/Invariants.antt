use Rattle.std.proofs.Common.{◌≡◌, ◌++◌, drop}
use Rattle.load_import.specs.Shared.{names_at}
use Rattle.load_import.proofs.found.names_at.Given as goal

abbrev pub invariant-loop-place : goal.invariant-loop-place
invariant-loop-place l = l.rows ++ names_at l.names (drop l.place-index l.places) ≡ names_at l.names l.places
