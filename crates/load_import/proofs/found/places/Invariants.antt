use Rattle.std.proofs.Common.{◌≡◌, ◌++◌, drop}
use Rattle.load_import.specs.Shared.{places_of}
use Rattle.load_import.proofs.found.places.Given as goal

abbrev pub invariant-loop-id : goal.invariant-loop-id
invariant-loop-id l = l.places ++ places_of (drop l.id-index l.ids) l.names ≡ places_of l.ids l.names
