use Rattle.std.proofs.Common.{◌≡◌, drop}
use Rattle.load_files.specs.Found.{places_from}
use Rattle.expand_standing.specs.Start.{records_at}
use Rattle.run_library.specs.Imports.{named}
use Rattle.run_library.specs.Records.{needed_records}
use Rattle.run_library.proofs.records.Records.sought.Given as goal

abbrev pub invariant-loop-place : goal.invariant-loop-place
invariant-loop-place l = named l.name (records_at l.self (places_from l.place (drop l.place l.needs))) ≡ named l.name (needed_records l.self l.needs)
