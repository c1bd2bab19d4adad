use Rattle.std.proofs.Common.{◌≡◌, drop}
use Rattle.load_import.specs.Turns.{turns}
use Rattle.run_library.specs.Records.{needed_records}
use Rattle.run_library.specs.Imports.{refer}
use Rattle.run_library.proofs.imports.refer_all.Given as goal

abbrev pub invariant-loop-import : goal.invariant-loop-import
invariant-loop-import l = turns (refer (needed_records l.needed.records.now l.needed.marks.now)) tt (drop l.import-index l.imports) ≡ turns (refer (needed_records l.needed.records.now l.needed.marks.now)) tt l.imports
