use Rattle.std.proofs.Common.{◌≡◌, [], drop}
use Rattle.load_import.specs.Sources.{AreEnough}
use Rattle.load_import.specs.Turns.{turns}
use Rattle.run_library.specs.Imports.{import_into}
use Rattle.run_library.specs.Listed.{AreListed}
use Rattle.run_library.specs.Records.{needed_records}
use Rattle.run_library.proofs.imports.import_all.Given as goal

abbrev pub invariant-loop-import : goal.invariant-loop-import
invariant-loop-import l = record {
  so_far : turns (import_into (needed_records l.needed.records.now l.needed.marks.now)) l.names (drop l.import-index l.imports) ≡ turns (import_into (needed_records l.needed.records.now l.needed.marks.now)) [] l.imports;
  listed : AreListed (needed_records l.needed.records.now l.needed.marks.now) l.sources.entries;
  enough : AreEnough l.names l.sources.entries;
}
