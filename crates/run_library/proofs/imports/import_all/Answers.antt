use Rattle.std.proofs.Common.{◌≡◌, [], refl, sym, subst}
use Rattle.std.proofs.lemmas.Result.{err_from_is_err_and}
use Rattle.load_import.specs.Sources.{AreEnough}
use Rattle.load_import.proofs.TurnLemmas.{turns_on, turns_stop, turns_end}
use Rattle.run_library.specs.Imports.{import_into}
use Rattle.run_library.specs.Listed.{AreListed}
use Rattle.run_library.specs.Records.{needed_records}
use Rattle.run_library.proofs.imports.import_all.Goals as goal

pub returns-in_err-import_into : goal.returns-in_err-import_into
returns-in_err-import_into c =
    let p = err_from_is_err_and c.from_residual.result c.from_residual.ensures.1 in
    rw (p.1, p.2) (turns_stop (import_into (needed_records c.args.needed.now.records.now c.args.needed.now.marks.now)) c.args.imports.now c.loop-import.import-index c.import-item.result c.loop-import.names _ c.in_err-import_into.field-0.0 c.loop-import-test.true c.import-item.is c.in_err-import_into.ensures.names c.loop-import.invariant.so_far)

pub loop-import-preserved : goal.loop-import-preserved
loop-import-preserved c = record {
  so_far = turns_on (import_into (needed_records c.args.needed.now.records.now c.args.needed.now.marks.now)) c.args.imports.now c.loop-import.import-index c.import-item.result c.loop-import.names _ _ c.loop-import-test.true c.import-item.is c.in_ok-import_into.ensures.names c.loop-import.invariant.so_far;
  listed = c.in_ok-import_into.ensures.listed;
  enough = c.in_ok-import_into.ensures.enough;
}

pub returns : goal.returns
returns c = turns_end (import_into (needed_records c.args.needed.now.records.now c.args.needed.now.marks.now)) c.args.imports.now c.loop-import.import-index c.loop-import.names _ c.loop-import-test.false c.loop-import.invariant.so_far
