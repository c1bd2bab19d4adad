use Rattle.std.proofs.lemmas.Result.{err_from_is_err_and}
use Rattle.run_library.specs.Records.{needed_records}
use Rattle.run_library.specs.Imports.{refer}
use Rattle.load_import.proofs.TurnLemmas.{turns_on, turns_stop, turns_end}
use Rattle.run_library.proofs.imports.refer_all.Goals as goal

pub returns-in_err-referred : goal.returns-in_err-referred
returns-in_err-referred c =
    let p = err_from_is_err_and c.from_residual.result c.from_residual.ensures.1 in
    rw (p.1, p.2) (turns_stop (refer (needed_records c.args.needed.now.records.now c.args.needed.now.marks.now)) c.args.imports.now c.loop-import.import-index c.import-item.result tt _ c.in_err-referred.field-0.0 c.loop-import-test.true c.import-item.is c.in_err-referred.ensures c.loop-import.invariant)

pub loop-import-preserved : goal.loop-import-preserved
loop-import-preserved c =
    turns_on (refer (needed_records c.args.needed.now.records.now c.args.needed.now.marks.now)) c.args.imports.now c.loop-import.import-index c.import-item.result tt _ tt c.loop-import-test.true c.import-item.is c.in_ok-referred.ensures c.loop-import.invariant

pub returns : goal.returns
returns c = turns_end (refer (needed_records c.args.needed.now.records.now c.args.needed.now.marks.now)) c.args.imports.now c.loop-import.import-index tt _ c.loop-import-test.false c.loop-import.invariant
