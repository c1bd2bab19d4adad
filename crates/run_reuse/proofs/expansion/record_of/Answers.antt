use Rattle.std.proofs.lemmas.Result.{err_from_is_err_and}
use Rattle.run_prelude.specs.Prelude.{kept}
use Rattle.run_library.proofs.LinkLemmas.{record_given, record_stops}
use Rattle.run_reuse.specs.Expansion.{body_in}
use Rattle.run_reuse.proofs.expansion.record_of.Goals as goal

pub returns-in_err-linked-clause-record : goal.returns-in_err-linked-clause-record
returns-in_err-linked-clause-record g c =
    let p = err_from_is_err_and c.from_residual.result c.from_residual.ensures.1 in
    rw (p.1, p.2) (record_stops (kept c.args.behind.now.implementation.now.prelude) c.args.behind.now.records.now c.args.found (body_in c.args.file c.args.found.opened.«data») c.in_err-linked.field-0.0 c.in_err-linked.ensures.linked)

pub returns-clause-record : goal.returns-clause-record
returns-clause-record g c =
    record_given (kept c.args.behind.now.implementation.now.prelude) c.args.behind.now.records.now c.args.found (body_in c.args.file c.args.found.opened.«data») c.in_ok-linked.linked c.without_links.result c.in_ok-linked.ensures.linked c.without_links.ensures
