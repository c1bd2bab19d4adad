use Rattle.std.proofs.Common.{◌≡◌, refl}
use Rattle.std.proofs.lemmas.Result.{err_from_is_err_and}
use Rattle.std.proofs.lemmas.List.{map-id}
use Rattle.base_data.proofs.Loops.{each_on, each_stops, each_done}
use Rattle.expand_quasi.specs.Inserted.{insert_variable}
use Rattle.expand_quasi.proofs.inserted.insert_variables.Goals as goal

pub loop-insert-init : goal.loop-insert-init
loop-insert-init g c = rw (c.new-done.ensures, map-id c.args.inserts.now) refl

pub returns-in_err-one : goal.returns-in_err-one
returns-in_err-one g c =
    let p = err_from_is_err_and c.from_residual.result c.from_residual.ensures.1 in
    rw (p.1, p.2) (each_stops (λ i. i) insert_variable c.loop-insert.done c.args.inserts.now c.loop-insert.insert-index c.insert-item.result c.loop-insert.state _ c.in_err-one.field-0.0 c.loop-insert-test.true c.insert-item.is c.in_err-one.ensures c.loop-insert.invariant)

pub loop-insert-preserved : goal.loop-insert-preserved
loop-insert-preserved g c =
    rw c.in_ok-push.ensures.ok (each_on (λ i. i) insert_variable c.loop-insert.done c.args.inserts.now c.loop-insert.insert-index c.insert-item.result c.loop-insert.state _ c.in_ok-one.one c.insert_variable.new.state c.loop-insert-test.true c.insert-item.is c.in_ok-one.ensures c.loop-insert.invariant)

pub returns : goal.returns
returns g c = each_done (λ i. i) insert_variable c.loop-insert.done c.args.inserts.now c.loop-insert.insert-index c.loop-insert.state _ c.loop-insert-test.false c.loop-insert.invariant
