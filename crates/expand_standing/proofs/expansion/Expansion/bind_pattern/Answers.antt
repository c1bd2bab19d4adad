use Rattle.std.proofs.Common.{refl}
use Rattle.std.proofs.lemmas.Result.{err_from_is_err_and}
use Rattle.std.proofs.lemmas.List.{map-id}
use Rattle.base_data.proofs.Loops.{gather_on, gather_stops, gather_done}
use Rattle.expand_standing.specs.Patterns.{bind_next}
use Rattle.expand_standing.proofs.expansion.Expansion.bind_pattern.Goals as goal

pub loop-variable-init : goal.loop-variable-init
loop-variable-init g c = rw (map-id c.args.variables.now) refl

pub returns-in_err-bind_pattern_variable : goal.returns-in_err-bind_pattern_variable
returns-in_err-bind_pattern_variable g c =
    let p = err_from_is_err_and c.from_residual.result c.from_residual.ensures.1 in
    rw (p.1, p.2) (gather_stops (λ v. v) (bind_next c.args.context.now.frame.now c.args.context.now.place.now c.args.context.now.level) c.args.variables.now c.loop-variable.variable-index c.variable-item.result tt c.loop-variable.self _ c.in_err-bind_pattern_variable.field-0.0 c.loop-variable-test.true c.variable-item.is c.in_err-bind_pattern_variable.ensures c.loop-variable.invariant)

pub loop-variable-preserved : goal.loop-variable-preserved
loop-variable-preserved g c =
    gather_on (λ v. v) (bind_next c.args.context.now.frame.now c.args.context.now.place.now c.args.context.now.level) c.args.variables.now c.loop-variable.variable-index c.variable-item.result tt c.loop-variable.self _ tt c.bind_pattern_variable.new.self c.loop-variable-test.true c.variable-item.is c.in_ok-bind_pattern_variable.ensures c.loop-variable.invariant

pub returns : goal.returns
returns g c = gather_done (λ v. v) (bind_next c.args.context.now.frame.now c.args.context.now.place.now c.args.context.now.level) c.args.variables.now c.loop-variable.variable-index tt c.loop-variable.self _ c.loop-variable-test.false c.loop-variable.invariant
