use Rattle.std.proofs.Common.{◌≡◌, refl}
use Rattle.std.proofs.lemmas.Result.{err_from_is_err_and}
use Rattle.std.proofs.lemmas.List.{map-id}
use Rattle.base_data.proofs.Loops.{each_on, each_stops, each_done, gather_on, gather_stops, gather_done}
use Rattle.expand_forms.specs.Body.{finish_one}
use Rattle.expand_forms.specs.Expression.{inside, one_case, one_init, pattern_clause}
use Rattle.expand_forms.specs.Keywords.{expand_transformer_in}
use Rattle.expand_forms.specs.Quasi.{part_core}
use Rattle.expand_forms.proofs.+form.Goals as goal

pub expression::in_order-loop-form-init : goal.expression::in_order-loop-form-init
expression::in_order-loop-form-init g t c = rw (c.with_room-done.ensures, map-id c.args.forms.now) refl

pub expression::in_order-returns-in_err-core : goal.expression::in_order-returns-in_err-core
expression::in_order-returns-in_err-core g t c =
    let p = err_from_is_err_and c.from_residual.result c.from_residual.ensures.1 in
    rw (p.1, p.2) (each_stops (λ x. x) ((inside (g.M.Transformers.records c.args.at.now.means.now) c.args.at.now.room).form c.args.at.now.site.now) c.loop-form.done.items c.args.forms.now c.loop-form.form-index c.form-item.result c.loop-form.state _ c.in_err-core.field-0.0 c.loop-form-test.true c.form-item.is c.in_err-core.ensures c.loop-form.invariant)

pub expression::in_order-loop-form-preserved : goal.expression::in_order-loop-form-preserved
expression::in_order-loop-form-preserved g t c =
    rw c.in_ok-push.ensures.items (each_on (λ x. x) ((inside (g.M.Transformers.records c.args.at.now.means.now) c.args.at.now.room).form c.args.at.now.site.now) c.loop-form.done.items c.args.forms.now c.loop-form.form-index c.form-item.result c.loop-form.state _ c.in_ok-core.core c.expression.new.state c.loop-form-test.true c.form-item.is c.in_ok-core.ensures c.loop-form.invariant)

pub expression::in_order-returns : goal.expression::in_order-returns
expression::in_order-returns g t c = each_done (λ x. x) ((inside (g.M.Transformers.records c.args.at.now.means.now) c.args.at.now.room).form c.args.at.now.site.now) c.loop-form.done.items c.args.forms.now c.loop-form.form-index c.loop-form.state _ c.loop-form-test.false c.loop-form.invariant

pub expression::all_cases-loop-case-init : goal.expression::all_cases-loop-case-init
expression::all_cases-loop-case-init g t c = rw (c.with_room-done.ensures, map-id c.args.cases.now) refl

pub expression::all_cases-returns-in_err-one : goal.expression::all_cases-returns-in_err-one
expression::all_cases-returns-in_err-one g t c =
    let p = err_from_is_err_and c.from_residual.result c.from_residual.ensures.1 in
    rw (p.1, p.2) (each_stops (λ x. x) (one_case (inside (g.M.Transformers.records c.args.at.now.means.now) c.args.at.now.room) c.args.at.now.site.now c.args.form.now) c.loop-case.done.items c.args.cases.now c.loop-case.case-index c.case-item.result c.loop-case.state _ c.in_err-one.field-0.0 c.loop-case-test.true c.case-item.is (rw c.as_slice.ensures at c.in_err-one.ensures) c.loop-case.invariant)

pub expression::all_cases-loop-case-preserved : goal.expression::all_cases-loop-case-preserved
expression::all_cases-loop-case-preserved g t c =
    rw c.in_ok-push.ensures.items (each_on (λ x. x) (one_case (inside (g.M.Transformers.records c.args.at.now.means.now) c.args.at.now.room) c.args.at.now.site.now c.args.form.now) c.loop-case.done.items c.args.cases.now c.loop-case.case-index c.case-item.result c.loop-case.state _ c.in_ok-one.one c.lambda_case.new.state c.loop-case-test.true c.case-item.is (rw c.as_slice.ensures at c.in_ok-one.ensures) c.loop-case.invariant)

pub expression::all_cases-returns : goal.expression::all_cases-returns
expression::all_cases-returns g t c = each_done (λ x. x) (one_case (inside (g.M.Transformers.records c.args.at.now.means.now) c.args.at.now.room) c.args.at.now.site.now c.args.form.now) c.loop-case.done.items c.args.cases.now c.loop-case.case-index c.loop-case.state _ c.loop-case-test.false c.loop-case.invariant

pub expression::all_inits-loop-one-init : goal.expression::all_inits-loop-one-init
expression::all_inits-loop-one-init g t c = rw (c.with_room-done.ensures, map-id c.args.bound.now) refl

pub expression::all_inits-returns-in_err-init : goal.expression::all_inits-returns-in_err-init
expression::all_inits-returns-in_err-init g t c =
    let p = err_from_is_err_and c.from_residual.result c.from_residual.ensures.1 in
    rw (p.1, p.2) (each_stops (λ x. x) (one_init (inside (g.M.Transformers.records c.args.at.now.means.now) c.args.at.now.room) c.args.at.now.site.now c.args.frame.now) c.loop-one.done.items c.args.bound.now c.loop-one.one-index c.one-item.result c.loop-one.state _ c.in_err-init.field-0.0 c.loop-one-test.true c.one-item.is c.in_err-init.ensures c.loop-one.invariant)

pub expression::all_inits-loop-one-preserved : goal.expression::all_inits-loop-one-preserved
expression::all_inits-loop-one-preserved g t c =
    rw c.in_ok-push.ensures.items (each_on (λ x. x) (one_init (inside (g.M.Transformers.records c.args.at.now.means.now) c.args.at.now.room) c.args.at.now.site.now c.args.frame.now) c.loop-one.done.items c.args.bound.now c.loop-one.one-index c.one-item.result c.loop-one.state _ c.in_ok-init.init c.one_init.new.state c.loop-one-test.true c.one-item.is c.in_ok-init.ensures c.loop-one.invariant)

pub expression::all_inits-returns : goal.expression::all_inits-returns
expression::all_inits-returns g t c = each_done (λ x. x) (one_init (inside (g.M.Transformers.records c.args.at.now.means.now) c.args.at.now.room) c.args.at.now.site.now c.args.frame.now) c.loop-one.done.items c.args.bound.now c.loop-one.one-index c.loop-one.state _ c.loop-one-test.false c.loop-one.invariant

pub body::finish_all-loop-one-init : goal.body::finish_all-loop-one-init
body::finish_all-loop-one-init g t c = rw (c.new-lines.ensures.items, map-id c.args.waiting.now) refl

pub body::finish_all-returns-in_err-line : goal.body::finish_all-returns-in_err-line
body::finish_all-returns-in_err-line g t c =
    let p = err_from_is_err_and c.from_residual.result c.from_residual.ensures.1 in
    rw (p.1, p.2) (each_stops (λ x. x) (finish_one (inside (g.M.Transformers.records c.args.at.now.means.now) c.args.at.now.room) c.args.at.now.site.now.level) c.loop-one.lines.items c.args.waiting.now c.loop-one.one-index c.one-item.result c.loop-one.state _ c.in_err-line.field-0.0 c.loop-one-test.true c.one-item.is c.in_err-line.ensures c.loop-one.invariant)

pub body::finish_all-loop-one-preserved : goal.body::finish_all-loop-one-preserved
body::finish_all-loop-one-preserved g t c =
    rw c.in_ok-push.ensures.items (each_on (λ x. x) (finish_one (inside (g.M.Transformers.records c.args.at.now.means.now) c.args.at.now.room) c.args.at.now.site.now.level) c.loop-one.lines.items c.args.waiting.now c.loop-one.one-index c.one-item.result c.loop-one.state _ c.in_ok-line.line c.finish_one.new.state c.loop-one-test.true c.one-item.is c.in_ok-line.ensures c.loop-one.invariant)

pub body::finish_all-returns : goal.body::finish_all-returns
body::finish_all-returns g t c = each_done (λ x. x) (finish_one (inside (g.M.Transformers.records c.args.at.now.means.now) c.args.at.now.room) c.args.at.now.site.now.level) c.loop-one.lines.items c.args.waiting.now c.loop-one.one-index c.loop-one.state _ c.loop-one-test.false c.loop-one.invariant

pub body::splice-loop-form-init : goal.body::splice-loop-form-init
body::splice-loop-form-init g t c = rw (map-id c.args.forms.now) refl

pub body::splice-returns-in_err-item : goal.body::splice-returns-in_err-item
body::splice-returns-in_err-item g t c =
    let p = err_from_is_err_and c.from_residual.result c.from_residual.ensures.1 in
    rw (p.1, p.2) (gather_stops (λ x. x) ((inside (g.M.Transformers.records c.args.at.now.means.now) c.args.at.now.room).item c.args.at.now.body.now c.args.at.now.depth) c.args.forms.now c.loop-form.form-index c.form-item.result c.loop-form.taken c.loop-form.state _ c.in_err-item.field-0.0 c.loop-form-test.true c.form-item.is c.in_err-item.ensures c.loop-form.invariant)

pub body::splice-loop-form-preserved : goal.body::splice-loop-form-preserved
body::splice-loop-form-preserved g t c =
    gather_on (λ x. x) ((inside (g.M.Transformers.records c.args.at.now.means.now) c.args.at.now.room).item c.args.at.now.body.now c.args.at.now.depth) c.args.forms.now c.loop-form.form-index c.form-item.result c.loop-form.taken c.loop-form.state _ c.item.new.taken c.item.new.state c.loop-form-test.true c.form-item.is c.in_ok-item.ensures c.loop-form.invariant

pub body::splice-returns : goal.body::splice-returns
body::splice-returns g t c = gather_done (λ x. x) ((inside (g.M.Transformers.records c.args.at.now.means.now) c.args.at.now.room).item c.args.at.now.body.now c.args.at.now.depth) c.args.forms.now c.loop-form.form-index c.loop-form.taken c.loop-form.state _ c.loop-form-test.false c.loop-form.invariant

pub keywords::expand_transformers-loop-one-init : goal.keywords::expand_transformers-loop-one-init
keywords::expand_transformers-loop-one-init g t c = rw (map-id c.args.bound.now) refl

pub keywords::expand_transformers-returns-in_err-expand_transformer_in : goal.keywords::expand_transformers-returns-in_err-expand_transformer_in
keywords::expand_transformers-returns-in_err-expand_transformer_in g t c =
    let p = err_from_is_err_and c.from_residual.result c.from_residual.ensures.1 in
    rw (p.1, p.2) (gather_stops (λ x. x) (expand_transformer_in (inside (g.M.Transformers.records c.args.at.now.means.now) c.args.at.now.room) c.args.at.now.site.now c.args.scope.now.recursive c.args.scope.now.frame.now) c.args.bound.now c.loop-one.one-index c.one-item.result tt c.loop-one.state _ c.in_err-expand_transformer_in.field-0.0 c.loop-one-test.true c.one-item.is c.in_err-expand_transformer_in.ensures c.loop-one.invariant)

pub keywords::expand_transformers-loop-one-preserved : goal.keywords::expand_transformers-loop-one-preserved
keywords::expand_transformers-loop-one-preserved g t c =
    gather_on (λ x. x) (expand_transformer_in (inside (g.M.Transformers.records c.args.at.now.means.now) c.args.at.now.room) c.args.at.now.site.now c.args.scope.now.recursive c.args.scope.now.frame.now) c.args.bound.now c.loop-one.one-index c.one-item.result tt c.loop-one.state _ tt c.expand_transformer_in.new.state c.loop-one-test.true c.one-item.is c.in_ok-expand_transformer_in.ensures c.loop-one.invariant

pub keywords::expand_transformers-returns : goal.keywords::expand_transformers-returns
keywords::expand_transformers-returns g t c = gather_done (λ x. x) (expand_transformer_in (inside (g.M.Transformers.records c.args.at.now.means.now) c.args.at.now.room) c.args.at.now.site.now c.args.scope.now.recursive c.args.scope.now.frame.now) c.args.bound.now c.loop-one.one-index tt c.loop-one.state _ c.loop-one-test.false c.loop-one.invariant

pub patterns::all_clauses-loop-case-init : goal.patterns::all_clauses-loop-case-init
patterns::all_clauses-loop-case-init g t c = rw (c.new-done.ensures.items, map-id c.args.cases.now) refl

pub patterns::all_clauses-returns-in_err-one : goal.patterns::all_clauses-returns-in_err-one
patterns::all_clauses-returns-in_err-one g t c =
    let p = err_from_is_err_and c.from_residual.result c.from_residual.ensures.1 in
    rw (p.1, p.2) (each_stops (λ x. x) (pattern_clause (inside (g.M.Transformers.records c.args.at.now.means.now) c.args.at.now.room) c.args.at.now.site.now c.args.literals.now) c.loop-case.done.items c.args.cases.now c.loop-case.case-index c.case-item.result c.loop-case.state _ c.in_err-one.field-0.0 c.loop-case-test.true c.case-item.is c.in_err-one.ensures c.loop-case.invariant)

pub patterns::all_clauses-loop-case-preserved : goal.patterns::all_clauses-loop-case-preserved
patterns::all_clauses-loop-case-preserved g t c =
    rw c.in_ok-push.ensures.items (each_on (λ x. x) (pattern_clause (inside (g.M.Transformers.records c.args.at.now.means.now) c.args.at.now.room) c.args.at.now.site.now c.args.literals.now) c.loop-case.done.items c.args.cases.now c.loop-case.case-index c.case-item.result c.loop-case.state _ c.in_ok-one.one c.pattern_clause.new.state c.loop-case-test.true c.case-item.is c.in_ok-one.ensures c.loop-case.invariant)

pub patterns::all_clauses-returns : goal.patterns::all_clauses-returns
patterns::all_clauses-returns g t c = each_done (λ x. x) (pattern_clause (inside (g.M.Transformers.records c.args.at.now.means.now) c.args.at.now.room) c.args.at.now.site.now c.args.literals.now) c.loop-case.done.items c.args.cases.now c.loop-case.case-index c.loop-case.state _ c.loop-case-test.false c.loop-case.invariant

pub quasi::parts_in_order-loop-part-init : goal.quasi::parts_in_order-loop-part-init
quasi::parts_in_order-loop-part-init g t c = rw (c.new-done.ensures.items, map-id c.args.parts.now) refl

pub quasi::parts_in_order-returns-in_err-core : goal.quasi::parts_in_order-returns-in_err-core
quasi::parts_in_order-returns-in_err-core g t c =
    let p = err_from_is_err_and c.from_residual.result c.from_residual.ensures.1 in
    rw (p.1, p.2) (each_stops (λ x. x) (part_core (inside (g.M.Transformers.records c.args.at.now.means.now) c.args.at.now.room) c.args.at.now.site.now.place c.args.at.now.site.now.level) c.loop-part.done.items c.args.parts.now c.loop-part.part-index c.part-item.result c.loop-part.state _ c.in_err-core.field-0.0 c.loop-part-test.true c.part-item.is (rw c.at_depth-site.ensures at c.in_err-core.ensures) c.loop-part.invariant)

pub quasi::parts_in_order-loop-part-preserved : goal.quasi::parts_in_order-loop-part-preserved
quasi::parts_in_order-loop-part-preserved g t c =
    rw c.in_ok-push.ensures.items (each_on (λ x. x) (part_core (inside (g.M.Transformers.records c.args.at.now.means.now) c.args.at.now.room) c.args.at.now.site.now.place c.args.at.now.site.now.level) c.loop-part.done.items c.args.parts.now c.loop-part.part-index c.part-item.result c.loop-part.state _ c.in_ok-core.core c.expression.new.state c.loop-part-test.true c.part-item.is (rw c.at_depth-site.ensures at c.in_ok-core.ensures) c.loop-part.invariant)

pub quasi::parts_in_order-returns : goal.quasi::parts_in_order-returns
quasi::parts_in_order-returns g t c = each_done (λ x. x) (part_core (inside (g.M.Transformers.records c.args.at.now.means.now) c.args.at.now.room) c.args.at.now.site.now.place c.args.at.now.site.now.level) c.loop-part.done.items c.args.parts.now c.loop-part.part-index c.loop-part.state _ c.loop-part-test.false c.loop-part.invariant
