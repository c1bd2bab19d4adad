use Rattle.std.specs.Prelude.{map}
use Rattle.base_bytes.specs.Codec.{some_get, optional, ◌then◌}
use Rattle.base_bytes.specs.Names.{label}
use Rattle.core_codec.specs.Code as code
use Rattle.core_code_bytes.specs.Seen.{held_there, init_part, case_part, clause_part}
use Rattle.base_bytes.proofs.Loop.{turns_as, turns, ends, is_done}
use Rattle.core_code_bytes.proofs.at.+core_read.Goals as goal

pub some_parts-returns-in_default : goal.some_parts-returns-in_default
some_parts-returns-in_default t c = ends (code.core c.args.room).get c.loop.list.value.items c.args.count c.loop.counter c.loop.left.now _ c.loop-test.true (rw c.in_default.is at c.in_ok-core.ensures) c.loop.invariant

pub some_parts-loop-preserved : goal.some_parts-loop-preserved
some_parts-loop-preserved t c =
    rw c.in_ok-add_part.ensures
    (turns (code.core c.args.room).get c.loop.list.value.items c.args.count c.loop.counter c.loop.left.now _ c.in-Some.core.value.value _ c.loop-test.true (rw c.in-Some.is at c.in_ok-core.ensures) c.loop.invariant)

pub some_parts-returns : goal.some_parts-returns
some_parts-returns t c = is_done (code.core c.args.room).get c.loop.list.value.items c.args.count c.loop.counter c.loop.left.now _ c.loop-test.false c.loop.invariant

pub some_inits-returns-in_default : goal.some_inits-returns-in_default
some_inits-returns-in_default t c = ends (label then code.core c.args.room).get (map init_part c.loop.list.value.items) c.args.count c.loop.counter c.loop.left.now _ c.loop-test.true (rw c.in_default.is at c.in_ok-init.ensures) c.loop.invariant

pub some_inits-loop-preserved : goal.some_inits-loop-preserved
some_inits-loop-preserved t c =
    rw c.in_ok-add_init.ensures
    (turns_as init_part (label then code.core c.args.room).get c.loop.list.value.items c.args.count c.loop.counter c.loop.left.now _ (record { label = c.in-Some.init.label; value = c.in-Some.init.value.value.value }) _ c.loop-test.true (rw c.in-Some.is at c.in_ok-init.ensures) c.loop.invariant)

pub some_inits-returns : goal.some_inits-returns
some_inits-returns t c = is_done (label then code.core c.args.room).get (map init_part c.loop.list.value.items) c.args.count c.loop.counter c.loop.left.now _ c.loop-test.false c.loop.invariant

pub some_cases-returns-in_default : goal.some_cases-returns-in_default
some_cases-returns-in_default t c = ends (code.formals then code.core c.args.room).get (map case_part c.loop.list.value.items) c.args.count c.loop.counter c.loop.left.now _ c.loop-test.true (rw c.in_default.is at c.in_ok-case.ensures) c.loop.invariant

pub some_cases-loop-preserved : goal.some_cases-loop-preserved
some_cases-loop-preserved t c =
    rw c.in_ok-add_case.ensures
    (turns_as case_part (code.formals then code.core c.args.room).get c.loop.list.value.items c.args.count c.loop.counter c.loop.left.now _ (record { formals = c.in-Some.case.formals.value.value; body = c.in-Some.case.body.value.value }) _ c.loop-test.true (rw c.in-Some.is at c.in_ok-case.ensures) c.loop.invariant)

pub some_cases-returns : goal.some_cases-returns
some_cases-returns t c = is_done (code.formals then code.core c.args.room).get (map case_part c.loop.list.value.items) c.args.count c.loop.counter c.loop.left.now _ c.loop-test.false c.loop.invariant

pub some_clauses-returns-in_default : goal.some_clauses-returns-in_default
some_clauses-returns-in_default t c = ends (code.pattern 2000 then optional (code.core c.args.room) then code.core c.args.room).get (map clause_part c.loop.list.value.items) c.args.count c.loop.counter c.loop.left.now _ c.loop-test.true (rw c.in_default.is at c.in_ok-clause.ensures) c.loop.invariant

pub some_clauses-loop-preserved : goal.some_clauses-loop-preserved
some_clauses-loop-preserved t c =
    rw c.in_ok-add_clause.ensures
    (turns_as clause_part (code.pattern 2000 then optional (code.core c.args.room) then code.core c.args.room).get c.loop.list.value.items c.args.count c.loop.counter c.loop.left.now _ (record { pattern = c.in-Some.clause.pattern.value.value; fender = held_there c.in-Some.clause.outcome.fender; output = c.in-Some.clause.outcome.output.value.value }) _ c.loop-test.true (rw c.in-Some.is at c.in_ok-clause.ensures) c.loop.invariant)

pub some_clauses-returns : goal.some_clauses-returns
some_clauses-returns t c = is_done (code.pattern 2000 then optional (code.core c.args.room) then code.core c.args.room).get (map clause_part c.loop.list.value.items) c.args.count c.loop.counter c.loop.left.now _ c.loop-test.false c.loop.invariant
