use Rattle.std.proofs.Common.{◌≡◌}
use Rattle.base_bytes.specs.Codec.{some_get}
use Rattle.core_codec.specs.Code as spell
use Rattle.base_bytes.proofs.Loop.{turns, ends, is_done}
use Rattle.core_pattern_bytes.proofs.patterns.+pattern_read.Goals as goal

pub some_patterns-returns-in_default : goal.some_patterns-returns-in_default
some_patterns-returns-in_default t c = ends (spell.pattern c.args.room).get c.loop.list.value.items c.args.count c.loop.counter c.loop.rest.now _ c.loop-test.true (rw c.in_default.is at c.in_ok-pattern.ensures) c.loop.invariant

pub some_patterns-loop-preserved : goal.some_patterns-loop-preserved
some_patterns-loop-preserved t c =
    rw c.in_ok-add.ensures
    (turns (spell.pattern c.args.room).get c.loop.list.value.items c.args.count c.loop.counter c.loop.rest.now c.in-Some.after.now c.in-Some.pattern.value.value (some_get (spell.pattern c.args.room).get c.args.count c.args.bytes.now) c.loop-test.true (rw c.in-Some.is at c.in_ok-pattern.ensures) c.loop.invariant)

pub some_patterns-returns : goal.some_patterns-returns
some_patterns-returns t c = is_done (spell.pattern c.args.room).get c.loop.list.value.items c.args.count c.loop.counter c.loop.rest.now _ c.loop-test.false c.loop.invariant
