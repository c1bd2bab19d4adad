use Rattle.std.proofs.Common.{◌≡◌}
use Rattle.base_bytes.specs.Codec.{some_get}
use Rattle.core_codec.specs.Trees as spell
use Rattle.base_bytes.proofs.Loop.{turns, ends, is_done}
use Rattle.core_tree_bytes.proofs.data.+data_read.Goals as goal

pub some_data-returns-in_default : goal.some_data-returns-in_default
some_data-returns-in_default t c = ends (spell.datum c.args.room).get c.loop.list.items c.args.count c.loop.counter c.loop.rest.now _ c.loop-test.true (rw c.in_default.is at c.in_ok-datum.ensures) c.loop.invariant

pub some_data-loop-preserved : goal.some_data-loop-preserved
some_data-loop-preserved t c =
    rw c.in_ok-push.ensures.items
    (turns (spell.datum c.args.room).get c.loop.list.items c.args.count c.loop.counter c.loop.rest.now c.in-Some.after.now c.in-Some.datum (some_get (spell.datum c.args.room).get c.args.count c.args.bytes.now) c.loop-test.true (rw c.in-Some.is at c.in_ok-datum.ensures) c.loop.invariant)

pub some_data-returns : goal.some_data-returns
some_data-returns t c = is_done (spell.datum c.args.room).get c.loop.list.items c.args.count c.loop.counter c.loop.rest.now _ c.loop-test.false c.loop.invariant
