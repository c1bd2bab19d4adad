use Rattle.std.proofs.Common.{◌≡◌}
use Rattle.base_bytes.specs.Codec.{some_get}
use Rattle.core_codec.specs.Contexts as spell
use Rattle.base_bytes.proofs.Loop.{turns, ends, is_done}
use Rattle.core_tree_bytes.proofs.contexts.some_stamps.Goals as goal

pub returns-in_default : goal.returns-in_default
returns-in_default c = ends (spell.stamp).get c.loop.list.items c.args.count c.loop.counter c.loop.rest.now _ c.loop-test.true (rw c.in_default.is at c.in_ok-stamp.ensures) c.loop.invariant

pub loop-preserved : goal.loop-preserved
loop-preserved c =
    rw c.in_ok-push.ensures.items
    (turns (spell.stamp).get c.loop.list.items c.args.count c.loop.counter c.loop.rest.now c.in-Some.after.now c.in-Some.stamp (some_get (spell.stamp).get c.args.count c.args.bytes.now) c.loop-test.true (rw c.in-Some.is at c.in_ok-stamp.ensures) c.loop.invariant)

pub returns : goal.returns
returns c = is_done (spell.stamp).get c.loop.list.items c.args.count c.loop.counter c.loop.rest.now _ c.loop-test.false c.loop.invariant
