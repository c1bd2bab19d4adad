use Rattle.base_bytes.specs.Codec.{some_get}
use Rattle.base_bytes.proofs.Loop.{turns, ends, is_done}
use Rattle.base_bytes.proofs.spelled.some_at.Goals as goal

pub returns-in_default : goal.returns-in_default
returns-in_default g c = ends g.T.Spelled.codec.get c.loop.list.items c.args.count c.loop.counter c.loop.rest.now _ c.loop-test.true (rw c.in_default.is at c.in_ok-value.ensures) c.loop.invariant

pub loop-preserved : goal.loop-preserved
loop-preserved g c =
    rw c.in_ok-push.ensures.items (turns g.T.Spelled.codec.get c.loop.list.items c.args.count c.loop.counter c.loop.rest.now c.in-Some.after.now c.in-Some.value (some_get g.T.Spelled.codec.get c.args.count c.args.bytes.now) c.loop-test.true (rw c.in-Some.is at c.in_ok-value.ensures) c.loop.invariant)

pub returns : goal.returns
returns g c = is_done g.T.Spelled.codec.get c.loop.list.items c.args.count c.loop.counter c.loop.rest.now _ c.loop-test.false c.loop.invariant
