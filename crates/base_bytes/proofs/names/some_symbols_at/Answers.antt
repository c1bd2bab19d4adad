use Rattle.base_bytes.specs.Codec.{some_get}
use Rattle.base_bytes.specs.Codec as spec
use Rattle.base_bytes.proofs.Loop.{turns, ends, is_done}
use Rattle.base_bytes.proofs.names.some_symbols_at.Goals as goal

pub returns-in_default : goal.returns-in_default
returns-in_default c = ends (spec.text).get c.loop.list.items c.args.count c.loop.counter c.loop.rest.now _ c.loop-test.true (rw c.in_default.is at c.in_ok-symbol.ensures) c.loop.invariant

pub loop-preserved : goal.loop-preserved
loop-preserved c =
    rw c.in_ok-push.ensures.items
    (turns (spec.text).get c.loop.list.items c.args.count c.loop.counter c.loop.rest.now c.in-Some.after.now c.in-Some.symbol (some_get (spec.text).get c.args.count c.args.bytes.now) c.loop-test.true (rw c.in-Some.is at c.in_ok-symbol.ensures) c.loop.invariant)

pub returns : goal.returns
returns c = is_done (spec.text).get c.loop.list.items c.args.count c.loop.counter c.loop.rest.now _ c.loop-test.false c.loop.invariant
