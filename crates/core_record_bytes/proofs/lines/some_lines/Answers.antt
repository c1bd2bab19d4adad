use Rattle.base_bytes.specs.Codec.{some_get}
use Rattle.core_codec.specs.Records as spell
use Rattle.base_bytes.proofs.Loop.{turns, ends, is_done}
use Rattle.core_record_bytes.proofs.lines.some_lines.Goals as goal

pub returns-in_default : goal.returns-in_default
returns-in_default c = ends (spell.line).get c.loop.list.value.items c.args.count c.loop.counter c.loop.rest.now _ c.loop-test.true (rw c.in_default.is at c.in_ok-line.ensures) c.loop.invariant

pub loop-preserved : goal.loop-preserved
loop-preserved c =
    rw c.in_ok-push.ensures.items
    (turns (spell.line).get c.loop.list.value.items c.args.count c.loop.counter c.loop.rest.now c.in-Some.after.now c.in-Some.line (some_get (spell.line).get c.args.count c.args.bytes.now) c.loop-test.true (rw c.in-Some.is at c.in_ok-line.ensures) c.loop.invariant)

pub returns : goal.returns
returns c = is_done (spell.line).get c.loop.list.value.items c.args.count c.loop.counter c.loop.rest.now _ c.loop-test.false c.loop.invariant
