use Rattle.base_bytes.specs.Codec.{some_get, ◌then◌}
use Rattle.base_bytes.specs.Names.{label}
use Rattle.core_codec.specs.Records as spell
use Rattle.base_bytes.proofs.Loop.{turns, ends, is_done}
use Rattle.core_record_bytes.proofs.bindings.some_bindings.Goals as goal

pub returns-in_default : goal.returns-in_default
returns-in_default c = ends (label then spell.binding).get c.loop.list.value.items c.args.count c.loop.counter c.loop.rest.now _ c.loop-test.true (rw c.in_default.is at c.in_ok-row.ensures) c.loop.invariant

pub loop-preserved : goal.loop-preserved
loop-preserved c =
    rw c.in_ok-push.ensures.items
    (turns (label then spell.binding).get c.loop.list.value.items c.args.count c.loop.counter c.loop.rest.now c.in-Some.after.now c.in-Some.row (some_get (label then spell.binding).get c.args.count c.args.bytes.now) c.loop-test.true (rw c.in-Some.is at c.in_ok-row.ensures) c.loop.invariant)

pub returns : goal.returns
returns c = is_done (label then spell.binding).get c.loop.list.value.items c.args.count c.loop.counter c.loop.rest.now _ c.loop-test.false c.loop.invariant
