use Rattle.base_bytes.specs.Codec.{some_get}
use Rattle.core_codec.specs.Contexts.{frame_row}
use Rattle.base_bytes.proofs.Loop.{turns, ends, is_done}
use Rattle.core_record_bytes.proofs.rows.some_rows.Goals as goal

pub returns-in_default : goal.returns-in_default
returns-in_default c = ends (frame_row).get c.loop.list.items c.args.count c.loop.counter c.loop.rest.now _ c.loop-test.true (rw c.in_default.is at c.in_ok-row.ensures) c.loop.invariant

pub loop-preserved : goal.loop-preserved
loop-preserved c =
    rw c.in_ok-push.ensures.items
    (turns (frame_row).get c.loop.list.items c.args.count c.loop.counter c.loop.rest.now c.in-Some.after.now c.in-Some.row (some_get (frame_row).get c.args.count c.args.bytes.now) c.loop-test.true (rw c.in-Some.is at c.in_ok-row.ensures) c.loop.invariant)

pub returns : goal.returns
returns c = is_done (frame_row).get c.loop.list.items c.args.count c.loop.counter c.loop.rest.now _ c.loop-test.false c.loop.invariant
