use Rattle.std.proofs.Common.{◌≡◌}
use Rattle.std.specs.Prelude.{map}
use Rattle.base_bytes.specs.Codec.{some_get, u32, ◌then◌}
use Rattle.core_codec.specs.Code as spell
use Rattle.core_pattern_bytes.specs.Seen.{item_part}
use Rattle.base_bytes.proofs.Loop.{turns_as, ends, is_done}
use Rattle.core_pattern_bytes.proofs.templates.+template_read.Goals as goal

pub some_items-returns-in_default : goal.some_items-returns-in_default
some_items-returns-in_default t c = ends (spell.template c.args.room then u32).get (map item_part c.loop.list.items) c.args.count c.loop.counter c.loop.rest.now _ c.loop-test.true (rw c.in_default.is at c.in_ok-item.ensures) c.loop.invariant

pub some_items-loop-preserved : goal.some_items-loop-preserved
some_items-loop-preserved t c =
    rw c.in_ok-push.ensures.items
    (turns_as item_part (spell.template c.args.room then u32).get c.loop.list.items c.args.count c.loop.counter c.loop.rest.now c.in-Some.after.now c.in-Some.item (some_get (spell.template c.args.room then u32).get c.args.count c.args.bytes.now) c.loop-test.true (rw c.in-Some.is at c.in_ok-item.ensures) c.loop.invariant)

pub some_items-returns : goal.some_items-returns
some_items-returns t c = is_done (spell.template c.args.room then u32).get (map item_part c.loop.list.items) c.args.count c.loop.counter c.loop.rest.now _ c.loop-test.false c.loop.invariant
