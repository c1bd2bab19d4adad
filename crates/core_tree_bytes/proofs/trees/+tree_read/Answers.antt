use Rattle.std.proofs.Common.{◌≡◌}
use Rattle.base_bytes.specs.Codec.{some_get}
use Rattle.core_codec.specs.Trees as spell
use Rattle.base_bytes.proofs.Loop.{turns, ends, is_done}
use Rattle.core_tree_bytes.proofs.trees.+tree_read.Goals as goal

pub some_trees-returns-in_default : goal.some_trees-returns-in_default
some_trees-returns-in_default t c = ends (spell.tree c.args.room).get c.loop.list.items c.args.count c.loop.counter c.loop.rest.now _ c.loop-test.true (rw c.in_default.is at c.in_ok-tree.ensures) c.loop.invariant

pub some_trees-loop-preserved : goal.some_trees-loop-preserved
some_trees-loop-preserved t c =
    rw c.in_ok-push.ensures.items
    (turns (spell.tree c.args.room).get c.loop.list.items c.args.count c.loop.counter c.loop.rest.now c.in-Some.after.now c.in-Some.tree (some_get (spell.tree c.args.room).get c.args.count c.args.bytes.now) c.loop-test.true (rw c.in-Some.is at c.in_ok-tree.ensures) c.loop.invariant)

pub some_trees-returns : goal.some_trees-returns
some_trees-returns t c = is_done (spell.tree c.args.room).get c.loop.list.items c.args.count c.loop.counter c.loop.rest.now _ c.loop-test.false c.loop.invariant
