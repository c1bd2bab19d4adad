use Rattle.std.proofs.Common.{◌≡◌}
use Rattle.std.proofs.lemmas.Result.{IfOk-weaker}
use Rattle.core_codec.specs.Trees as spell
use Rattle.core_tree_bytes.proofs.Level.{datum_puts}
use Rattle.core_tree_bytes.proofs.data.+data_put.Goals as goal

pub put_level-returns : goal.put_level-returns
put_level-returns t c =
    IfOk-weaker c.put_node.result _ _
    (λ b h. datum_puts (spell.datum c.args.room) c.datum.inside.span c.datum.inside.node c.args.datum.now c.args.out.now.items c.put.new.out.items c.put_node.new.out.items b c.datum.view_is c.datum.invariant c.in_ok-put.ensures h) c.put_node.ensures
