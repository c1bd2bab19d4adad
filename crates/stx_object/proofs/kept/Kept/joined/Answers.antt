use Rattle.std.proofs.Common.{◌∙◌}
use Rattle.std.proofs.lemmas.Result.{IfOk-weaker}
use Rattle.stx_tree.specs.Tree.{pair}
use Rattle.stx_object.proofs.NodeLemmas.{new_node}
use Rattle.stx_object.proofs.kept.Kept.joined.Goals as goal

pub returns : goal.returns
returns c =
    IfOk-weaker c.new.result _ _ (λ k h. h ∙ new_node c.none.result (pair c.args.span c.args.self c.args.rest) c.none.ensures) c.new.ensures
