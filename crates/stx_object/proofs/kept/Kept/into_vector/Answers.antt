use Rattle.std.proofs.Common.{◌∙◌}
use Rattle.std.proofs.lemmas.Result.{IfOk-weaker}
use Rattle.stx_tree.specs.Tree.{vector}
use Rattle.stx_object.proofs.NodeLemmas.{new_node}
use Rattle.stx_object.proofs.kept.Kept.into_vector.Goals as goal

pub returns : goal.returns
returns c =
    IfOk-weaker c.new.result _ _ (λ k h. h ∙ new_node c.none.result (vector c.args.span c.args.self) c.none.ensures) c.new.ensures
