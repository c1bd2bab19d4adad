use Rattle.std.proofs.Common.{◌∷◌, ◌∙◌}
use Rattle.stx_tree.specs.Tree.{chain}
use Rattle.stx_tree.proofs.MeasureLaws.{size-spanned, size-chain, size-vector}
use Rattle.stx_tree.proofs.laws.sizes_are_those_of_lists.Goals as goal

pub returns : goal.returns
returns c = record {
  list = λ s x xs t h. size-spanned s (chain (x ∷ xs) t) ∙ size-chain x xs t h;
  vector = size-vector;
}
