use Rattle.std.proofs.Common.{◌∷◌, ◌∙◌}
use Rattle.stx_tree.specs.Tree.{chain}
use Rattle.stx_tree.proofs.MeasureLaws.{height-spanned, height-chain, height-vector}
use Rattle.stx_tree.proofs.laws.heights_are_those_of_lists.Goals as goal

pub returns : goal.returns
returns c = record {
  list = λ s x xs t h. height-spanned s (chain (x ∷ xs) t) ∙ height-chain x xs t h;
  vector = height-vector;
}
