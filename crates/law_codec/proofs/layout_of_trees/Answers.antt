use Rattle.law_codec.specs.Layout.{trees_laid_out}
use Rattle.law_codec.proofs.layout_of_trees.Goals as goal

pub returns : goal.returns
returns c = trees_laid_out
