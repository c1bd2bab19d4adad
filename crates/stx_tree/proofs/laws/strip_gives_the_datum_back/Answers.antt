use Rattle.stx_tree.proofs.LeafLaws.{strip-tree_of}
use Rattle.stx_tree.proofs.laws.strip_gives_the_datum_back.Goals as goal

pub returns : goal.returns
returns c = strip-tree_of
