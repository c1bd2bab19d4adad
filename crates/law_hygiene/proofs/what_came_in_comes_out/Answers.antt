use Rattle.std.specs.Prelude.{[], ◌∷◌, Some, option_map}
use Rattle.std.proofs.Common.{◌∙◌, ap}
use Rattle.stx_tree.specs.Changes.{leave}
use Rattle.stx_tree.specs.declared.change.Change.TheVariants.{Leave}
use Rattle.stx_tree.proofs.TreeLaws.{leave-enter}
use Rattle.law_hygiene.proofs.Using.{part-changed, leaves-changed, leaf_itself}
use Rattle.law_hygiene.proofs.what_came_in_comes_out.Goals as goal

pub returns : goal.returns
returns c = record {
  parts = λ m f o t p h. part-changed (Leave m f ∷ []) p o ∙ ap (option_map (leave m f)) h ∙ ap Some (leave-enter m f t);
  each_leaf = λ m f o. leaves-changed (Leave m f ∷ []) o;
  leaf_itself = leaf_itself;
}
