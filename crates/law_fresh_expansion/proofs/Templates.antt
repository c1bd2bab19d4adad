-- The template that a form compiles to has the leaves of the form.
use Rattle.stx_tree.specs.Context.{LeafContext}
use Rattle.stx_tree.specs.Tree.{Tree}
use Rattle.eval_template.specs.Compile.{TemplateScope, compiled}
use Rattle.law_invariant_expansion.specs.Kept.{IsBuilt}
use Rattle.law_invariant_expansion.proofs.Templates as templates
use Rattle.law_fresh.specs.Leaves.{TreeHolds, TemplateHolds, leaves}
use Rattle.law_fresh.proofs.Closed.{leaves-closed}
use Rattle.law_fresh.proofs.Trees.{OkHolds, spanned_holds, unspanned_holds}

module _ (P : LeafContext → Type 0) where
  pub leaves-built : IsBuilt (leaves P)
  leaves-built = record { closed = leaves-closed P; spanned = spanned_holds P; unspanned = unspanned_holds P; constants = λ t h. tt; symbols = λ s x c h. tt }

  pub compiled-holds : (c : TemplateScope) (t : Tree) → TreeHolds P t → OkHolds (TemplateHolds P) (compiled c t)
  compiled-holds c t h = templates.compiled-holds (leaves P) leaves-built c t h
