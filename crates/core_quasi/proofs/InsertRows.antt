-- Walking along the expressions of one element.
use Rattle.std.proofs.Common.{◌≡◌, length, List, [], ◌∷◌, ◌++◌, ap, sym, ◌∙◌}
use Rattle.stx_tree.specs.Tree.{Tree}
use Rattle.core_quasi.specs.QuasiSyntax.{insert_leaf, insert, leaves, spliced}
use Rattle.core_quasi.specs.declared.quasi_syntax.Insert.{Insert}

module _ (ts left : List Tree) (e : Tree) (es : List Tree) (is : List Insert) (total : List Tree × List Insert) (first : left ≡ e ∷ es) where
  pub leaves_on : leaves ts left is ≡ total → leaves (ts ++ insert_leaf (length is) ∷ []) es (is ++ insert 0 e is ∷ []) ≡ total
  leaves_on so_far = ap (λ us. leaves ts us is) (sym first) ∙ so_far

  pub spliced_on : (dots : Tree) → spliced dots ts left is ≡ total → spliced dots ((ts ++ insert_leaf (length is) ∷ []) ++ dots ∷ []) es (is ++ insert 1 e is ∷ []) ≡ total
  spliced_on dots so_far = ap (λ us. spliced dots ts us is) (sym first) ∙ so_far
