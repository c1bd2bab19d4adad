-- The exports that are taken so far, with those that are left, are all.
use Rattle.std.proofs.Common.{◌≡◌, ℕ, ◌+◌, List, [], ◌∷◌, ◌++◌, map, drop, sym, ap, ◌∙◌, append_assoc}
use Rattle.std.specs.Prelude.{Some, slice_get}
use Rattle.load_import.proofs.TurnLemmas.{got}
use Rattle.load_import.specs.declared.set.NameAt.{NameAt}
use Rattle.stx_tree.specs.Tree.{Tree}
use Rattle.run_library.specs.Library.{export_tree}

abbrev pair_of : List ℕ → Tree → List ℕ × Tree
pair_of name tree = (name, tree)

module _ (exports : List (List ℕ × NameAt)) (i : ℕ) (done whole : List (List ℕ × Tree)) where
  pub tree_on : (row : List ℕ × NameAt) (name : List ℕ) (tree : Tree) → slice_get exports i ≡ Some row → name ≡ row.0 → tree ≡ (export_tree row).1
      → done ++ map export_tree (drop i exports) ≡ whole → (done ++ pair_of name tree ∷ []) ++ map export_tree (drop (i + 1) exports) ≡ whole
  tree_on row name tree here named grown so_far =
      let rest = map export_tree (drop (i + 1) exports) in
      let same : pair_of name tree ≡ export_tree row = ap (λ n. pair_of n tree) named ∙ ap (pair_of row.0) grown in
      append_assoc done (pair_of name tree ∷ []) rest ∙ ap (λ e. done ++ e ∷ rest) same ∙ sym (ap (λ es. done ++ map export_tree es) (got exports i row here)) ∙ so_far
