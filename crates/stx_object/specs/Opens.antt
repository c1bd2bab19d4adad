-- One level of a tree.
use Rattle.std.specs.Prelude.{◌≡◌}
use Rattle.stx_tree.specs.Tree.{Tree, atom, leaf, pair, vector, chain, nil}
use Rattle.stx_object.specs.declared.syn.OpenedTree.{OpenedTree}
use Rattle.stx_object.specs.declared.syn.OpenedTree.TheVariants as opened

-- a pair has the first element and the rest
abbrev pub Opens : OpenedTree → Tree → Type 0
Opens (opened.Atom b) (atom s a) = b ≡ a
Opens (opened.Symbol x) (leaf s y c) = x ≡ y
Opens (opened.Pair x y) (pair s a d) = (x ≡ a) × (y ≡ d)
Opens (opened.Vector xs) (vector s d) = chain xs.items nil ≡ d
Opens _ _ = ⊥
