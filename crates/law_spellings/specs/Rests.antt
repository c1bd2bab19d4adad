-- Trees in which the rest of a list has no span of its own, and a vector has its elements as a list.
use Rattle.std.specs.Prelude.{◌≡◌, true}
use Rattle.core_codec.specs.Trees.{is_rest, are_elements}
use Rattle.stx_tree.specs.Tree.{Tree, atom, leaf, pair, vector}

abbrev pub HasPlainRests : Tree → Type 0
HasPlainRests (atom s a) = Unit {0}
HasPlainRests (leaf s x c) = Unit {0}
HasPlainRests (pair s a d) = (is_rest d ≡ true) × (HasPlainRests a × HasPlainRests d)
HasPlainRests (vector s d) = (are_elements d ≡ true) × HasPlainRests d
