-- The parts of a tree by their places.
use Rattle.std.specs.Prelude.{List, [], ◌∷◌, Option, None, Some}
use Rattle.stx_tree.specs.Tree.{Tree, pair, vector}

-- into the first element of a list, its rest, or the elements of a vector
pub data PathTurn : Type 0 where
  first : PathTurn
  rest : PathTurn
  inside : PathTurn

abbrev pub at : PathTurn → Tree → Option Tree
at first (pair s a d) = Some a
at rest (pair s a d) = Some d
at inside (vector s d) = Some d
at _ _ = None

abbrev pub then_by : (Tree → Option Tree) → Option Tree → Option Tree
then_by f None = None
then_by f (Some t) = f t

-- the part at a place, where there is one
abbrev pub part : List PathTurn → Tree → Option Tree
part [] t = Some t
part (x ∷ p) t = then_by (part p) (at x t)
