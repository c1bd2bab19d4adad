-- What an instance costs: 1 for each pair and for each element of a vector that it makes.
use Rattle.std.specs.Prelude.{ℕ, ◌+◌, List, [], ◌∷◌, length}
use Rattle.eval_value.specs.declared.cell.Cell.{Cell}
use Rattle.eval_value.specs.declared.cell.Cell.TheVariants as cell

abbrev pub cell_cost : Cell → ℕ
cell_cost (cell.Pair x y) = 1
cell_cost (cell.Vector xs) = length xs
cell_cost _ = 0

abbrev pub cost : List Cell → ℕ
cost [] = 0
cost (c ∷ cs) = cell_cost c + cost cs
