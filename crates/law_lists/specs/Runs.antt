-- Lists in the store (R6RS 11.9): a list is the empty list, or a pair whose cdr is a list.
use Rattle.std.specs.Prelude.{◌≡◌, List, [], ◌∷◌, ◌++◌, Some}
use Rattle.base_data.specs.declared.atom.Atom.TheVariants as a
use Rattle.eval_value.specs.declared.value.Value.{Value}
use Rattle.eval_value.specs.declared.value.Value.TheVariants as value
use Rattle.eval_value.specs.declared.cell.Cell.{Cell}
use Rattle.eval_prims.specs.Chains.{pair_of}

-- a value is pairs with these cars, one behind another, and then this rest
pub data Runs (cells : List Cell) : List Value → Value → Value → Type 0 where
  here : {x : Value} → Runs cells [] x x
  next : {y d rest x : Value} {ys : List Value} → pair_of cells x ≡ Some (y, d) → Runs cells ys rest d → Runs cells (y ∷ ys) rest x

-- the list of these elements
abbrev pub IsList : List Cell → List Value → Value → Type 0
IsList cells xs x = Runs cells xs (value.Atom a.Nil) x

-- each of some values is the list of its elements
pub data AreLists (cells : List Cell) : List (List Value) → List Value → Type 0 where
  no_lists : AreLists cells [] []
  one_list : {xs : List Value} {xss : List (List Value)} {x : Value} {rest : List Value} → IsList cells xs x → AreLists cells xss rest
      → AreLists cells (xs ∷ xss) (x ∷ rest)

-- all elements, those of the first list first
abbrev pub joined : List (List Value) → List Value
joined [] = []
joined (xs ∷ xss) = xs ++ joined xss
