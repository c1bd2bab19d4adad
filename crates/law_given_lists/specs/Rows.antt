-- Several lists of one length, and their elements in rows: the first of each list, then the second of each, and so on.
use Rattle.std.specs.Prelude.{◌≡◌, ℕ, zero, suc, List, [], ◌∷◌, length, Some}
use Rattle.eval_value.specs.declared.value.Value.{Value}
use Rattle.eval_value.specs.declared.cell.Cell.{Cell}
use Rattle.eval_prims.specs.Chains.{pair_of}
use Rattle.eval_prims.specs.Lists.{nil}

-- these are pairs, with these cars and these cdrs
pub data Pairs (cells : List Cell) : List Value → List Value → List Value → Type 0 where
  no_pair : Pairs cells [] [] []
  one_pair : {x d l : Value} {xs ds ls : List Value} → pair_of cells l ≡ Some (x, d) → Pairs cells xs ds ls → Pairs cells (x ∷ xs) (d ∷ ds) (l ∷ ls)

abbrev pub AreEmpty : List Value → Type 0
AreEmpty [] = Unit {0}
AreEmpty (l ∷ ls) = (l ≡ nil) × AreEmpty ls

-- A row is the cars of all lists, and the rows behind it are those of the cdrs; behind the last row all lists are at their end.
pub data InRows (cells : List Cell) : List (List Value) → List Value → Type 0 where
  no_row : {ls : List Value} → AreEmpty ls → InRows cells [] ls
  one_row : {row rest ls : List Value} {rows : List (List Value)} → Pairs cells row rest ls → InRows cells rows rest → InRows cells (row ∷ rows) ls

-- The same elements, list by list: all lists are so long, and this is the row of their first elements, and what is behind it.

abbrev pub AllLong : ℕ → List (List Value) → Type 0
AllLong n [] = Unit {0}
AllLong n (xs ∷ xss) = (length xs ≡ n) × AllLong n xss

abbrev pub with_first : List Value → List Value → List Value
with_first [] row = row
with_first (x ∷ xs) row = x ∷ row

abbrev pub first_row : List (List Value) → List Value
first_row [] = []
first_row (xs ∷ xss) = with_first xs (first_row xss)

abbrev pub but_first : List Value → List Value
but_first [] = []
but_first (x ∷ xs) = xs

abbrev pub behind_row : List (List Value) → List (List Value)
behind_row [] = []
behind_row (xs ∷ xss) = but_first xs ∷ behind_row xss

-- the rows of lists that are so long
abbrev pub rows_of : ℕ → List (List Value) → List (List Value)
rows_of zero xss = []
rows_of (suc n) xss = first_row xss ∷ rows_of n (behind_row xss)
