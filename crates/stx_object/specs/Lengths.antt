-- Lists that end in Nil, and how many elements they have.
use Rattle.std.specs.Prelude.{◌≡◌, ℕ, suc, List, length}
use Rattle.stx_tree.specs.Tree.{Tree, chain, nil, rest_of}

-- it is the list of so many elements, the span at its root aside
abbrev pub HasElements : ℕ → Tree → Type 0
HasElements n t = (xs : List Tree) × (length xs ≡ n) × (rest_of t ≡ chain xs nil)

-- a count that isn't 0 is one more than the number of elements
abbrev pub IsCounted : ℕ → Tree → Type 0
IsCounted count t = (n : ℕ) → count ≡ suc n → HasElements n t

-- the count of a list with one more element; it may be 0
abbrev pub IsOneMore : (count rest : ℕ) → Type 0
IsOneMore count rest = (n : ℕ) → count ≡ suc n → (m : ℕ) × (rest ≡ suc m) × (n ≡ suc m)
