-- Values by name, in order.
use Rattle.std.specs.Prelude.{ℕ, Bool, List, [], ◌∷◌, ◌++◌, Option, is_some, nat_eq, if◌then◌else◌}
use Rattle.std.specs.Borrow.{Bor}
use Rattle.std.specs.Cmp.Lexicographic.{pointwise}
use Rattle.std.specs.Map.{lookup}

abbrev pub same_text : List ℕ → List ℕ → Bool
same_text a b = pointwise nat_eq a b

-- the value of a name: that of the first pair with it
abbrev pub value_of : {V : Type 0} → List ℕ → List (List ℕ × V) → Option V
value_of name rows = lookup (λ other. same_text name other) rows

-- a pair at the end, unless its name has a value
abbrev pub put_first : {V : Type 0} → List (List ℕ × V) → List ℕ × V → List (List ℕ × V)
put_first rows row = if is_some (value_of row.0 rows) then rows else rows ++ row ∷ []

abbrev pub pair_now : {V : Type 0} → Bor (List ℕ) × Bor V → List ℕ × V
pair_now p = (p.0.now, p.1.now)

-- one pair after another, each unless its name has a value
abbrev pub put_all : {V : Type 0} → List (List ℕ × V) → List (List ℕ × V) → List (List ℕ × V)
put_all rows [] = rows
put_all rows (r ∷ rs) = put_all (put_first rows r) rs
