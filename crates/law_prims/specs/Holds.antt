-- What holds of the values that a primitive sees, and of those in what it makes.
use Rattle.std.specs.Prelude.{◌≡◌, ℕ, Bool, List, Some, slice_get, IsTrue}
use Rattle.base_data.specs.Elements.{Each}
use Rattle.eval_value.specs.declared.value.Value.{Value}
use Rattle.eval_value.specs.declared.value.Value.TheVariants as value
use Rattle.eval_value.specs.declared.cell.Cell.{Cell}
use Rattle.eval_value.specs.declared.cell.Cell.TheVariants as cell
use Rattle.eval_prims.specs.declared.made.PrimResult.{PrimResult}
use Rattle.eval_prims.specs.declared.made.PrimResult.TheVariants as made

-- a value that has no place in the cells
abbrev pub HasNoPlace : Value → Type 0
HasNoPlace value.Unspecified = Unit {0}
HasNoPlace (value.Atom a) = Unit {0}
HasNoPlace (value.Symbol s) = Unit {0}
HasNoPlace (value.Pair p) = ⊥
HasNoPlace (value.Vector p) = ⊥
HasNoPlace (value.Str p) = ⊥
HasNoPlace (value.Closure number p) = ⊥
HasNoPlace (value.Prim op) = Unit {0}
HasNoPlace (value.Syn t) = Unit {0}
HasNoPlace (value.Transformer p) = ⊥

module _ (P : Value → Type 0) where
  -- the parts of pairs and the elements of vectors, which alone are read
  abbrev pub PartsHold : Cell → Type 0
  PartsHold (cell.Pair x y) = P x × P y
  PartsHold (cell.Vector xs) = Each P xs
  PartsHold (cell.Str text) = Unit {0}
  PartsHold (cell.Scope es parent) = Unit {0}
  PartsHold (cell.Binds bs parent) = Unit {0}
  PartsHold (cell.Transformer x) = Unit {0}

  -- the values in what was made
  abbrev pub MadeHolds : PrimResult → Type 0
  MadeHolds (made.Value x) = P x
  MadeHolds (made.List xs x) = Each P xs × P x
  MadeHolds (made.Vector xs) = Each P xs
  MadeHolds (made.Text text) = Unit {0}
  MadeHolds (made.Transformer x) = P x
  MadeHolds (made.Datum d) = Unit {0}
  MadeHolds (made.Temporaries n) = Unit {0}

-- It holds of each value that is read from the cells, and of each that has no place in them.
pub record HoldsIn (P : Value → Type 0) (cells : List Cell) : Type 0 where
  pub plain : (v : Value) → HasNoPlace v → P v
  pub parts : (n : ℕ) (c : Cell) → slice_get cells n ≡ Some c → PartsHold P c

-- what a test says of a value
abbrev pub Passes : (Value → Bool) → Value → Type 0
Passes test v = IsTrue (test v)
