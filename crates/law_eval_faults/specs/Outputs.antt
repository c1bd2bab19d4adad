-- Which values are no syntax: what a transformer gives must be a syntax object, or pairs, vectors and atoms of such (libraries report 12.3).
use Rattle.std.specs.Prelude.{◌≡◌, ℕ, List, [], ◌∷◌, None, Some, Ok, Err}
use Rattle.base_data.specs.declared.fault.Bare.{Bare}
use Rattle.base_data.specs.declared.fault.FaultKind.TheVariants as kind
use Rattle.base_data.specs.declared.name.CodeNo.{CodeNo}
use Rattle.base_data.specs.declared.op.Op.{Op}
use Rattle.base_region.specs.declared.region.Place.{Place}
use Rattle.stx_tree.specs.Tree.{Tree}
use Rattle.eval_value.specs.Cells.{pair_at, vector_at, string_at}
use Rattle.eval_value.specs.ToSyntax.{to_syntax}
use Rattle.eval_value.specs.declared.cell.Cell.{Cell}
use Rattle.eval_value.specs.declared.value.Value.{Value}
use Rattle.eval_value.specs.declared.value.Value.TheVariants as value

-- An identifier must have come from a syntax object: a plain symbol has no marks, and its text is told. What else is no syntax isn't told. A place without
-- a cell of its kind, which whole cells don't have, holds none.
pub data IsNoSyntax (cells : List Cell) : Value → Bare → Type 0 where
  a_symbol : {text : List ℕ} → IsNoSyntax cells (value.Symbol text) (record { kind = kind.RawSymbol; words = text ∷ [] })
  unspecified : IsNoSyntax cells value.Unspecified (record { kind = kind.BadOutput; words = [] })
  a_procedure : {code : CodeNo} {p : Place} → IsNoSyntax cells (value.Closure code p) (record { kind = kind.BadOutput; words = [] })
  a_primitive : {op : Op} → IsNoSyntax cells (value.Prim op) (record { kind = kind.BadOutput; words = [] })
  a_transformer : {p : Place} → IsNoSyntax cells (value.Transformer p) (record { kind = kind.BadOutput; words = [] })
  no_pair : {p : Place} → pair_at cells p.0 ≡ None → IsNoSyntax cells (value.Pair p) (record { kind = kind.BadOutput; words = [] })
  no_vector : {p : Place} → vector_at cells p.0 ≡ None → IsNoSyntax cells (value.Vector p) (record { kind = kind.BadOutput; words = [] })
  no_string : {p : Place} → string_at cells p.0 ≡ None → IsNoSyntax cells (value.Str p) (record { kind = kind.BadOutput; words = [] })

-- Of what a value consists: itself, and what its pairs and vectors hold.
mutual
  pub data Holds (cells : List Cell) (y : Value) : Value → Type 0 where
    itself : Holds cells y y
    in_car : {p : Place} {x d : Value} → pair_at cells p.0 ≡ Some (x, d) → Holds cells y x → Holds cells y (value.Pair p)
    in_cdr : {p : Place} {x d : Value} → pair_at cells p.0 ≡ Some (x, d) → Holds cells y d → Holds cells y (value.Pair p)
    in_vector : {p : Place} {xs : List Value} → vector_at cells p.0 ≡ Some xs → SomeHolds cells y xs → Holds cells y (value.Vector p)

  pub data SomeHolds (cells : List Cell) (y : Value) : List Value → Type 0 where
    first_holds : {x : Value} {xs : List Value} → Holds cells y x → SomeHolds cells y (x ∷ xs)
    others_hold : {x : Value} {xs : List Value} → SomeHolds cells y xs → SomeHolds cells y (x ∷ xs)

-- That a value is no output: it holds something that is no syntax, as which it is told; or to read it takes more fuel than there is, or passes a limit
-- of trees.
pub data IsUnread (cells : List Cell) (x : Value) : Bare → Type 0 where
  no_syntax : {y : Value} {f : Bare} → Holds cells y x → IsNoSyntax cells y f → IsUnread cells x f
  no_fuel : IsUnread cells x (record { kind = kind.FuelSpent; words = [] })
  no_room : IsUnread cells x (record { kind = kind.TooDeep; words = [] })

-- A value that isn't read is refused so, and one that is read holds nothing that is no syntax.
pub record OutputsAreRead : Type 0 where
  pub refused : (cells : List Cell) (x : Value) (fuel : ℕ) (f : Bare) → to_syntax cells x fuel ≡ Err f → IsUnread cells x f
  pub read : (cells : List Cell) (x y : Value) (fuel left : ℕ) (t : Tree) (f : Bare) → to_syntax cells x fuel ≡ Ok (t, left)
      → Holds cells y x → IsNoSyntax cells y f → ⊥
