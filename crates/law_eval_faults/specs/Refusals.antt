-- Why the call of a primitive is refused during expansion, with the kind and the words of its fault.
use Rattle.std.specs.Prelude.{◌≡◌, ◌≤◌, ℕ, false, List, [], ◌∷◌, length, decimal, Option, None, Some, Err}
use Rattle.base_data.specs.Op.{op_text}
use Rattle.base_data.specs.declared.atom.Atom.TheVariants as a
use Rattle.base_data.specs.declared.fault.Bare.{Bare}
use Rattle.base_data.specs.declared.fault.FaultKind.TheVariants as kind
use Rattle.base_data.specs.declared.op.names.TheConstants as names
use Rattle.base_region.specs.declared.region.Place.{Place}
use Rattle.stx_frames.specs.Scope.{Scope}
use Rattle.eval_value.specs.Cells.{string_at}
use Rattle.eval_value.specs.declared.cell.Cell.{Cell}
use Rattle.eval_value.specs.declared.value.Value.{Value}
use Rattle.eval_value.specs.declared.value.Value.TheVariants as value
use Rattle.eval_prims.specs.Delta.{row_answer, delta}
use Rattle.eval_prims.specs.Primitives.{primitive_of}
use Rattle.eval_prims.specs.declared.primitive.Primitive.{Primitive}
use Rattle.eval_prims.specs.declared.rows.TheConstants as rows

-- How many arguments a primitive takes: no fewer than its least, and no more than its most, where it has one.

abbrev pub AreAtMost : ℕ → Option ℕ → Type 0
AreAtMost count None = Unit {0}
AreAtMost count (Some most) = count ≤ most

pub record TakesSoMany (p : Primitive) (count : ℕ) : Type 0 where
  pub least : p.least ≤ count
  pub most : AreAtMost count p.most

-- What is raised by `raise`, and by `error` and the like, which take who raises it, `#f`, a string or a symbol, and a message: where that is a string,
-- it is the word of the fault.

pub data IsWho : Value → Type 0 where
  no_one : IsWho (value.Atom (a.Bool false))
  by_symbol : {s : List ℕ} → IsWho (value.Symbol s)
  by_string : {p : Place} → IsWho (value.Str p)

pub data IsMessage (cells : List Cell) : Value → List (List ℕ) → Type 0 where
  a_text : {p : Place} {s : List ℕ} → string_at cells p.0 ≡ Some s → IsMessage cells (value.Str p) (s ∷ [])
  no_text : {v : Value} → ((p : Place) (s : List ℕ) → v ≡ value.Str p → string_at cells p.0 ≡ Some s → ⊥) → IsMessage cells v []

pub data IsRaised (op : ℕ) (cells : List Cell) : List Value → List (List ℕ) → Type 0 where
  raise : {x : Value} → op ≡ names.RAISE → IsRaised op cells (x ∷ []) []
  error : {who message : Value} {irritants : List Value} {words : List (List ℕ)} → IsWho who → IsMessage cells message words
      → IsRaised op cells (who ∷ message ∷ irritants) words

-- The fault of arguments that a row of primitives refuses: their primitive is named. `error` and the like raise one of their own, and what
-- `datum->syntax` makes may pass a limit of trees.
pub data IsOfRow (op row : ℕ) (args : List Value) (cells : List Cell) : Bare → Type 0 where
  refuses : IsOfRow op row args cells (record { kind = kind.PrimFault; words = op_text op ∷ [] })
  raises : {words : List (List ℕ)} → IsRaised op cells args words → IsOfRow op row args cells (record { kind = kind.Raised; words = words })
  too_deep : row ≡ rows.TREES → IsOfRow op row args cells (record { kind = kind.TooDeep; words = [] })

-- There is no such primitive during expansion; or it doesn't take so many arguments, and the fault tells their number; or it refuses these.
pub data IsRefusedCall (op : ℕ) (args : List Value) (cells : List Cell) (frames : Scope) : Bare → Type 0 where
  no_primitive : primitive_of op ≡ None → IsRefusedCall op args cells frames (record { kind = kind.NoPrimitive; words = op_text op ∷ [] })
  wrong_number : {p : Primitive} → primitive_of op ≡ Some p → (TakesSoMany p (length args) → ⊥)
      → IsRefusedCall op args cells frames (record { kind = kind.Arity; words = decimal (length args) ∷ [] })
  wrong_arguments : {p : Primitive} {f : Bare} → primitive_of op ≡ Some p → TakesSoMany p (length args)
      → row_answer p.row op args cells frames ≡ Err f → IsOfRow op p.row args cells f → IsRefusedCall op args cells frames f

-- A call is refused exactly so.
pub record RefusalsAreTold : Type 0 where
  pub refused : (op : ℕ) (args : List Value) (cells : List Cell) (frames : Scope) (f : Bare) → IsRefusedCall op args cells frames f
      → delta op args cells frames ≡ Err f
  pub only : (op : ℕ) (args : List Value) (cells : List Cell) (frames : Scope) (f : Bare) → delta op args cells frames ≡ Err f
      → IsRefusedCall op args cells frames f
