-- What the variables of a template are bound to, seen through the turns of ellipses.
use Rattle.std.specs.Prelude.{ℕ, ◌-◌, List, [], ◌∷◌, length, drop, slice_get, Option, None, Some, if◌then◌else◌}
use Rattle.base_data.specs.Same.{same_name}
use Rattle.base_data.specs.declared.name.Label.{Label}
use Rattle.eval_value.specs.Bind.{PlainBind, one, many, PlainBinds, none, more}
use Rattle.eval_value.specs.declared.value.Value.{Value}
use Rattle.eval_value.specs.declared.value.Value.TheVariants.{Unspecified}

abbrev pub Binds : Type 0
Binds = List (Label × PlainBind)

abbrev pub looked_up : Binds → Label → Option PlainBind
looked_up [] l = None
looked_up (b ∷ bs) l = if same_name b.0.0 l.0 then Some b.1 else looked_up bs l

abbrev pub listed : PlainBinds → List PlainBind
listed none = []
listed (more b bs) = b ∷ listed bs

-- the bind of one turn
abbrev pub turn_of : PlainBind → ℕ → Option PlainBind
turn_of (one v) i = None
turn_of (many bs) i = slice_get (listed bs) i

-- the bind that is reached by these turns, the outermost first
abbrev pub through : Option PlainBind → List ℕ → Option PlainBind
through None is = None
through (Some b) [] = Some b
through (Some b) (i ∷ is) = through (turn_of b i) is

-- the innermost turns, so many
abbrev pub innermost : ℕ → List ℕ → List ℕ
innermost depth turns = drop (length turns - depth) turns

-- the bind of a variable whose innermost ellipses, so many, have taken its turns
abbrev pub reached : Binds → Label → ℕ → List ℕ → Option PlainBind
reached binds l depth turns = through (looked_up binds l) (innermost depth turns)

-- what stands for the value, and for the number of turns, of a variable that isn't bound to its depth
pub record Absent : Type 0 where
  pub value : Value
  pub count : ℕ

abbrev pub unbound : Absent
unbound = record { value = Unspecified; count = 0 }

abbrev pub value_of : Absent → Option PlainBind → Value
value_of absent (Some (one v)) = v
value_of absent _ = absent.value

abbrev pub count_of : Absent → Option PlainBind → ℕ
count_of absent (Some (many bs)) = length (listed bs)
count_of absent _ = absent.count
