-- What `equal?` says of values, where it says as much of their parts (R6RS 11.5).
use Rattle.std.specs.Prelude.{◌≡◌, ℕ, Bool, true, false, ◌&&◌, nat_eq, List, Some}
use Rattle.std.specs.Cmp.Lexicographic.{pointwise}
use Rattle.base_region.specs.declared.region.Place.{Place}
use Rattle.eval_value.specs.Cells.{pair_at, vector_at, string_at}
use Rattle.eval_value.specs.declared.value.Value.{Value}
use Rattle.eval_value.specs.declared.value.Value.TheVariants as value
use Rattle.eval_value.specs.declared.cell.Cell.{Cell}
use Rattle.eval_prims.specs.Identity.{same}

-- two pairs, two vectors or two strings: of all others what they are decides
abbrev pub have_parts : Value → Value → Bool
have_parts (value.Pair p) (value.Pair q) = true
have_parts (value.Vector p) (value.Vector q) = true
have_parts (value.Str p) (value.Str q) = true
have_parts _ _ = false

pub record IsEquality (cells : List Cell) (equal : Value → Value → Bool) : Type 0 where
  pub pairs : (p q : Place) (a d b e : Value) → pair_at cells p.0 ≡ Some (a, d) → pair_at cells q.0 ≡ Some (b, e)
      → equal (value.Pair p) (value.Pair q) ≡ (equal a b && equal d e)
  -- as many elements, each equal to its like
  pub vectors : (p q : Place) (xs ys : List Value) → vector_at cells p.0 ≡ Some xs → vector_at cells q.0 ≡ Some ys
      → equal (value.Vector p) (value.Vector q) ≡ pointwise equal xs ys
  pub strings : (p q : Place) (s t : List ℕ) → string_at cells p.0 ≡ Some s → string_at cells q.0 ≡ Some t
      → equal (value.Str p) (value.Str q) ≡ pointwise nat_eq s t
  pub others : (x y : Value) → have_parts x y ≡ false → equal x y ≡ same x y

abbrev pub is_syntax_object : Value → Bool
is_syntax_object (value.Syn t) = true
is_syntax_object _ = false
