-- The number of `--make`.
use Rattle.std.specs.Prelude.{ℕ, ◌+◌, ◌-◌, ◌*◌, Bool, [], ◌∷◌, Option, Some, None, ◌==◌, ◌&&◌, nat_le, if◌then◌else◌}
use Rattle.clap.specs.Words.{Text}

abbrev pub is_digit : ℕ → Bool
is_digit b = nat_le 48 b && nat_le b 57

-- the greatest number
abbrev pub greatest : ℕ
greatest = 1000

-- the number that the digits spell behind the digits of n, where none passes the greatest
abbrev pub number_from : ℕ → Text → Option ℕ
number_from n [] = Some n
number_from n (d ∷ ds) = if is_digit d && nat_le (10 * n + (d - 48)) greatest then number_from (10 * n + (d - 48)) ds else None

-- decimal digits without a leading zero for a number from 1 to the greatest
abbrev pub number_of : Text → Option ℕ
number_of [] = None
number_of (d ∷ ds) = if d == 48 then None else number_from 0 (d ∷ ds)
