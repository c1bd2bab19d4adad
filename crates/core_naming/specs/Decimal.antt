-- Numbers in decimal, however great they are.
use Rattle.std.specs.Prelude.{ℕ, zero, suc, ◌+◌, ◌/◌, ◌%◌, List, [], ◌∷◌, ◌++◌, nat_lt, if◌then◌else◌}

-- the digits of a number, in so many steps, each of which writes one
abbrev pub number_within : ℕ → ℕ → List ℕ
number_within zero n = []
number_within (suc steps) n = if nat_lt n 10 then (48 + n) ∷ [] else number_within steps (n / 10) ++ (48 + n % 10) ∷ []

-- the digits of a number; it has no more of them than one and itself
unfoldable pub number_text : ℕ → List ℕ
number_text n = number_within (suc n) n
