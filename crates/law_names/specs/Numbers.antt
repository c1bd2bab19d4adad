-- A number in a generated name is written in decimal, however great it is.
use Rattle.std.specs.Prelude.{◌≡◌, ℕ, ◌+◌, ◌/◌, ◌%◌, ◌<◌, ◌≤◌, ◌^◌, [], ◌∷◌, ◌++◌, decimal}
use Rattle.std.specs.Str.Parse.{IsNumeral, digits_value}
use Rattle.core_naming.specs.Decimal.{number_text}

-- the digits of one number
pub record IsInDecimal (n : ℕ) : Type 0 where
  -- a number below ten has one digit, and another one those of its tenth and one more
  pub one : n < 10 → number_text n ≡ (48 + n) ∷ []
  pub more : 10 ≤ n → number_text n ≡ number_text (n / 10) ++ (48 + n % 10) ∷ []
  -- they are digits, not none, and read in decimal they are the number
  pub digits : IsNumeral 10 (number_text n)
  pub value : digits_value 10 (number_text n) ≡ n
  -- a number of 64 bits is written as Rust writes it
  pub rust : n < 2 ^ 64 → number_text n ≡ decimal n

abbrev pub NumbersAreInDecimal : Type 0
NumbersAreInDecimal = (n : ℕ) → IsInDecimal n

abbrev pub NumbersAreTold : Type 0
NumbersAreTold = (m n : ℕ) → number_text m ≡ number_text n → m ≡ n
