-- Numbers as they are spelt (R6RS 4.2.8).
use Rattle.std.specs.Prelude.{ℕ, suc, ◌+◌, ◌-◌, ◌*◌, ◌^◌, Bool, List, [], ◌∷◌, length, take, drop, slice_index, ◌==◌, ◌&&◌, ◌||◌, nat_le, nat_lt, if◌then◌else◌, ℤ, pos, neg_ℤ, Option, Some, None}
use Rattle.std.specs.List.{list_all}

-- the value of a digit, in either case; what is no digit has none below 16
abbrev pub digit_value : ℕ → ℕ
digit_value b = if nat_le 0x30 b && nat_le b 0x39 then b - 0x30
    else if nat_le 0x61 b && nat_le b 0x66 then b - 0x57
    else if nat_le 0x41 b && nat_le b 0x46 then b - 0x37 else 16

abbrev pub is_digit : ℕ → ℕ → Bool
is_digit base b = nat_lt (digit_value b) base

-- one or more digits of a base
abbrev pub is_digits : ℕ → List ℕ → Bool
is_digits base text = nat_lt 0 (length text) && list_all (is_digit base) text

-- how many digits of a base come first
abbrev pub digits_size : ℕ → List ℕ → ℕ
digits_size base [] = 0
digits_size base (b ∷ bs) = if is_digit base b then suc (digits_size base bs) else 0

-- the number that digits spell behind others of value n
unfoldable pub value_from : ℕ → ℕ → List ℕ → ℕ
value_from base n [] = n
value_from base n (b ∷ bs) = value_from base (n * base + digit_value b) bs

abbrev pub is_minus : ℕ → Bool
is_minus b = b == 0x2D

abbrev pub is_number_sign : ℕ → Bool
is_number_sign b = b == 0x2B || b == 0x2D

-- what stands behind the sign, if there is one
abbrev pub unsigned : List ℕ → List ℕ
unsigned text = if is_number_sign (slice_index text 0) then drop 1 text else text

-- an optional sign and digits of the base
abbrev pub is_integer : ℕ → List ℕ → Bool
is_integer base text = is_digits base (unsigned text)

-- the greatest magnitude of a number of 128 bits with this sign
abbrev pub greatest : Bool → ℕ
greatest minus = if minus then 2 ^ 127 else 2 ^ 127 - 1

abbrev pub with_sign : Bool → ℕ → ℤ
with_sign minus n = if minus then neg_ℤ (pos n) else pos n

-- where 128 bits hold it
abbrev pub signed : Bool → ℕ → Option ℤ
signed minus n = if nat_le n (greatest minus) then Some (with_sign minus n) else None

-- the integer that a sign and digits of the base spell, where 128 bits hold it
abbrev pub integer : ℕ → List ℕ → Option ℤ
integer base text = signed (is_minus (slice_index text 0)) (value_from base 0 (unsigned text))

-- the value of decimal digits is at most the greatest of 128 bits
abbrev pub is_part : List ℕ → Bool
is_part digits = nat_lt (value_from 10 0 digits) (2 ^ 127)

abbrev pub is_positive : List ℕ → Bool
is_positive digits = nat_lt 0 (value_from 10 0 digits)

-- digits, a slash and digits that aren't zero; both parts fit
abbrev pub is_ratio_of : ℕ → List ℕ → Bool
is_ratio_of n text = nat_lt 0 n && slice_index text n == 0x2F && is_digits 10 (drop 1 (drop n text))
    && is_part (take n text) && is_part (drop 1 (drop n text)) && is_positive (drop 1 (drop n text))

-- with an optional sign
abbrev pub is_ratio : List ℕ → Bool
is_ratio text = is_ratio_of (digits_size 10 (unsigned text)) (unsigned text)

-- e s f d l in either case
abbrev pub is_exponent_mark : ℕ → Bool
is_exponent_mark b = b == 0x65 || b == 0x45 || b == 0x73 || b == 0x53 || b == 0x66 || b == 0x46 || b == 0x64 || b == 0x44 || b == 0x6C || b == 0x4C

-- a mark, an optional sign and digits
abbrev pub is_exponent : List ℕ → Bool
is_exponent text = is_exponent_mark (slice_index text 0) && is_integer 10 (drop 1 text)

-- what stands behind the point, where n digits stand before it: digits, if n is 0, and an optional exponent
abbrev pub is_fraction : ℕ → List ℕ → Bool
is_fraction n text = (nat_lt 0 n || nat_lt 0 (digits_size 10 text))
    && (length (drop (digits_size 10 text) text) == 0 || is_exponent (drop (digits_size 10 text) text))

-- n digits, and then a point and a fraction, or an exponent
abbrev pub is_decimal_of : ℕ → List ℕ → Bool
is_decimal_of n text = if slice_index text n == 0x2E then is_fraction n (drop 1 (drop n text))
    else nat_lt 0 n && is_exponent (drop n text)

-- with an optional sign
abbrev pub is_decimal : List ℕ → Bool
is_decimal text = is_decimal_of (digits_size 10 (unsigned text)) (unsigned text)

-- the numbers that are kept as they are spelt
unfoldable pub is_spelt : List ℕ → Bool
is_spelt text = is_ratio text || is_decimal text

abbrev pub spelt : List ℕ → Option (List ℕ)
spelt text = if is_spelt text then Some text else None

abbrev pub is_ascii : ℕ → Bool
is_ascii b = nat_lt b 0x80
