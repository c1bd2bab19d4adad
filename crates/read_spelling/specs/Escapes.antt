-- Escapes `\xHEX;` (R6RS 4.2.4 and 4.2.7).
use Rattle.std.specs.Prelude.{ℕ, ◌+◌, Bool, List, take, drop, slice_index, Option, Some, None, ◌==◌, ◌&&◌, ◌||◌, nat_lt, if◌then◌else◌}
use Rattle.read_spelling.specs.Numbers.{digits_size, value_from}
use Rattle.read_spelling.specs.declared.escapes.Letter.{Letter}

-- the numbers of characters, which the surrogates are not
abbrev pub is_scalar : ℕ → Bool
is_scalar n = nat_lt n 0xD800 || (nat_lt 0xDFFF n && nat_lt n 0x110000)

abbrev pub scalar : ℕ → Option ℕ
scalar n = if is_scalar n then Some n else None

-- the character whose number hexadecimal digits spell
abbrev pub scalar_of : List ℕ → Option ℕ
scalar_of digits = scalar (value_from 16 0 digits)

abbrev pub letter : ℕ → Option ℕ → Option Letter
letter size None = None
letter size (Some c) = Some (record { char = c; size = size })

-- with n digits
abbrev pub escape_of : ℕ → List ℕ → Option Letter
escape_of n bytes = if slice_index bytes 1 == 0x78 && nat_lt 0 n && slice_index bytes (2 + n) == 0x3B
    then letter (3 + n) (scalar_of (take n (drop 2 bytes))) else None

-- what the escape stands for that bytes begin with behind a backslash, which is the first of them
abbrev pub escape : List ℕ → Option Letter
escape bytes = escape_of (digits_size 16 (drop 2 bytes)) bytes
