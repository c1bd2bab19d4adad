-- The hasher of tables by names. A number is taken whole, as the eight bytes that spell it are.
use Rattle.std.specs.Prelude.{ℕ, ◌+◌, ◌*◌, ◌/◌, ◌%◌, ◌^◌, List, [], ◌∷◌, length, fold, nat_le, if◌then◌else◌, bit_xor}
use Rattle.std.specs.Int.{w64, rotate_left}
use Rattle.base_data.specs.declared.map.NameHasher.{NameHasher}

-- the state after a number
unfoldable pub mixed : ℕ → ℕ → ℕ
mixed state n = (bit_xor (rotate_left w64 state 5) n * 0x9e37_79b9_7f4a_7c15) % 2 ^ 64

-- the number that bytes spell, the lowest first
unfoldable pub number : List ℕ → ℕ
number [] = 0
number (b ∷ bs) = ((number bs * 256) % 2 ^ 64 + b) % 2 ^ 64

-- the state after bytes: up to eight are one number, and of more each is one
unfoldable pub taken : ℕ → List ℕ → ℕ
taken state bs = if nat_le (length bs) 8 then mixed state (number bs) else fold mixed state bs

abbrev pub write : NameHasher → List ℕ → NameHasher
write h bs = record { state = taken h.state bs }

-- the hash of a state
unfoldable pub last : ℕ → ℕ
last n = bit_xor n (n / 2 ^ 32)

abbrev pub finish : NameHasher → ℕ
finish h = last ((last h.state * 0xd6e8_feb8_6659_fd93) % 2 ^ 64)
