-- Words: ASCII characters of which each stands for itself in an identifier (R6RS 4.2.4).
use Rattle.std.specs.Prelude.{ℕ, ◌+◌, Bool, true, ◌==◌, ◌||◌, ◌&&◌, nat_le, List, [], ◌∷◌, if◌then◌else◌}
use Rattle.read_spelling.specs.Identifiers.{is_ascii_letter, is_special_initial, is_special_subsequent}

-- with which an identifier may begin, and go on
abbrev pub begins_word : ℕ → Bool
begins_word b = is_ascii_letter b || is_special_initial b

-- with which a number may begin that has no sign
abbrev pub begins_number : ℕ → Bool
begins_number b = nat_le 0x30 b && nat_le b 0x39

abbrev pub is_in_word : ℕ → Bool
is_in_word b = begins_word b || is_special_subsequent b

-- how many bytes of which each is in a word come first, and so many more
abbrev pub word_from : ℕ → List ℕ → ℕ
word_from n [] = n
word_from n (b ∷ bs) = if is_in_word b then word_from (n + 1) bs else n

abbrev pub word_size : List ℕ → ℕ
word_size bs = word_from 0 bs

-- a space, a closing parenthesis or the end
abbrev pub ends_word : List ℕ → Bool
ends_word [] = true
ends_word (b ∷ bs) = b == 0x20 || b == 0x29
