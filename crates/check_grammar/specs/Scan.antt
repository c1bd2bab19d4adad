-- The scan by which a text is known to be a name: one byte after another, with how far they are the front of one.
use Rattle.std.specs.Prelude.{ℕ, ◌+◌, ◌*◌, ◌-◌, Bool, true, false, not, ◌&&◌, ◌||◌, ◌==◌, nat_le, nat_lt, List, [], ◌∷◌, if◌then◌else◌, codes}
use Rattle.std.specs.Char.{is_ascii_digit}
use Rattle.std.specs.List.{list_any}
use Rattle.check_grammar.specs.declared.names.WrittenWord.{WrittenWord}
use Rattle.check_grammar.specs.declared.names.WrittenWord.TheVariants.{Part, Symbol}
use Rattle.check_grammar.specs.declared.names.NamePlace.{NamePlace}
use Rattle.check_grammar.specs.declared.names.NamePlace.TheVariants.{Begin, Library, Dot, In, Tilde, Hex, Number, Zero, Digits, Nowhere}

-- ! $ % & * : < = > ? ^ _ + - @
abbrev pub is_plain_sign : ℕ → Bool
is_plain_sign c = list_any (λ sign. c == sign) (codes "!$%&*:<=>?^_+-@")

-- what stands for itself in a name: ASCII letters, digits and these signs
abbrev pub is_plain : ℕ → Bool
is_plain c = (nat_le 0x30 c && nat_le c 0x39) || (nat_le 0x41 c && nat_le c 0x5A) || (nat_le 0x61 c && nat_le c 0x7A) || is_plain_sign c

-- what is written as an escape: each other character
abbrev pub is_escaped : ℕ → Bool
is_escaped c = (nat_lt c 0xD800 || (nat_le 0xE000 c && nat_le c 0x10FFFF)) && not (is_plain c)

-- 0 to 9 and A to F
abbrev pub is_hex_digit : ℕ → Bool
is_hex_digit b = (nat_le 0x30 b && nat_le b 0x39) || (nat_le 0x41 b && nat_le b 0x46)

abbrev pub digit_value : ℕ → ℕ
digit_value b = if nat_le b 0x39 then b - 0x30 else b - 55

abbrev pub digits_on : ℕ → NamePlace
digits_on b = if is_ascii_digit b then Digits else Nowhere

abbrev pub number_on : ℕ → NamePlace
number_on b = if b == 0x30 then Zero else digits_on b

abbrev pub behind_slash : WrittenWord → NamePlace
behind_slash Part = In Symbol
behind_slash Symbol = Number

abbrev pub behind_dot : WrittenWord → NamePlace
behind_dot Part = Dot
behind_dot Symbol = Nowhere

-- a character or the begin of an escape
abbrev pub word_on : WrittenWord → ℕ → NamePlace
word_on w b = if is_plain b then In w else if b == 0x7E then Tilde w else Nowhere

abbrev pub tilde_on : WrittenWord → ℕ → NamePlace
tilde_on w b = if is_hex_digit b then Hex w (digit_value b) else Nowhere

abbrev pub escape_end : WrittenWord → ℕ → NamePlace
escape_end w v = if is_escaped v then In w else Nowhere

-- further digits stand behind none that is zero, and where there is a character of so great a number
abbrev pub hex_on : WrittenWord → ℕ → ℕ → NamePlace
hex_on w v b = if b == 0x7E then escape_end w v else if not (is_hex_digit b) then Nowhere
    else if v == 0 || nat_lt 0x10FFF v then Nowhere else Hex w (v * 16 + digit_value b)

abbrev pub next : NamePlace → ℕ → NamePlace
next Begin b = if b == 0x25 then Library else Nowhere
next Library b = if b == 0x2F then In Symbol else word_on Part b
next Dot b = word_on Part b
next (In w) b = if b == 0x2F then behind_slash w else if b == 0x2E then behind_dot w else word_on w b
next (Tilde w) b = tilde_on w b
next (Hex w v) b = hex_on w v b
next Number b = number_on b
next Zero b = Nowhere
next Digits b = digits_on b
next Nowhere b = Nowhere

abbrev pub is_end : NamePlace → Bool
is_end Begin = false
is_end Library = false
is_end Dot = false
is_end (In w) = false
is_end (Tilde w) = false
is_end (Hex w v) = false
is_end Number = false
is_end Zero = true
is_end Digits = true
is_end Nowhere = false

unfoldable pub scanned : NamePlace → List ℕ → NamePlace
scanned p [] = p
scanned p (b ∷ bs) = scanned (next p b) bs

abbrev pub is_name : List ℕ → Bool
is_name text = is_end (scanned Begin text)
