-- Identifiers (R6RS 4.2.4).
use Rattle.std.specs.Prelude.{ℕ, zero, suc, Bool, true, false, List, [], ◌∷◌, ◌++◌, length, drop, slice_index, ◌==◌, ◌&&◌, ◌||◌, nat_le, nat_lt, if◌then◌else◌, Option, Some, None, option_and_then, encode_utf8}
use Rattle.bstr.specs.Utf8.{Decoded}
use Rattle.ucd_category.specs.GeneralCategory.{general_category}
use Rattle.ucd_category.specs.declared.GeneralCategory.{GeneralCategory}
use Rattle.ucd_category.specs.declared.GeneralCategory.TheVariants.{UppercaseLetter, LowercaseLetter, TitlecaseLetter, ModifierLetter, OtherLetter, NonspacingMark, SpacingMark, EnclosingMark, DecimalNumber, LetterNumber, OtherNumber, ConnectorPunctuation, DashPunctuation, OtherPunctuation, MathSymbol, CurrencySymbol, ModifierSymbol, OtherSymbol, PrivateUse}
use Rattle.read_spelling.specs.Escapes.{escape, letter}
use Rattle.read_spelling.specs.Source.{characters}
use Rattle.read_spelling.specs.declared.escapes.Letter.{Letter}
use Rattle.read_spelling.specs.declared.identifiers.Class.{Class}
use Rattle.read_spelling.specs.declared.identifiers.Class.TheVariants as class

abbrev pub is_ascii_letter : ℕ → Bool
is_ascii_letter c = (nat_le 0x61 c && nat_le c 0x7A) || (nat_le 0x41 c && nat_le c 0x5A)

-- ! $ % & * / : < = > ? ^ _ ~
abbrev pub is_special_initial : ℕ → Bool
is_special_initial c = c == 0x21 || c == 0x24 || c == 0x25 || c == 0x26 || c == 0x2A || c == 0x2F || c == 0x3A || c == 0x3C
    || c == 0x3D || c == 0x3E || c == 0x3F || c == 0x5E || c == 0x5F || c == 0x7E

-- Lu Ll Lt Lm Lo Mn Nl No Pd Pc Po Sc Sm Sk So Co
abbrev pub is_initial_category : GeneralCategory → Bool
is_initial_category UppercaseLetter = true
is_initial_category LowercaseLetter = true
is_initial_category TitlecaseLetter = true
is_initial_category ModifierLetter = true
is_initial_category OtherLetter = true
is_initial_category NonspacingMark = true
is_initial_category LetterNumber = true
is_initial_category OtherNumber = true
is_initial_category DashPunctuation = true
is_initial_category ConnectorPunctuation = true
is_initial_category OtherPunctuation = true
is_initial_category CurrencySymbol = true
is_initial_category MathSymbol = true
is_initial_category ModifierSymbol = true
is_initial_category OtherSymbol = true
is_initial_category PrivateUse = true
is_initial_category _ = false

-- Nd Mc Me
abbrev pub is_later_category : GeneralCategory → Bool
is_later_category DecimalNumber = true
is_later_category SpacingMark = true
is_later_category EnclosingMark = true
is_later_category _ = false

-- what an identifier may begin with
abbrev pub is_initial : ℕ → Bool
is_initial c = if nat_lt c 0x80 then is_ascii_letter c || is_special_initial c else is_initial_category (general_category c)

-- digits and + - . @
abbrev pub is_special_subsequent : ℕ → Bool
is_special_subsequent c = (nat_le 0x30 c && nat_le c 0x39) || c == 0x2B || c == 0x2D || c == 0x2E || c == 0x40

abbrev pub is_later : ℕ → Bool
is_later c = if nat_lt c 0x80 then is_special_subsequent c else is_later_category (general_category c)

abbrev pub is_of : Class → ℕ → Bool
is_of class.Initial c = is_initial c
is_of class.Subsequent c = is_initial c || is_later c

abbrev pub char_letter : Class → Option ℕ → ℕ → Option Letter
char_letter k None size = None
char_letter k (Some c) size = if is_of k c then letter size (Some c) else None

abbrev pub first_letter : Class → List Decoded → Option Letter
first_letter k [] = None
first_letter k (p ∷ ps) = char_letter k p.char p.size

-- the character of the class that comes first, or the escape, which may stand in any place
unfoldable pub letter_here : Class → List ℕ → Option Letter
letter_here k bytes = if slice_index bytes 0 == 0x5C then escape bytes else first_letter k (characters bytes)

-- the name that bytes spell behind a text that was read; n letters are enough where the bytes are fewer
unfoldable pub name_from : ℕ → Class → List ℕ → List ℕ → Option (List ℕ)
name_from zero k out bytes = None
name_from (suc n) k out bytes = if length bytes == 0 then Some out
    else option_and_then (λ l. name_from n class.Subsequent (out ++ encode_utf8 l.char) (drop l.size bytes)) (letter_here k bytes)

abbrev pub name : Class → List ℕ → Option (List ℕ)
name k text = name_from (suc (length text)) k [] text

-- `+`, `-` and `...`, and what begins with `->`
abbrev pub is_peculiar : List ℕ → Bool
is_peculiar text = (length text == 1 && (slice_index text 0 == 0x2B || slice_index text 0 == 0x2D))
    || (length text == 3 && slice_index text 0 == 0x2E && slice_index text 1 == 0x2E && slice_index text 2 == 0x2E)
    || (slice_index text 0 == 0x2D && slice_index text 1 == 0x3E)

-- the name of the identifier that a text spells, if it spells one
abbrev pub identifier : List ℕ → Option (List ℕ)
identifier text = name (if is_peculiar text then class.Subsequent else class.Initial) text
