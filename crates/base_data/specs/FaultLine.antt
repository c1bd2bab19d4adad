-- The line that tells a fault.
use Rattle.std.specs.Prelude.{ℕ, Bool, List, [], ◌∷◌, ◌++◌, ◌||◌, ◌&&◌, nat_lt, if◌then◌else◌, codes, length, min, encode_utf8, decimal}
use Rattle.std.specs.List.{flat_map}
use Rattle.std.specs.Str.{chars}
use Rattle.base_data.specs.Hex.{hex}
use Rattle.base_data.specs.Place.{place}
use Rattle.base_data.specs.FaultNames.{fault_number, fault_name}
use Rattle.base_data.specs.declared.fault.Fault.{Fault}

-- the characters of the general category Cc
abbrev pub is_control : ℕ → Bool
is_control c = nat_lt c 0x20 || (nat_lt 0x7E c && nat_lt c 0xA0)

abbrev pub char_shown : ℕ → List ℕ
char_shown c = if is_control c then codes "\\x" ++ hex c ++ codes ";" else encode_utf8 c

-- a text on one line: control characters are spelt
abbrev pub text_shown : List ℕ → List ℕ
text_shown text = flat_map char_shown (chars text)

abbrev pub place_text : ℕ × ℕ → List ℕ
place_text at = decimal at.0 ++ codes ":" ++ decimal at.1

abbrev pub further_words : List (List ℕ) → List ℕ
further_words [] = []
further_words (w ∷ ws) = codes " " ++ text_shown w ++ further_words ws

abbrev pub words_text : List (List ℕ) → List ℕ
words_text [] = []
words_text (w ∷ ws) = codes ": " ++ text_shown w ++ further_words ws

-- FILE:LINE:COLUMN: NUMBER NAME, then the words where there are some
abbrev pub fault_line : Fault → List ℕ → List ℕ
fault_line f source = text_shown f.span.file ++ codes ":" ++ place_text (place source (min f.span.from (length source)))
    ++ codes ": " ++ decimal (fault_number f.kind) ++ codes " " ++ fault_name f.kind ++ words_text f.words ++ codes "\n"
