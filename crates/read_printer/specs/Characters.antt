-- Characters as they are printed (R6RS 4.2.6).
use Rattle.std.specs.Prelude.{ℕ, Bool, List, ◌++◌, ◌==◌, ◌&&◌, nat_le, if◌then◌else◌, codes, encode_utf8}
use Rattle.base_data.specs.Hex.{hex}

-- U+0021 to U+007E
abbrev pub is_graphic : ℕ → Bool
is_graphic c = nat_le 0x21 c && nat_le c 0x7E

-- what has no name: itself, or else x and its number
abbrev pub unnamed : ℕ → List ℕ
unnamed c = if is_graphic c then encode_utf8 c else codes "x" ++ hex c

abbrev pub character_name : ℕ → List ℕ
character_name c = if c == 0x00 then codes "nul" else if c == 0x07 then codes "alarm" else if c == 0x08 then codes "backspace"
    else if c == 0x09 then codes "tab" else if c == 0x0A then codes "newline" else if c == 0x0B then codes "vtab"
    else if c == 0x0C then codes "page" else if c == 0x0D then codes "return" else if c == 0x1B then codes "esc"
    else if c == 0x20 then codes "space" else if c == 0x7F then codes "delete" else unnamed c

abbrev pub character_text : ℕ → List ℕ
character_text c = codes "#\\" ++ character_name c
