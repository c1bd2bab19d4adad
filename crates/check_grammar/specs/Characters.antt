-- Characters in core text (R6RS 4.2.6).
use Rattle.std.specs.Prelude.{ℕ, List, ◌++◌, ◌==◌, ◌&&◌, nat_le, if◌then◌else◌, codes, encode_utf8}
use Rattle.base_data.specs.Hex.{hex}

-- a character by its number, in strings and symbols
abbrev pub escape_text : ℕ → List ℕ
escape_text c = codes "\\x" ++ hex c ++ codes ";"

-- the name of R6RS, or else x and the number
abbrev pub by_name : ℕ → List ℕ
by_name c = if c == 0x00 then codes "nul" else if c == 0x07 then codes "alarm" else if c == 0x08 then codes "backspace"
    else if c == 0x09 then codes "tab" else if c == 0x0A then codes "newline" else if c == 0x0B then codes "vtab"
    else if c == 0x0C then codes "page" else if c == 0x0D then codes "return" else if c == 0x1B then codes "esc"
    else if c == 0x20 then codes "space" else if c == 0x7F then codes "delete" else codes "x" ++ hex c

-- U+0021 to U+007E stand for themselves
abbrev pub character_text : ℕ → List ℕ
character_text c = if nat_le 0x21 c && nat_le c 0x7E then codes "#\\" ++ encode_utf8 c else codes "#\\" ++ by_name c
