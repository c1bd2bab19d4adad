-- Strings in core text (R6RS 4.2.7).
use Rattle.std.specs.Prelude.{ℕ, List, ◌++◌, ◌==◌, ◌&&◌, nat_le, if◌then◌else◌, codes, encode_utf8}
use Rattle.std.specs.List.{flat_map}
use Rattle.std.specs.Str.{chars}
use Rattle.check_grammar.specs.Characters.{escape_text}

-- U+0020 to U+007E as they are, and others by their numbers
abbrev pub by_number : ℕ → List ℕ
by_number c = if nat_le 0x20 c && nat_le c 0x7E then encode_utf8 c else escape_text c

abbrev pub string_character : ℕ → List ℕ
string_character c = if c == 0x07 then codes "\\a" else if c == 0x08 then codes "\\b" else if c == 0x09 then codes "\\t"
    else if c == 0x0A then codes "\\n" else if c == 0x0B then codes "\\v" else if c == 0x0C then codes "\\f"
    else if c == 0x0D then codes "\\r" else if c == 0x22 then codes "\\\"" else if c == 0x5C then codes "\\\\" else by_number c

abbrev pub contents : List ℕ → List ℕ
contents text = flat_map string_character (chars text)

abbrev pub string_text : List ℕ → List ℕ
string_text text = codes "\"" ++ contents text ++ codes "\""
