-- Whitespace, and what ends lines and tokens (R6RS 4.2.1 and 4.2.2).
use Rattle.std.specs.Prelude.{ℕ, ◌+◌, Bool, true, false, List, [], ◌∷◌, Option, Some, None, ◌==◌, ◌&&◌, ◌||◌, nat_le, nat_lt, if◌then◌else◌}
use Rattle.bstr.specs.Utf8.{Decoded}
use Rattle.ucd_category.specs.GeneralCategory.{general_category}
use Rattle.ucd_category.specs.GeneralCategoryGroup.{in_group}
use Rattle.ucd_category.specs.declared.GeneralCategory.{GeneralCategory}
use Rattle.ucd_category.specs.declared.GeneralCategory.TheVariants.{SpaceSeparator}
use Rattle.ucd_category.specs.declared.GeneralCategoryGroup.TheVariants as group

abbrev pub is_space_separator : GeneralCategory → Bool
is_space_separator SpaceSeparator = true
is_space_separator _ = false

-- U+0009 to U+000D, U+0085, and the general categories Zs, Zl and Zp, of which the space alone is ASCII
abbrev pub is_whitespace : ℕ → Bool
is_whitespace c = if nat_lt c 0x80 then c == 0x20 || (nat_le 0x09 c && nat_le c 0x0D)
    else c == 0x85 || in_group group.Separator (general_category c)

-- the tab and the general category Zs
abbrev pub is_intraline : ℕ → Bool
is_intraline c = if nat_lt c 0x80 then c == 0x20 || c == 0x09 else is_space_separator (general_category c)

-- a line feed, a carriage return, U+0085 and U+2028
abbrev pub ends_line : ℕ → Bool
ends_line c = c == 0x0A || c == 0x0D || c == 0x85 || c == 0x2028

-- parentheses, brackets, the double quote, the semicolon and the number sign
abbrev pub is_sign : ℕ → Bool
is_sign c = c == 0x28 || c == 0x29 || c == 0x5B || c == 0x5D || c == 0x22 || c == 0x3B || c == 0x23

abbrev pub is_delimiter : ℕ → Bool
is_delimiter c = is_sign c || is_whitespace c

abbrev pub is_whitespace_char : Option ℕ → Bool
is_whitespace_char None = false
is_whitespace_char (Some c) = is_whitespace c

abbrev pub is_intraline_char : Option ℕ → Bool
is_intraline_char None = false
is_intraline_char (Some c) = is_intraline c

abbrev pub is_delimiter_char : Option ℕ → Bool
is_delimiter_char None = false
is_delimiter_char (Some c) = is_delimiter c

-- whether a delimiter or the end comes first
abbrev pub is_delimited : List Decoded → Bool
is_delimited [] = true
is_delimited (p ∷ ps) = is_delimiter_char p.char

-- the offset behind a whitespace character, where one comes first
abbrev pub whitespace_end : ℕ → List Decoded → ℕ
whitespace_end at [] = at
whitespace_end at (p ∷ ps) = if is_whitespace_char p.char then at + p.size else at

-- the offset behind a run of intraline whitespace
abbrev pub blanks_end : ℕ → List Decoded → ℕ
blanks_end at [] = at
blanks_end at (p ∷ ps) = if is_intraline_char p.char then blanks_end (at + p.size) ps else at

abbrev pub runs_on : Option ℕ → Bool
runs_on None = false
runs_on (Some c) = if is_delimiter c then false else true

-- the offset behind a run of characters that are no delimiters
abbrev pub run_end : ℕ → List Decoded → ℕ
run_end at [] = at
run_end at (p ∷ ps) = if runs_on p.char then run_end (at + p.size) ps else at
