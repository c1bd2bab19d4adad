-- What stands between tokens: whitespace and comments (R6RS 4.2.3).
use Rattle.std.specs.Prelude.{ℕ, ◌+◌, ◌-◌, Bool, false, List, [], ◌∷◌, ◌++◌, length, take, drop, slice_index, Option, Some, None, is_none, Result, Ok, ◌==◌, ◌&&◌, ◌||◌, if◌then◌else◌, nat_eq, codes}
use Rattle.std.specs.List.{starts_with}
use Rattle.bstr.specs.Utf8.{Decoded}
use Rattle.base_data.specs.declared.fault.Fault.{Fault}
use Rattle.base_data.specs.declared.fault.FaultKind.TheVariants as kind
use Rattle.read_lexer.specs.Faults.{refused}
use Rattle.read_lexer.specs.Repeat.{repeat}
use Rattle.read_spelling.specs.Source.{characters}
use Rattle.read_spelling.specs.Whitespace.{ends_line, is_delimited, whitespace_end}
use Rattle.read_lexer.specs.declared.gap.Until.{Until}
use Rattle.read_lexer.specs.declared.gap.Until.TheVariants as until

abbrev pub ends_there : Until → Option ℕ → Bool
ends_there u None = false
ends_there until.LineEnd (Some c) = ends_line c
ends_there until.LineOrParagraphEnd (Some c) = ends_line c || c == 0x2029

-- the offset of what ends a line, or of the end of the source
abbrev pub rest_of_line : List ℕ → Until → ℕ → List Decoded → Result ℕ Fault
rest_of_line file u at [] = Ok at
rest_of_line file u at (p ∷ ps) = if is_none p.char then refused file kind.BadUtf8 at (at + 1)
    else if ends_there u p.char then Ok at else rest_of_line file u (at + p.size) ps

abbrev pub is_char : ℕ → Option ℕ → Bool
is_char c None = false
is_char c (Some d) = c == d

-- `#|`
abbrev pub opens_comment : Option ℕ → Option ℕ → Bool
opens_comment last char = is_char 0x23 last && is_char 0x7C char

-- `|#`
abbrev pub closes_comment : Option ℕ → Option ℕ → Bool
closes_comment last char = is_char 0x7C last && is_char 0x23 char

abbrev pub innermost : List ℕ → ℕ
innermost opens = slice_index opens (length opens - 1)

-- the offset behind a nested comment: opens has the offsets of the `#|` that are open, and last is the character before,
-- where it belongs to no `#|` or `|#`
abbrev pub comment_from : List ℕ → List ℕ → Option ℕ → ℕ → List Decoded → Result ℕ Fault
comment_from file opens last at [] = refused file kind.Unclosed (innermost opens) (innermost opens + 2)
comment_from file opens last at (p ∷ ps) = if is_none p.char then refused file kind.BadUtf8 at (at + 1)
    else if closes_comment last p.char then (if length opens == 1 then Ok (at + p.size)
    else comment_from file (take (length opens - 1) opens) None (at + p.size) ps)
    else if opens_comment last p.char then comment_from file (opens ++ (at - 1) ∷ []) None (at + p.size) ps
    else comment_from file opens p.char (at + p.size) ps

-- the offset behind the whitespace character or the comment that the bytes begin with, or at where neither comes
unfoldable pub atmosphere_end : List ℕ → List ℕ → ℕ → Result ℕ Fault
atmosphere_end file bytes at =
    if slice_index bytes 0 == 0x3B then rest_of_line file until.LineOrParagraphEnd (at + 1) (characters (drop 1 bytes))
    else if starts_with nat_eq bytes (codes "#|") then comment_from file (at ∷ []) None (at + 2) (characters (drop 2 bytes))
    else if starts_with nat_eq bytes (codes "#!r6rs") && is_delimited (characters (drop 6 bytes)) then Ok (at + 6)
    else Ok (whitespace_end at (characters bytes))

-- the offset behind the gap with which the bytes at this offset begin
abbrev pub gap_end : List ℕ → List ℕ → ℕ → Result ℕ Fault
gap_end file bytes at = repeat (atmosphere_end file) bytes at
