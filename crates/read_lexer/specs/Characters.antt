-- Characters (R6RS 4.2.6).
use Rattle.std.specs.Prelude.{ℕ, ◌+◌, ◌-◌, List, [], ◌∷◌, take, drop, slice_index, Option, Some, None, Result, Ok, ◌==◌, ◌&&◌, if◌then◌else◌, nat_eq, codes}
use Rattle.std.specs.Cmp.Lexicographic.{pointwise}
use Rattle.bstr.specs.Utf8.{Decoded}
use Rattle.base_data.specs.Gives.{◌>>=◌}
use Rattle.base_data.specs.declared.atom.Atom.TheVariants as atom
use Rattle.base_data.specs.declared.fault.Fault.{Fault}
use Rattle.base_data.specs.declared.fault.FaultKind.TheVariants as kind
use Rattle.read_spelling.specs.Escapes.{scalar_of}
use Rattle.read_lexer.specs.Faults.{refused}
use Rattle.read_spelling.specs.Numbers.{is_digits}
use Rattle.read_spelling.specs.Source.{characters}
use Rattle.read_spelling.specs.Whitespace.{run_end, is_delimited}
use Rattle.read_lexer.specs.declared.token.Lexeme.{Lexeme}
use Rattle.read_lexer.specs.declared.token.Token.TheVariants as token

-- nul alarm backspace tab linefeed newline vtab page return esc space delete
abbrev pub named : List ℕ → Option ℕ
named name = if pointwise nat_eq name (codes "nul") then Some 0x00 else if pointwise nat_eq name (codes "alarm") then Some 0x07
    else if pointwise nat_eq name (codes "backspace") then Some 0x08 else if pointwise nat_eq name (codes "tab") then Some 0x09
    else if pointwise nat_eq name (codes "linefeed") then Some 0x0A else if pointwise nat_eq name (codes "newline") then Some 0x0A
    else if pointwise nat_eq name (codes "vtab") then Some 0x0B else if pointwise nat_eq name (codes "page") then Some 0x0C
    else if pointwise nat_eq name (codes "return") then Some 0x0D else if pointwise nat_eq name (codes "esc") then Some 0x1B
    else if pointwise nat_eq name (codes "space") then Some 0x20 else if pointwise nat_eq name (codes "delete") then Some 0x7F else None

abbrev pub scalar_or_fault : List ℕ → ℕ → ℕ → Option ℕ → Result ℕ Fault
scalar_or_fault file from to (Some c) = Ok c
scalar_or_fault file from to None = refused file kind.BadEscape from to

-- x and hexadecimal digits
abbrev pub hex_character : List ℕ → ℕ → ℕ → List ℕ → Result ℕ Fault
hex_character file from to text = if slice_index text 0 == 0x78 && is_digits 16 (drop 1 text) then scalar_or_fault file from to (scalar_of (drop 1 text))
    else refused file kind.BadToken from to

abbrev pub character_but : List ℕ → ℕ → ℕ → List ℕ → Option ℕ → Result ℕ Fault
character_but file from to text (Some c) = Ok c
character_but file from to text None = hex_character file from to text

-- the character that a text of more than one character spells
abbrev pub long_character : List ℕ → ℕ → ℕ → List ℕ → Result ℕ Fault
long_character file from to text = character_but file from to text (named text)

abbrev pub lexeme_of_char : ℕ → ℕ → ℕ → Lexeme
lexeme_of_char from to c = record { token = token.Atom (atom.Char c); from = from; to = to }

abbrev pub character_end : List ℕ → ℕ → ℕ → ℕ
character_end bytes from size = run_end (from + 2 + size) (characters (drop (2 + size) bytes))

-- the character whose `#\` is the first of the bytes and stands at the offset from
module _ (file bytes : List ℕ) (from : ℕ) where
  -- c is the first character and size its bytes; the token goes up to the offset to, before a delimiter
  abbrev pub character_to : ℕ → ℕ → ℕ → Result ℕ Fault
  character_to c size to = if is_delimited (characters (drop (to - from) bytes))
      then (if to == from + 2 + size then Ok c else long_character file from to (drop 2 (take (to - from) bytes)))
      else refused file kind.BadToken from to

  abbrev pub character_with : Option ℕ → ℕ → Result Lexeme Fault
  character_with None size = refused file kind.BadUtf8 (from + 2) (from + 3)
  character_with (Some c) size = character_to c size (character_end bytes from size)
      >>= λ d. Ok (lexeme_of_char from (character_end bytes from size) d)

  abbrev pub character_behind : List Decoded → Result Lexeme Fault
  character_behind [] = refused file kind.BadToken from (from + 2)
  character_behind (p ∷ ps) = character_with p.char p.size

  abbrev pub character_at : Result Lexeme Fault
  character_at = character_behind (characters (drop 2 bytes))
