-- Strings (R6RS 4.2.7).
use Rattle.std.specs.Prelude.{ℕ, zero, suc, ◌+◌, ◌-◌, List, [], ◌∷◌, ◌++◌, length, drop, slice_index, Option, Some, None, Result, Ok, ◌==◌, if◌then◌else◌, encode_utf8}
use Rattle.bstr.specs.Utf8.{Decoded}
use Rattle.base_data.specs.Gives.{◌>>=◌}
use Rattle.base_data.specs.Place.{line_end}
use Rattle.base_data.specs.declared.atom.Atom.TheVariants as atom
use Rattle.base_data.specs.declared.fault.Fault.{Fault}
use Rattle.base_data.specs.declared.fault.FaultKind.TheVariants as kind
use Rattle.read_spelling.specs.Escapes.{escape}
use Rattle.read_lexer.specs.Faults.{refused}
use Rattle.read_spelling.specs.Numbers.{digits_size}
use Rattle.read_spelling.specs.Source.{characters, piece}
use Rattle.read_spelling.specs.Whitespace.{blanks_end}
use Rattle.read_spelling.specs.declared.escapes.Letter.{Letter}
use Rattle.read_lexer.specs.declared.token.Lexeme.{Lexeme}
use Rattle.read_lexer.specs.declared.token.Token.TheVariants as token

abbrev pub char_or_byte : List ℕ → ℕ → Option ℕ → ℕ → Result Decoded Fault
char_or_byte file at None size = refused file kind.BadUtf8 at (at + 1)
char_or_byte file at (Some c) size = Ok (piece (Some c) size)

-- what a letter, a quote or a backslash stands for behind a backslash
abbrev pub simple_escape : ℕ → Option ℕ
simple_escape b = if b == 0x61 then Some 0x07 else if b == 0x62 then Some 0x08 else if b == 0x74 then Some 0x09
    else if b == 0x6E then Some 0x0A else if b == 0x76 then Some 0x0B else if b == 0x66 then Some 0x0C
    else if b == 0x72 then Some 0x0D else if b == 0x22 then Some 0x22 else if b == 0x5C then Some 0x5C else None

abbrev pub char_text : Option ℕ → List ℕ
char_text None = []
char_text (Some c) = encode_utf8 c

abbrev pub string_lexeme : List ℕ → ℕ → ℕ → Lexeme
string_lexeme out quote to = record { token = token.Atom (atom.Str out); from = quote; to = to }

-- the string whose opening quote stands at this offset of this file
module _ (file : List ℕ) (quote : ℕ) where
  -- the character with which a string goes on at this offset; the end leaves it unclosed
  abbrev pub char_here : ℕ → List Decoded → Result Decoded Fault
  char_here at [] = refused file kind.Unclosed quote (quote + 1)
  char_here at (p ∷ ps) = char_or_byte file at p.char p.size

  abbrev pub letter_or_fault : ℕ → Option Letter → Result Decoded Fault
  letter_or_fault at None = refused file kind.BadEscape quote at
  letter_or_fault at (Some l) = Ok (piece (Some l.char) l.size)

  -- `\xHEX;`, which has n digits
  abbrev pub hex_part : ℕ → ℕ → List ℕ → Result Decoded Fault
  hex_part at n bytes = char_here (at + 2 + n) (characters (drop (2 + n) bytes)) >>= λ _. letter_or_fault at (escape bytes)

  -- behind a backslash at this offset and blanks: a line end of n bytes and blanks, which stand for nothing
  abbrev pub line_part : ℕ → ℕ → ℕ → List ℕ → Result Decoded Fault
  line_part at here n rest = char_here here (characters rest)
      >>= λ _. if n == 0 then refused file kind.BadEscape quote at else Ok (piece None (blanks_end (here + n) (characters (drop n rest)) - at))

  abbrev pub behind_blanks : ℕ → ℕ → List ℕ → Result Decoded Fault
  behind_blanks at here rest = line_part at here (line_end rest) rest

  -- what a backslash at this offset begins, which is the first of the bytes
  abbrev pub escape_part : List ℕ → ℕ → Option ℕ → Result Decoded Fault
  escape_part bytes at (Some c) = Ok (piece (Some c) 2)
  escape_part bytes at None = if slice_index bytes 1 == 0x78 then hex_part at (digits_size 16 (drop 2 bytes)) bytes
      else behind_blanks at (blanks_end (at + 1) (characters (drop 1 bytes))) (drop (blanks_end (at + 1) (characters (drop 1 bytes)) - at) bytes)

  -- a line end of n bytes stands for a line feed
  abbrev pub line_or_char : List ℕ → ℕ → ℕ → Result Decoded Fault
  line_or_char bytes at n = if n == 0 then char_here at (characters bytes) else Ok (piece (Some 0x0A) n)

  -- what the string goes on with: the character that it stands for, if any, and how many bytes it takes
  unfoldable pub string_part : List ℕ → ℕ → Result Decoded Fault
  string_part bytes at = if slice_index bytes 0 == 0x5C then escape_part bytes at (simple_escape (slice_index bytes 1))
      else line_or_char bytes at (line_end bytes)

  -- what follows the quote, behind a text that was read; k parts are enough where the bytes are fewer
  unfoldable pub string_from : ℕ → List ℕ → List ℕ → ℕ → Result Lexeme Fault
  string_from zero out bytes at = refused file kind.Unclosed quote (quote + 1)
  string_from (suc k) out bytes at = if slice_index bytes 0 == 0x22 then Ok (string_lexeme out quote (at + 1))
      else string_part bytes at >>= λ p. string_from k (out ++ char_text p.char) (drop p.size bytes) (at + p.size)

-- the string whose opening quote is the first of the bytes
abbrev pub string_at : List ℕ → List ℕ → ℕ → Result Lexeme Fault
string_at file bytes from = string_from file from (suc (length (drop 1 bytes))) [] (drop 1 bytes) (from + 1)
