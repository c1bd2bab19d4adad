-- Tokens, one after another (R6RS 4.2.1).
use Rattle.std.specs.Prelude.{ℕ, ◌+◌, ◌-◌, Bool, true, false, List, [], ◌∷◌, length, take, drop, slice_index, Option, Some, None, Result, Ok, ◌==◌, ◌&&◌, ◌||◌, nat_le, nat_lt, if◌then◌else◌, ℤ, nat_eq, codes}
use Rattle.std.specs.List.{starts_with}
use Rattle.bstr.specs.Utf8.{Decoded}
use Rattle.base_data.specs.Gives.{◌>>=◌}
use Rattle.base_data.specs.declared.atom.Atom.TheVariants as atom
use Rattle.base_data.specs.declared.fault.Fault.{Fault}
use Rattle.base_data.specs.declared.fault.FaultKind.{FaultKind}
use Rattle.base_data.specs.declared.fault.FaultKind.TheVariants as kind
use Rattle.read_lexer.specs.Characters.{character_at}
use Rattle.read_spelling.specs.Escapes.{escape}
use Rattle.read_lexer.specs.Faults.{refused}
use Rattle.read_lexer.specs.Gap.{gap_end}
use Rattle.read_spelling.specs.Identifiers.{identifier}
use Rattle.read_spelling.specs.Numbers.{is_integer, integer, spelt, is_number_sign}
use Rattle.read_lexer.specs.Repeat.{repeat}
use Rattle.read_spelling.specs.Source.{characters}
use Rattle.read_lexer.specs.Strings.{string_at}
use Rattle.read_spelling.specs.Whitespace.{is_delimited, run_end, runs_on}
use Rattle.read_spelling.specs.declared.escapes.Letter.{Letter}
use Rattle.read_lexer.specs.declared.token.Abbreviation.TheVariants as abbreviation
use Rattle.read_lexer.specs.declared.token.Bracket.TheVariants as bracket
use Rattle.read_lexer.specs.declared.token.Lexeme.{Lexeme}
use Rattle.read_lexer.specs.declared.token.Token.{Token}
use Rattle.read_lexer.specs.declared.token.Token.TheVariants as token

abbrev pub lexeme : Token → ℕ → ℕ → Lexeme
lexeme t from to = record { token = t; from = from; to = to }

-- the offset behind the first character, where it is no delimiter
abbrev pub char_end : ℕ → List Decoded → ℕ
char_end at [] = at
char_end at (p ∷ ps) = if runs_on p.char then at + p.size else at

-- bad is the fault of a backslash that begins no escape
abbrev pub escape_end : List ℕ → FaultKind → ℕ → ℕ → Option Letter → Result ℕ Fault
escape_end file bad from at (Some l) = Ok (at + l.size)
escape_end file bad from at None = refused file bad from at

-- a bare token goes on with an escape, or with a character that is no delimiter
unfoldable pub bare_step : List ℕ → FaultKind → ℕ → List ℕ → ℕ → Result ℕ Fault
bare_step file bad from bytes at = if slice_index bytes 0 == 0x5C then escape_end file bad from at (escape bytes) else Ok (char_end at (characters bytes))

-- the offset behind the bare token that begins at from, where the bytes at this offset are what is left
abbrev pub bare_end : List ℕ → FaultKind → ℕ → List ℕ → ℕ → Result ℕ Fault
bare_end file bad from bytes at = repeat (bare_step file bad from) bytes at

abbrev pub number : List ℕ → ℕ → ℕ → Option ℤ → Result Token Fault
number file from to (Some z) = Ok (token.Atom (atom.Int z))
number file from to None = refused file kind.BadNumber from to

abbrev pub spelt_or_fault : List ℕ → ℕ → ℕ → Option (List ℕ) → Result Token Fault
spelt_or_fault file from to (Some text) = Ok (token.Atom (atom.Spelt text))
spelt_or_fault file from to None = refused file kind.BadNumber from to

-- the number that a text spells: an integer, or a ratio or a decimal as it is spelt
abbrev pub number_of : List ℕ → List ℕ → ℕ → ℕ → Result Token Fault
number_of file text from to = if is_integer 10 text then number file from to (integer 10 text)
    else spelt_or_fault file from to (spelt text)

abbrev pub begins_number : ℕ → Bool
begins_number b = (nat_le 0x30 b && nat_le b 0x39) || is_number_sign b || b == 0x2E

-- a text that is no identifier
abbrev pub no_identifier : List ℕ → List ℕ → ℕ → ℕ → Result Token Fault
no_identifier file text from to = if begins_number (slice_index text 0) then number_of file text from to else refused file kind.BadToken from to

abbrev pub identifier_or_else : List ℕ → List ℕ → ℕ → ℕ → Option (List ℕ) → Result Token Fault
identifier_or_else file text from to (Some name) = Ok (token.Symbol name)
identifier_or_else file text from to None = no_identifier file text from to

abbrev pub is_dot : List ℕ → Bool
is_dot text = length text == 1 && slice_index text 0 == 0x2E

-- the token that a bare text spells
abbrev pub bare : List ℕ → List ℕ → ℕ → ℕ → Result Token Fault
bare file text from to = if is_dot text then Ok token.Dot else identifier_or_else file text from to (identifier text)

-- no text at all is a byte that begins no character
abbrev pub bare_to : List ℕ → List ℕ → ℕ → ℕ → Result Lexeme Fault
bare_to file bytes from to = if to == from then refused file kind.BadUtf8 from (from + 1)
    else bare file (take (to - from) bytes) from to >>= λ t. Ok (lexeme t from to)

abbrev pub bare_at : List ℕ → List ℕ → ℕ → Result Lexeme Fault
bare_at file bytes from = bare_end file kind.BadEscape from bytes from >>= λ to. bare_to file bytes from to

-- x b o d e i in either case
abbrev pub is_number_mark : ℕ → Bool
is_number_mark b = b == 0x78 || b == 0x58 || b == 0x62 || b == 0x42 || b == 0x6F || b == 0x4F || b == 0x64 || b == 0x44
    || b == 0x65 || b == 0x45 || b == 0x69 || b == 0x49

-- the base that a mark names, or 0 for e and i
abbrev pub radix : ℕ → ℕ
radix b = if b == 0x78 || b == 0x58 then 16 else if b == 0x62 || b == 0x42 then 2 else if b == 0x6F || b == 0x4F then 8
    else if b == 0x64 || b == 0x44 then 10 else 0

-- the integer that a text spells in a base, where there is one
abbrev pub integer_in : List ℕ → ℕ → List ℕ → ℕ → ℕ → Result Token Fault
integer_in file base text from to = if nat_lt 0 base && is_integer base text then number file from to
    (integer base text) else refused file kind.BadNumber from to

-- a number behind its mark, which is the second of the bytes; no number has a backslash, so a bad escape is a bad number
abbrev pub marked_at : List ℕ → List ℕ → ℕ → Result Lexeme Fault
marked_at file bytes from = bare_end file kind.BadNumber from (drop 2 bytes) (from + 2)
    >>= λ to. integer_in file (radix (slice_index bytes 1)) (drop 2 (take (to - from) bytes)) from to
    >>= λ t. Ok (lexeme t from to)

abbrev pub is_true : ℕ → Bool
is_true b = b == 0x74 || b == 0x54

abbrev pub is_false : ℕ → Bool
is_false b = b == 0x66 || b == 0x46

-- a token of letters behind `#`
abbrev pub word_at : List ℕ → List ℕ → ℕ → Result Lexeme Fault
word_at file bytes from = if starts_with nat_eq bytes (codes "#vu8(") then Ok (lexeme token.OpenBytes from (from + 5))
    else if is_true (slice_index bytes 1) && is_delimited (characters (drop 2 bytes)) then Ok (lexeme (token.Atom (atom.Bool true)) from (from + 2))
    else if is_false (slice_index bytes 1) && is_delimited (characters (drop 2 bytes)) then Ok (lexeme (token.Atom (atom.Bool false)) from (from + 2))
    else refused file kind.BadToken from (run_end (from + 1) (characters (drop 1 bytes)))

-- `,` or `,@`, or these behind `#`: n is how many bytes come before the at sign
abbrev pub unquoting : List ℕ → ℕ → ℕ → abbreviation.the_data → abbreviation.the_data → Lexeme
unquoting bytes from n one all = if slice_index bytes n == 0x40 then lexeme (token.Abbreviation all) from (from + n + 1)
    else lexeme (token.Abbreviation one) from (from + n)

-- a token that begins with `#`
abbrev pub hash_at : List ℕ → List ℕ → ℕ → Result Lexeme Fault
hash_at file bytes from =
    if slice_index bytes 1 == 0x28 then Ok (lexeme token.OpenVector from (from + 2))
    else if slice_index bytes 1 == 0x3B then Ok (lexeme token.SkipDatum from (from + 2))
    else if slice_index bytes 1 == 0x27 then Ok (lexeme (token.Abbreviation abbreviation.Syntax) from (from + 2))
    else if slice_index bytes 1 == 0x60 then Ok (lexeme (token.Abbreviation abbreviation.Quasisyntax) from (from + 2))
    else if slice_index bytes 1 == 0x2C then Ok (unquoting bytes from 2 abbreviation.Unsyntax abbreviation.UnsyntaxSplicing)
    else if slice_index bytes 1 == 0x5C then character_at file bytes from
    else if is_number_mark (slice_index bytes 1) then marked_at file bytes from
    else word_at file bytes from

-- the lexeme that the bytes at this offset begin with; there is at least one byte
abbrev pub lexeme_at : List ℕ → List ℕ → ℕ → Result Lexeme Fault
lexeme_at file bytes from =
    if slice_index bytes 0 == 0x28 then Ok (lexeme (token.Open bracket.Round) from (from + 1))
    else if slice_index bytes 0 == 0x29 then Ok (lexeme (token.Close bracket.Round) from (from + 1))
    else if slice_index bytes 0 == 0x5B then Ok (lexeme (token.Open bracket.Square) from (from + 1))
    else if slice_index bytes 0 == 0x5D then Ok (lexeme (token.Close bracket.Square) from (from + 1))
    else if slice_index bytes 0 == 0x27 then Ok (lexeme (token.Abbreviation abbreviation.Quote) from (from + 1))
    else if slice_index bytes 0 == 0x60 then Ok (lexeme (token.Abbreviation abbreviation.Quasiquote) from (from + 1))
    else if slice_index bytes 0 == 0x2C then Ok (unquoting bytes from 1 abbreviation.Unquote abbreviation.UnquoteSplicing)
    else if slice_index bytes 0 == 0x22 then string_at file bytes from
    else if slice_index bytes 0 == 0x23 then hash_at file bytes from
    else bare_at file bytes from

abbrev pub lexeme_behind : List ℕ → List ℕ → ℕ → Result (Option Lexeme) Fault
lexeme_behind file bytes from = if length bytes == 0 then Ok None else lexeme_at file bytes from >>= λ l. Ok (Some l)

-- the lexeme behind the gap at this offset, or none where the source ends there
abbrev pub next_lexeme : List ℕ → List ℕ → ℕ → Result (Option Lexeme) Fault
next_lexeme file bytes at = gap_end file (drop at bytes) at >>= λ from. lexeme_behind file (drop from bytes) from
