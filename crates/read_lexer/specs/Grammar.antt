-- What bytes spell a token (R6RS 4.2.1).
use Rattle.std.specs.Prelude.{◌≡◌, ◌≢◌, ℕ, ◌+◌, ◌<◌, ◌≤◌, Bool, true, false, not, List, [], ◌∷◌, ◌++◌, take, drop, length, slice_index, Option, Some, None, ◌==◌, ◌&&◌, ◌||◌, if◌then◌else◌, nat_eq, codes, ℤ, ◌↔◌, Ok}
use Rattle.std.specs.List.{starts_with}
use Rattle.bstr.specs.Utf8.{Decoded}
use Rattle.base_data.specs.Place.{line_end}
use Rattle.base_data.specs.declared.atom.Atom.TheVariants as atom
use Rattle.read_lexer.specs.Between.{Gap}
use Rattle.read_lexer.specs.Characters.{named}
use Rattle.read_lexer.specs.Row.{PartRow}
use Rattle.read_lexer.specs.Strings.{simple_escape, char_text}
use Rattle.read_lexer.specs.Tokens.{is_number_mark, radix, is_true, is_false, is_dot, begins_number, next_lexeme}
use Rattle.read_lexer.specs.declared.token.Abbreviation.TheVariants as abbreviation
use Rattle.read_lexer.specs.declared.token.Bracket.TheVariants as bracket
use Rattle.read_lexer.specs.declared.token.Lexeme.{Lexeme}
use Rattle.read_lexer.specs.declared.token.Token.{Token}
use Rattle.read_lexer.specs.declared.token.Token.TheVariants as token
use Rattle.read_spelling.specs.Escapes.{escape, scalar_of}
use Rattle.read_spelling.specs.Identifiers.{identifier}
use Rattle.read_spelling.specs.Numbers.{is_digits, is_integer, integer, spelt}
use Rattle.read_spelling.specs.Source.{characters, piece}
use Rattle.read_spelling.specs.Whitespace.{is_delimiter, is_delimited, is_intraline_char, runs_on}
use Rattle.read_spelling.specs.declared.escapes.Letter.{Letter}

-- a character of a bare token, or an escape
pub data BarePart : List ℕ → ℕ → Type 0 where
  char : (bytes : List ℕ) (c size : ℕ) (rest : List Decoded) → slice_index bytes 0 ≢ 0x5C → characters bytes ≡ piece (Some c) size ∷ rest
      → is_delimiter c ≡ false → BarePart bytes size
  escaped : (bytes : List ℕ) (l : Letter) → slice_index bytes 0 ≡ 0x5C → escape bytes ≡ Some l → BarePart bytes l.size

abbrev pub runs_first : List Decoded → Bool
runs_first [] = false
runs_first (p ∷ ps) = runs_on p.char

-- neither an escape nor a character that is no delimiter comes next
abbrev pub ends_bare : List ℕ → Bool
ends_bare bytes = not (slice_index bytes 0 == 0x5C) && not (runs_first (characters bytes))

-- the characters of a bare token, which takes so many bytes
abbrev pub Bare : List ℕ → ℕ → Type 0
Bare = PartRow ends_bare BarePart

-- a run of the characters of a test, which takes so many bytes, as long as it can be
pub data CharacterRun (test : Option ℕ → Bool) : List Decoded → ℕ → Type 0 where
  source_end : CharacterRun test [] 0
  stop : (p : Decoded) (rest : List Decoded) → test p.char ≡ false → CharacterRun test (p ∷ rest) 0
  more : (n : ℕ) (p : Decoded) (rest : List Decoded) → test p.char ≡ true → CharacterRun test rest n → CharacterRun test (p ∷ rest) (p.size + n)

-- an element of a string, what it stands for, if anything, and how many bytes it takes (R6RS 4.2.7)
pub data StringElement : List ℕ → Option ℕ → ℕ → Type 0 where
  char : (bytes : List ℕ) (c size : ℕ) (rest : List Decoded) → slice_index bytes 0 ≢ 0x5C → characters bytes ≡ piece (Some c) size ∷ rest
      → line_end bytes ≡ 0 → StringElement bytes (Some c) size
  line : (bytes : List ℕ) → slice_index bytes 0 ≢ 0x5C → 0 < line_end bytes → StringElement bytes (Some 0x0A) (line_end bytes)
  simple : (bytes : List ℕ) (c : ℕ) → slice_index bytes 0 ≡ 0x5C → simple_escape (slice_index bytes 1) ≡ Some c → StringElement bytes (Some c) 2
  hex : (bytes : List ℕ) (l : Letter) → slice_index bytes 0 ≡ 0x5C → escape bytes ≡ Some l → StringElement bytes (Some l.char) l.size
  continued : (bytes rest : List ℕ) (before after c size : ℕ) (ps : List Decoded) → slice_index bytes 0 ≡ 0x5C
      → simple_escape (slice_index bytes 1) ≡ None → slice_index bytes 1 ≢ 0x78
      → CharacterRun is_intraline_char (characters (drop 1 bytes)) before → rest ≡ drop (1 + before) bytes → 0 < line_end rest
      → characters rest ≡ piece (Some c) size ∷ ps
      → CharacterRun is_intraline_char (characters (drop (line_end rest) rest)) after → StringElement bytes None (1 + before + line_end rest + after)

-- the elements of a string, with the closing quote, and the text that they stand for
pub data StringElements : List ℕ → ℕ → List ℕ → Type 0 where
  close : (bytes : List ℕ) → slice_index bytes 0 ≡ 0x22 → StringElements bytes 1 []
  more : (bytes text : List ℕ) (char : Option ℕ) (size n : ℕ) → slice_index bytes 0 ≢ 0x22 → StringElement bytes char size
      → StringElements (drop size bytes) n text
      → StringElements bytes (size + n) (char_text char ++ text)

-- ( ) [ ] ' `
abbrev pub sign_of : ℕ → Option Token
sign_of b = if b == 0x28 then Some (token.Open bracket.Round) else if b == 0x29 then Some (token.Close bracket.Round)
    else if b == 0x5B then Some (token.Open bracket.Square) else if b == 0x5D then Some (token.Close bracket.Square)
    else if b == 0x27 then Some (token.Abbreviation abbreviation.Quote) else if b == 0x60 then Some (token.Abbreviation abbreviation.Quasiquote) else None

-- ( ; ' ` behind a number sign
abbrev pub hash_sign_of : ℕ → Option Token
hash_sign_of b = if b == 0x28 then Some token.OpenVector else if b == 0x3B then Some token.SkipDatum
    else if b == 0x27 then Some (token.Abbreviation abbreviation.Syntax) else if b == 0x60 then Some (token.Abbreviation abbreviation.Quasisyntax) else None

-- no bare token begins with these bytes
abbrev pub is_special : ℕ → Bool
is_special b = b == 0x28 || b == 0x29 || b == 0x5B || b == 0x5D || b == 0x27 || b == 0x60 || b == 0x2C || b == 0x22 || b == 0x23

-- the character that a text behind `#\` spells, where it is more than that character (R6RS 4.2.6)
pub data SpellsCharacter : List ℕ → ℕ → Type 0 where
  by_name : (text : List ℕ) (c : ℕ) → named text ≡ Some c → SpellsCharacter text c
  by_number : (text : List ℕ) (c : ℕ) → named text ≡ None → slice_index text 0 ≡ 0x78 → is_digits 16 (drop 1 text) ≡ true
      → scalar_of (drop 1 text) ≡ Some c → SpellsCharacter text c

-- bytes that begin with `#\` spell a character in so many bytes, before a delimiter
pub data IsCharacter : List ℕ → ℕ → ℕ → Type 0 where
  one : (bytes : List ℕ) (c size : ℕ) (ps : List Decoded) → characters (drop 2 bytes) ≡ piece (Some c) size ∷ ps
      → CharacterRun runs_on (characters (drop (2 + size) bytes)) 0
      → is_delimited (characters (drop (2 + size) bytes)) ≡ true → IsCharacter bytes (2 + size) c
  long : (bytes : List ℕ) (c size n d : ℕ) (ps : List Decoded) → characters (drop 2 bytes) ≡ piece (Some c) size ∷ ps
      → CharacterRun runs_on (characters (drop (2 + size) bytes)) n → 0 < n
      → is_delimited (characters (drop (2 + size + n) bytes)) ≡ true → SpellsCharacter (drop 2 (take (2 + size + n) bytes)) d
      → IsCharacter bytes (2 + size + n) d

-- the token that a bare text spells: the dot, an identifier or a number (R6RS 4.2.4 and 4.2.8)
pub data IsBare : List ℕ → Token → Type 0 where
  dot : (text : List ℕ) → is_dot text ≡ true → IsBare text token.Dot
  symbol : (text name : List ℕ) → is_dot text ≡ false → identifier text ≡ Some name → IsBare text (token.Symbol name)
  whole : (text : List ℕ) (z : ℤ) → is_dot text ≡ false → identifier text ≡ None → begins_number (slice_index text 0) ≡ true
      → is_integer 10 text ≡ true → integer 10 text ≡ Some z → IsBare text (token.Atom (atom.Int z))
  kept : (text as_spelt : List ℕ) → is_dot text ≡ false → identifier text ≡ None → begins_number (slice_index text 0) ≡ true
      → is_integer 10 text ≡ false → spelt text ≡ Some as_spelt → IsBare text (token.Atom (atom.Spelt as_spelt))

-- the bytes begin with a token, which takes so many of them
pub data IsToken : List ℕ → ℕ → Token → Type 0 where
  sign : (bytes : List ℕ) (t : Token) → sign_of (slice_index bytes 0) ≡ Some t → IsToken bytes 1 t
  unquote : (bytes : List ℕ) → slice_index bytes 0 ≡ 0x2C → slice_index bytes 1 ≢ 0x40 → IsToken bytes 1 (token.Abbreviation abbreviation.Unquote)
  unquote_splicing : (bytes : List ℕ) → slice_index bytes 0 ≡ 0x2C → slice_index bytes 1 ≡ 0x40
      → IsToken bytes 2 (token.Abbreviation abbreviation.UnquoteSplicing)
  string : (bytes text : List ℕ) (n : ℕ) → slice_index bytes 0 ≡ 0x22 → StringElements (drop 1 bytes) n text
      → IsToken bytes (1 + n) (token.Atom (atom.Str text))
  hash_sign : (bytes : List ℕ) (t : Token) → slice_index bytes 0 ≡ 0x23 → hash_sign_of (slice_index bytes 1) ≡ Some t → IsToken bytes 2 t
  unsyntax : (bytes : List ℕ) → slice_index bytes 0 ≡ 0x23 → slice_index bytes 1 ≡ 0x2C → slice_index bytes 2 ≢ 0x40
      → IsToken bytes 2 (token.Abbreviation abbreviation.Unsyntax)
  unsyntax_splicing : (bytes : List ℕ) → slice_index bytes 0 ≡ 0x23 → slice_index bytes 1 ≡ 0x2C → slice_index bytes 2 ≡ 0x40
      → IsToken bytes 3 (token.Abbreviation abbreviation.UnsyntaxSplicing)
  character : (bytes : List ℕ) (n c : ℕ) → slice_index bytes 0 ≡ 0x23 → slice_index bytes 1 ≡ 0x5C → IsCharacter bytes n c
      → IsToken bytes n (token.Atom (atom.Char c))
  open_bytes : (bytes : List ℕ) → starts_with nat_eq bytes (codes "#vu8(") ≡ true → IsToken bytes 5 token.OpenBytes
  yes : (bytes : List ℕ) → slice_index bytes 0 ≡ 0x23 → is_true (slice_index bytes 1) ≡ true
      → is_delimited (characters (drop 2 bytes)) ≡ true → IsToken bytes 2 (token.Atom (atom.Bool true))
  no : (bytes : List ℕ) → slice_index bytes 0 ≡ 0x23 → is_false (slice_index bytes 1) ≡ true
      → is_delimited (characters (drop 2 bytes)) ≡ true → IsToken bytes 2 (token.Atom (atom.Bool false))
  marked : (bytes : List ℕ) (n : ℕ) (z : ℤ) → slice_index bytes 0 ≡ 0x23 → is_number_mark (slice_index bytes 1) ≡ true
      → Bare (drop 2 bytes) n → 0 < radix (slice_index bytes 1)
      → is_integer (radix (slice_index bytes 1)) (drop 2 (take (2 + n) bytes)) ≡ true
      → integer (radix (slice_index bytes 1)) (drop 2 (take (2 + n) bytes)) ≡ Some z
      → IsToken bytes (2 + n) (token.Atom (atom.Int z))
  bare : (bytes : List ℕ) (n : ℕ) (t : Token) → is_special (slice_index bytes 0) ≡ false → Bare bytes n → 0 < n → IsBare (take n bytes) t → IsToken bytes n t

-- bytes begin with one token at most
abbrev pub OneToken : Type 0
OneToken = (bytes : List ℕ) (n m : ℕ) (t u : Token) → IsToken bytes n t → IsToken bytes m u → (n ≡ m) × (t ≡ u)

-- the lexeme behind an offset is exactly the token behind the gap there
abbrev pub LexemesAre : Type 0
LexemesAre = (file bytes : List ℕ) (at : ℕ) (l : Lexeme) → (next_lexeme file bytes at ≡ Ok (Some l))
    ↔ ((n : ℕ) × (l.from ≡ at + n) × Gap (drop at bytes) n × (size : ℕ) × (l.to ≡ l.from + size) × IsToken (drop l.from bytes) size l.token)

-- there is none exactly where the gap goes up to the end
abbrev pub EndsAre : Type 0
EndsAre = (file bytes : List ℕ) (at : ℕ) → (next_lexeme file bytes at ≡ Ok None) ↔ ((n : ℕ) × Gap (drop at bytes) n × (length bytes ≤ at + n))
