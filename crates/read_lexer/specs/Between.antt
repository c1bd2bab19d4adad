-- Between tokens stand whitespace and comments, one after another (R6RS 4.2.3).
use Rattle.std.specs.Prelude.{◌≡◌, ℕ, suc, ◌+◌, Bool, true, false, not, List, [], ◌∷◌, drop, slice_index, Some, is_none, Ok, ◌↔◌, ◌==◌, ◌&&◌, ◌||◌, nat_eq, codes}
use Rattle.std.specs.List.{starts_with}
use Rattle.bstr.specs.Utf8.{Decoded}
use Rattle.read_lexer.specs.Gap.{gap_end, is_char}
use Rattle.read_lexer.specs.Row.{PartRow}
use Rattle.read_spelling.specs.Source.{characters, piece}
use Rattle.read_spelling.specs.Whitespace.{is_whitespace, is_whitespace_char, is_delimited, ends_line}

-- a line end or U+2029
abbrev pub ends_comment : ℕ → Bool
ends_comment c = ends_line c || c == 0x2029

-- the text of a line comment, which takes so many bytes, goes up to what ends it or to the end
pub data CommentLine : List Decoded → ℕ → Type 0 where
  source_end : CommentLine [] 0
  line_end : (c size : ℕ) (rest : List Decoded) → ends_comment c ≡ true → CommentLine (piece (Some c) size ∷ rest) 0
  char : (c size n : ℕ) (rest : List Decoded) → ends_comment c ≡ false → CommentLine rest n → CommentLine (piece (Some c) size ∷ rest) (size + n)

abbrev pub is_next : ℕ → List Decoded → Bool
is_next b [] = false
is_next b (p ∷ ps) = is_char b p.char

-- whether the text begins with these two characters
abbrev pub begins_pair : ℕ → ℕ → List Decoded → Bool
begins_pair a b [] = false
begins_pair a b (p ∷ ps) = is_char a p.char && is_next b ps

abbrev pub opens : List Decoded → Bool
opens text = begins_pair 0x23 0x7C text

abbrev pub closes : List Decoded → Bool
closes text = begins_pair 0x7C 0x23 text

-- the text of block comments that are open, so many of them, goes up to the `|#` that closes the last
pub data BlockComment : ℕ → List Decoded → ℕ → Type 0 where
  closed : (text : List Decoded) → BlockComment 0 text 0
  close : (depth n : ℕ) (p q : Decoded) (rest : List Decoded) → closes (p ∷ q ∷ rest) ≡ true → BlockComment depth rest n
      → BlockComment (suc depth) (p ∷ q ∷ rest) (p.size + q.size + n)
  opening : (depth n : ℕ) (p q : Decoded) (rest : List Decoded) → opens (p ∷ q ∷ rest) ≡ true → BlockComment (suc (suc depth)) rest n
      → BlockComment (suc depth) (p ∷ q ∷ rest) (p.size + q.size + n)
  char : (depth n : ℕ) (p : Decoded) (rest : List Decoded) → is_none p.char ≡ false → closes (p ∷ rest) ≡ false → opens (p ∷ rest) ≡ false
      → BlockComment (suc depth) rest n → BlockComment (suc depth) (p ∷ rest) (p.size + n)

-- a whitespace character or a comment, which takes so many bytes
pub data Atmosphere : List ℕ → ℕ → Type 0 where
  whitespace : (bytes : List ℕ) (c size : ℕ) (rest : List Decoded) → characters bytes ≡ piece (Some c) size ∷ rest → is_whitespace c ≡ true
      → Atmosphere bytes size
  line_comment : (bytes : List ℕ) (n : ℕ) → slice_index bytes 0 ≡ 0x3B → CommentLine (characters (drop 1 bytes)) n → Atmosphere bytes (1 + n)
  block_comment : (bytes : List ℕ) (n : ℕ) → starts_with nat_eq bytes (codes "#|") ≡ true → BlockComment 1 (characters (drop 2 bytes)) n
      → Atmosphere bytes (2 + n)
  report_mark : (bytes : List ℕ) → starts_with nat_eq bytes (codes "#!r6rs") ≡ true → is_delimited (characters (drop 6 bytes)) ≡ true → Atmosphere bytes 6

abbrev pub whitespace_first : List Decoded → Bool
whitespace_first [] = false
whitespace_first (p ∷ ps) = is_whitespace_char p.char

-- whether neither whitespace nor a comment comes first
abbrev pub no_gap : List ℕ → Bool
no_gap bytes = not (slice_index bytes 0 == 0x3B) && not (starts_with nat_eq bytes (codes "#|"))
    && not (starts_with nat_eq bytes (codes "#!r6rs") && is_delimited (characters (drop 6 bytes))) && not (whitespace_first (characters bytes))

-- whitespace characters and comments one after another, which take so many bytes; what follows begins neither
abbrev pub Gap : List ℕ → ℕ → Type 0
Gap = PartRow no_gap Atmosphere

-- exactly that stands between two tokens
abbrev pub GapsAre : Type 0
GapsAre = (file bytes : List ℕ) (at to : ℕ) → (gap_end file bytes at ≡ Ok to) ↔ ((n : ℕ) × (to ≡ at + n) × Gap bytes n)
