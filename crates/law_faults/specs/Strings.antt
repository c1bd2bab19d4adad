-- Strings that are faulty (R6RS 4.2.7).
use Rattle.std.specs.Prelude.{◌≡◌, ◌≢◌, ℕ, ◌+◌, List, [], ◌∷◌, drop, slice_index, Option, Some, None}
use Rattle.bstr.specs.Utf8.{Decoded}
use Rattle.base_data.specs.Place.{line_end}
use Rattle.base_data.specs.declared.fault.Fault.{Fault}
use Rattle.base_data.specs.declared.fault.FaultKind.TheVariants as kind
use Rattle.read_lexer.specs.Faults.{fault_at}
use Rattle.read_lexer.specs.Grammar.{CharacterRun, StringElement}
use Rattle.read_lexer.specs.Strings.{simple_escape}
use Rattle.read_spelling.specs.Escapes.{escape}
use Rattle.read_spelling.specs.Numbers.{digits_size}
use Rattle.read_spelling.specs.Source.{characters, piece}
use Rattle.read_spelling.specs.Whitespace.{is_intraline_char}
use Rattle.law_faults.specs.Behind.{BadBehind, Cut}

-- an element of a string, which is no closing quote
pub data NextElement : List ℕ → ℕ → Type 0 where
  element : (bytes : List ℕ) (char : Option ℕ) (size : ℕ) → slice_index bytes 0 ≢ 0x22 → StringElement bytes char size → NextElement bytes size

module _ (file : List ℕ) (quote : ℕ) where
  -- the string whose opening quote stands there can't go on at this offset, where these are the bytes
  pub data BadElement : ℕ → List ℕ → Fault → Type 0 where
    -- in place of a character
    cut : (at : ℕ) (bytes : List ℕ) (f : Fault) → slice_index bytes 0 ≢ 0x22 → slice_index bytes 0 ≢ 0x5C → line_end bytes ≡ 0
        → Cut file quote at (characters bytes) f → BadElement at bytes f
    -- behind `\x` and n digits
    hex_cut : (at : ℕ) (bytes : List ℕ) (n : ℕ) (f : Fault) → slice_index bytes 0 ≡ 0x5C → slice_index bytes 1 ≡ 0x78 → n ≡ digits_size 16 (drop 2 bytes)
        → Cut file quote (at + 2 + n) (characters (drop (2 + n) bytes)) f → BadElement at bytes f
    -- `\x`, n digits and a character, which are no escape
    no_hex : (at : ℕ) (bytes : List ℕ) (n c size : ℕ) (ps : List Decoded) → slice_index bytes 0 ≡ 0x5C → slice_index bytes 1 ≡ 0x78
        → n ≡ digits_size 16 (drop 2 bytes)
        → characters (drop (2 + n) bytes) ≡ piece (Some c) size ∷ ps → escape bytes ≡ None → BadElement at bytes (fault_at file kind.BadEscape quote at)
    -- behind a backslash and blanks
    blanks_cut : (at : ℕ) (bytes : List ℕ) (before : ℕ) (f : Fault) → slice_index bytes 0 ≡ 0x5C
        → simple_escape (slice_index bytes 1) ≡ None → slice_index bytes 1 ≢ 0x78
        → CharacterRun is_intraline_char (characters (drop 1 bytes)) before
        → Cut file quote (at + 1 + before) (characters (drop (1 + before) bytes)) f → BadElement at bytes f
    -- a backslash, blanks and a character that ends no line, which are no escape
    no_line : (at : ℕ) (bytes : List ℕ) (before c size : ℕ) (ps : List Decoded) → slice_index bytes 0 ≡ 0x5C
        → simple_escape (slice_index bytes 1) ≡ None → slice_index bytes 1 ≢ 0x78
        → CharacterRun is_intraline_char (characters (drop 1 bytes)) before
        → characters (drop (1 + before) bytes) ≡ piece (Some c) size ∷ ps → line_end (drop (1 + before) bytes) ≡ 0
        → BadElement at bytes (fault_at file kind.BadEscape quote at)

  -- behind some elements the string can't go on
  abbrev pub BadString : ℕ → List ℕ → Fault → Type 0
  BadString = BadBehind NextElement BadElement
