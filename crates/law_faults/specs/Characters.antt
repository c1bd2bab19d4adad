-- Characters that are faulty (R6RS 4.2.6).
use Rattle.std.specs.Prelude.{◌≡◌, ℕ, ◌+◌, ◌<◌, true, false, List, [], ◌∷◌, take, drop, slice_index, Some, None, ◌==◌, ◌&&◌}
use Rattle.bstr.specs.Utf8.{Decoded}
use Rattle.base_data.specs.declared.fault.Fault.{Fault}
use Rattle.base_data.specs.declared.fault.FaultKind.TheVariants as kind
use Rattle.read_lexer.specs.Characters.{named}
use Rattle.read_lexer.specs.Faults.{fault_at}
use Rattle.read_lexer.specs.Grammar.{CharacterRun}
use Rattle.read_spelling.specs.Escapes.{scalar_of}
use Rattle.read_spelling.specs.Numbers.{is_digits}
use Rattle.read_spelling.specs.Source.{characters, piece}
use Rattle.read_spelling.specs.Whitespace.{is_delimited, runs_on}

-- the first character behind `#\` and all behind it up to a delimiter take so many bytes; those behind the first take n
pub record WholeCharacter (bytes : List ℕ) (size n : ℕ) : Type 0 where
  pub char : ℕ
  pub rest : List Decoded
  pub first : characters (drop 2 bytes) ≡ piece (Some char) size ∷ rest
  pub run : CharacterRun runs_on (characters (drop (2 + size) bytes)) n

-- the text behind `#\`
abbrev pub text_of : List ℕ → ℕ → ℕ → List ℕ
text_of bytes size n = drop 2 (take (2 + size + n) bytes)

module _ (file : List ℕ) where
  -- bytes at this offset that begin with `#\` and spell no character
  pub data BadCharacter : ℕ → List ℕ → Fault → Type 0 where
    source_end : (at : ℕ) (bytes : List ℕ) → characters (drop 2 bytes) ≡ [] → BadCharacter at bytes (fault_at file kind.BadToken at (at + 2))
    no_char : (at : ℕ) (bytes : List ℕ) (p : Decoded) (ps : List Decoded) → characters (drop 2 bytes) ≡ p ∷ ps → p.char ≡ None
        → BadCharacter at bytes (fault_at file kind.BadUtf8 (at + 2) (at + 3))
    -- what follows is neither a delimiter nor the end
    undelimited : (at : ℕ) (bytes : List ℕ) (size n : ℕ) → WholeCharacter bytes size n → is_delimited (characters (drop (2 + size + n) bytes)) ≡ false
        → BadCharacter at bytes (fault_at file kind.BadToken at (at + 2 + size + n))
    -- several characters that are no name, and not x and digits
    unknown : (at : ℕ) (bytes : List ℕ) (size n : ℕ) → WholeCharacter bytes size n → 0 < n
        → is_delimited (characters (drop (2 + size + n) bytes)) ≡ true → named (text_of bytes size n) ≡ None
        → (slice_index (text_of bytes size n) 0 == 0x78 && is_digits 16 (drop 1 (text_of bytes size n))) ≡ false
        → BadCharacter at bytes (fault_at file kind.BadToken at (at + 2 + size + n))
    -- x and the digits of a number that no character has
    no_scalar : (at : ℕ) (bytes : List ℕ) (size n : ℕ) → WholeCharacter bytes size n → 0 < n
        → is_delimited (characters (drop (2 + size + n) bytes)) ≡ true → named (text_of bytes size n) ≡ None
        → slice_index (text_of bytes size n) 0 ≡ 0x78 → is_digits 16 (drop 1 (text_of bytes size n)) ≡ true → scalar_of (drop 1 (text_of bytes size n)) ≡ None
        → BadCharacter at bytes (fault_at file kind.BadEscape at (at + 2 + size + n))
