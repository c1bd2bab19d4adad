-- Identifiers and numbers that are faulty (R6RS 4.2.4 and 4.2.8).
use Rattle.std.specs.Prelude.{◌≡◌, ℕ, ◌+◌, ◌<◌, true, false, List, ◌∷◌, take, drop, slice_index, None}
use Rattle.bstr.specs.Utf8.{Decoded}
use Rattle.base_data.specs.declared.fault.Fault.{Fault}
use Rattle.base_data.specs.declared.fault.FaultKind.{FaultKind}
use Rattle.base_data.specs.declared.fault.FaultKind.TheVariants as kind
use Rattle.read_lexer.specs.Faults.{fault_at}
use Rattle.read_lexer.specs.Grammar.{Bare, BarePart, is_special}
use Rattle.read_lexer.specs.Tokens.{is_dot, begins_number, radix}
use Rattle.read_spelling.specs.Escapes.{escape}
use Rattle.read_spelling.specs.Identifiers.{identifier}
use Rattle.read_spelling.specs.Numbers.{is_integer, integer, spelt}
use Rattle.read_spelling.specs.Source.{characters}
use Rattle.law_faults.specs.Behind.{BadBehind, no_character}

-- a text that spells no integer in a base, or none of 128 bits; no base is 0
pub data NoInteger (base : ℕ) (text : List ℕ) : Type 0 where
  no_base : base ≡ 0 → NoInteger base text
  no_digits : is_integer base text ≡ false → NoInteger base text
  too_large : 0 < base → is_integer base text ≡ true → integer base text ≡ None → NoInteger base text

module _ (file : List ℕ) where
  -- in the token that begins at an offset stands a backslash that begins no escape, at this offset
  pub data BadBackslash (bad : FaultKind) (from : ℕ) : ℕ → List ℕ → Fault → Type 0 where
    backslash : (at : ℕ) (bytes : List ℕ) → slice_index bytes 0 ≡ 0x5C → escape bytes ≡ None → BadBackslash bad from at bytes (fault_at file bad from at)

  -- a text that is complete and no token; it ends at the second offset
  pub data BadText (at to : ℕ) (text : List ℕ) : Fault → Type 0 where
    no_name : is_dot text ≡ false → identifier text ≡ None → begins_number (slice_index text 0) ≡ false → BadText at to text (fault_at file kind.BadToken at to)
    too_large : is_dot text ≡ false → identifier text ≡ None → begins_number (slice_index text 0) ≡ true → is_integer 10 text ≡ true → integer 10 text ≡ None
        → BadText at to text (fault_at file kind.BadNumber at to)
    no_number : is_dot text ≡ false → identifier text ≡ None → begins_number (slice_index text 0) ≡ true → is_integer 10 text ≡ false → spelt text ≡ None
        → BadText at to text (fault_at file kind.BadNumber at to)

  -- bytes at this offset that begin no bracket, prefix, string or what a number sign begins, and no identifier or number
  pub data BadBare : ℕ → List ℕ → Fault → Type 0 where
    bad_escape : (at : ℕ) (bytes : List ℕ) (f : Fault) → is_special (slice_index bytes 0) ≡ false
        → BadBehind BarePart (BadBackslash kind.BadEscape at) at bytes f → BadBare at bytes f
    no_char : (at : ℕ) (bytes : List ℕ) (p : Decoded) (ps : List Decoded) → characters bytes ≡ p ∷ ps → p.char ≡ None → BadBare at bytes (no_character file at)
    text : (at : ℕ) (bytes : List ℕ) (n : ℕ) (f : Fault) → is_special (slice_index bytes 0) ≡ false → Bare bytes n → 0 < n
        → BadText at (at + n) (take n bytes) f → BadBare at bytes f

  -- bytes at this offset that begin with a number sign and the mark of a number, and spell no number
  pub data BadMarked : ℕ → List ℕ → Fault → Type 0 where
    bad_escape : (at : ℕ) (bytes : List ℕ) (f : Fault) → BadBehind BarePart (BadBackslash kind.BadNumber at) (at + 2) (drop 2 bytes) f → BadMarked at bytes f
    number : (at : ℕ) (bytes : List ℕ) (n : ℕ) → Bare (drop 2 bytes) n → NoInteger (radix (slice_index bytes 1)) (drop 2 (take (2 + n) bytes))
        → BadMarked at bytes (fault_at file kind.BadNumber at (at + 2 + n))
