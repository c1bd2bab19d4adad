-- Where parts that are right end.
use Rattle.std.specs.Prelude.{◌≡◌, ℕ, ◌+◌, List, [], ◌∷◌, drop, None}
use Rattle.bstr.specs.Utf8.{Decoded}
use Rattle.base_data.specs.declared.fault.Fault.{Fault}
use Rattle.base_data.specs.declared.fault.FaultKind.TheVariants as kind
use Rattle.read_lexer.specs.Faults.{fault_at}

-- the byte at this offset begins no character of UTF-8
abbrev pub no_character : List ℕ → ℕ → Fault
no_character file at = fault_at file kind.BadUtf8 at (at + 1)

-- from an offset, where these are the bytes, stand some parts one after another, which take so many bytes, and then bytes that
-- are bad with this fault
pub data BadBehind (Part : List ℕ → ℕ → Type 0) (Bad : ℕ → List ℕ → Fault → Type 0) : ℕ → List ℕ → Fault → Type 0 where
  here : (at : ℕ) (bytes : List ℕ) (f : Fault) → Bad at bytes f → BadBehind Part Bad at bytes f
  more : (at size : ℕ) (bytes : List ℕ) (f : Fault) → Part bytes size → BadBehind Part Bad (at + size) (drop size bytes) f → BadBehind Part Bad at bytes f

-- what opened at an offset goes on, and here the source ends, or comes a byte that begins no character
pub data Cut (file : List ℕ) (opening : ℕ) : ℕ → List Decoded → Fault → Type 0 where
  source_end : (at : ℕ) → Cut file opening at [] (fault_at file kind.Unclosed opening (opening + 1))
  no_char : (at : ℕ) (p : Decoded) (ps : List Decoded) → p.char ≡ None → Cut file opening at (p ∷ ps) (no_character file at)
