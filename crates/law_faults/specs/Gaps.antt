-- Comments that are faulty (R6RS 4.2.3).
use Rattle.std.specs.Prelude.{◌≡◌, ℕ, ◌+◌, Bool, true, false, List, [], ◌∷◌, drop, slice_index, Some, None, is_none, nat_eq, codes}
use Rattle.std.specs.List.{starts_with}
use Rattle.bstr.specs.Utf8.{Decoded}
use Rattle.base_data.specs.declared.fault.Fault.{Fault}
use Rattle.base_data.specs.declared.fault.FaultKind.TheVariants as kind
use Rattle.read_lexer.specs.Between.{Atmosphere, ends_comment, opens, closes}
use Rattle.read_lexer.specs.Faults.{fault_at}
use Rattle.read_spelling.specs.Source.{characters, piece}
use Rattle.law_faults.specs.Behind.{BadBehind, no_character}

module _ (file : List ℕ) where
  -- a line goes on, with characters that don't end it, up to a byte that begins no character
  pub data BadLine (ends : ℕ → Bool) : ℕ → List Decoded → Fault → Type 0 where
    no_char : (at : ℕ) (p : Decoded) (rest : List Decoded) → p.char ≡ None → BadLine ends at (p ∷ rest) (no_character file at)
    char : (at c size : ℕ) (rest : List Decoded) (f : Fault) → ends c ≡ false → BadLine ends (at + size) rest f → BadLine ends at (piece (Some c) size ∷ rest) f

  -- the text of block comments that are open, the innermost first, each by the offset of its `#|`: the source ends within, and the
  -- innermost is unclosed, or a byte begins no character
  pub data BadBlock : List ℕ → ℕ → List Decoded → Fault → Type 0 where
    source_end : (o : ℕ) (os : List ℕ) (at : ℕ) → BadBlock (o ∷ os) at [] (fault_at file kind.Unclosed o (o + 2))
    no_char : (o : ℕ) (os : List ℕ) (at : ℕ) (p : Decoded) (rest : List Decoded) → p.char ≡ None → BadBlock (o ∷ os) at (p ∷ rest) (no_character file at)
    close : (o : ℕ) (os : List ℕ) (at : ℕ) (p q : Decoded) (rest : List Decoded) (f : Fault) → closes (p ∷ q ∷ rest) ≡ true
        → BadBlock os (at + p.size + q.size) rest f → BadBlock (o ∷ os) at (p ∷ q ∷ rest) f
    opening : (o : ℕ) (os : List ℕ) (at : ℕ) (p q : Decoded) (rest : List Decoded) (f : Fault) → opens (p ∷ q ∷ rest) ≡ true
        → BadBlock (at ∷ o ∷ os) (at + p.size + q.size) rest f → BadBlock (o ∷ os) at (p ∷ q ∷ rest) f
    char : (o : ℕ) (os : List ℕ) (at : ℕ) (p : Decoded) (rest : List Decoded) (f : Fault) → is_none p.char ≡ false
        → closes (p ∷ rest) ≡ false → opens (p ∷ rest) ≡ false
        → BadBlock (o ∷ os) (at + p.size) rest f → BadBlock (o ∷ os) at (p ∷ rest) f

  -- a comment, at this offset, whose bytes can't go on
  pub data BadComment : ℕ → List ℕ → Fault → Type 0 where
    line : (at : ℕ) (bytes : List ℕ) (f : Fault) → slice_index bytes 0 ≡ 0x3B → BadLine ends_comment (at + 1) (characters (drop 1 bytes)) f
        → BadComment at bytes f
    block : (at : ℕ) (bytes : List ℕ) (f : Fault) → starts_with nat_eq bytes (codes "#|") ≡ true
        → BadBlock (at ∷ []) (at + 2) (characters (drop 2 bytes)) f → BadComment at bytes f

  -- behind whitespace and comments stands a comment that can't go on
  abbrev pub BadGap : ℕ → List ℕ → Fault → Type 0
  BadGap = BadBehind Atmosphere BadComment
