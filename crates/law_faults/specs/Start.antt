-- The start of a source that is skipped.
use Rattle.std.specs.Prelude.{◌≡◌, ℕ, ◌+◌, Bool, true, false, List, [], ◌∷◌, drop, Some, nat_eq}
use Rattle.std.specs.List.{starts_with}
use Rattle.bstr.specs.Utf8.{Decoded}
use Rattle.base_data.specs.declared.fault.Fault.{Fault}
use Rattle.read_lexer.specs.Start.{byte_order_mark, is_run_line}
use Rattle.read_spelling.specs.Source.{characters, piece}
use Rattle.read_spelling.specs.Whitespace.{ends_line}
use Rattle.law_faults.specs.Gaps.{BadLine}

-- characters up to what ends a line, or to the end, which take so many bytes
pub data SourceLine : List Decoded → ℕ → Type 0 where
  source_end : SourceLine [] 0
  line_end : (c size : ℕ) (rest : List Decoded) → ends_line c ≡ true → SourceLine (piece (Some c) size ∷ rest) 0
  char : (c size n : ℕ) (rest : List Decoded) → ends_line c ≡ false → SourceLine rest n → SourceLine (piece (Some c) size ∷ rest) (size + n)

-- a line for the system, which begins with `#!/` or `#! `, or nothing
pub data RunLine : List ℕ → ℕ → Type 0 where
  none : (bytes : List ℕ) → is_run_line bytes ≡ false → RunLine bytes 0
  line : (bytes : List ℕ) (n : ℕ) → is_run_line bytes ≡ true → SourceLine (characters bytes) n → RunLine bytes n

-- a byte order mark, or none, and a line for the system, or none, which take so many bytes
pub data Start : List ℕ → ℕ → Type 0 where
  marked : (bytes : List ℕ) (n : ℕ) → starts_with nat_eq bytes byte_order_mark ≡ true → RunLine (drop 3 bytes) n → Start bytes (3 + n)
  unmarked : (bytes : List ℕ) (n : ℕ) → starts_with nat_eq bytes byte_order_mark ≡ false → RunLine bytes n → Start bytes n

module _ (file : List ℕ) where
  -- in the line for the system stands a byte that begins no character
  pub data BadStart : List ℕ → Fault → Type 0 where
    marked : (bytes : List ℕ) (f : Fault) → starts_with nat_eq bytes byte_order_mark ≡ true → is_run_line (drop 3 bytes) ≡ true
        → BadLine file ends_line 3 (characters (drop 3 bytes)) f → BadStart bytes f
    unmarked : (bytes : List ℕ) (f : Fault) → starts_with nat_eq bytes byte_order_mark ≡ false → is_run_line bytes ≡ true
        → BadLine file ends_line 0 (characters bytes) f → BadStart bytes f
