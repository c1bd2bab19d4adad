-- Bytes that begin no token (R6RS 4.2).
use Rattle.std.specs.Prelude.{◌≡◌, ◌≢◌, ℕ, ◌+◌, ◌<◌, true, false, List, length, drop, slice_index, None, ◌&&◌, nat_eq, codes}
use Rattle.std.specs.List.{starts_with}
use Rattle.base_data.specs.declared.fault.Fault.{Fault}
use Rattle.base_data.specs.declared.fault.FaultKind.TheVariants as kind
use Rattle.read_lexer.specs.Between.{Gap}
use Rattle.read_lexer.specs.Faults.{fault_at}
use Rattle.read_lexer.specs.Grammar.{CharacterRun, hash_sign_of}
use Rattle.read_lexer.specs.Tokens.{is_number_mark, is_true, is_false}
use Rattle.read_spelling.specs.Source.{characters}
use Rattle.read_spelling.specs.Whitespace.{is_delimited, runs_on}
use Rattle.law_faults.specs.Gaps.{BadGap}
use Rattle.law_faults.specs.Strings.{BadString}
use Rattle.law_faults.specs.Characters.{BadCharacter}
use Rattle.law_faults.specs.Bare.{BadBare, BadMarked}

-- a number sign behind which stands nothing that may
pub record NoHash (bytes : List ℕ) : Type 0 where
  pub first : slice_index bytes 0 ≡ 0x23
  pub no_sign : hash_sign_of (slice_index bytes 1) ≡ None
  pub no_comma : slice_index bytes 1 ≢ 0x2C
  pub no_backslash : slice_index bytes 1 ≢ 0x5C
  pub no_mark : is_number_mark (slice_index bytes 1) ≡ false
  pub no_bytes : starts_with nat_eq bytes (codes "#vu8(") ≡ false
  pub no_true : (is_true (slice_index bytes 1) && is_delimited (characters (drop 2 bytes))) ≡ false
  pub no_false : (is_false (slice_index bytes 1) && is_delimited (characters (drop 2 bytes))) ≡ false

module _ (file : List ℕ) where
  -- the bytes at this offset begin no token, since one that begins with them can't go on
  pub data BadToken : ℕ → List ℕ → Fault → Type 0 where
    string : (at : ℕ) (bytes : List ℕ) (f : Fault) → slice_index bytes 0 ≡ 0x22 → BadString file at (at + 1) (drop 1 bytes) f → BadToken at bytes f
    character : (at : ℕ) (bytes : List ℕ) (f : Fault) → slice_index bytes 0 ≡ 0x23 → slice_index bytes 1 ≡ 0x5C
        → BadCharacter file at bytes f → BadToken at bytes f
    marked : (at : ℕ) (bytes : List ℕ) (f : Fault) → slice_index bytes 0 ≡ 0x23 → is_number_mark (slice_index bytes 1) ≡ true
        → BadMarked file at bytes f → BadToken at bytes f
    hash : (at : ℕ) (bytes : List ℕ) (n : ℕ) → NoHash bytes → CharacterRun runs_on (characters (drop 1 bytes)) n
        → BadToken at bytes (fault_at file kind.BadToken at (at + 1 + n))
    bare : (at : ℕ) (bytes : List ℕ) (f : Fault) → BadBare file at bytes f → BadToken at bytes f

  -- from an offset on a source goes on neither with a token nor to its end: in the gap that begins there stands a comment that can't
  -- go on, or behind the gap bytes that begin no token
  pub data GoesWrong (bytes : List ℕ) (at : ℕ) : Fault → Type 0 where
    in_gap : (f : Fault) → BadGap file at (drop at bytes) f → GoesWrong bytes at f
    behind_gap : (n : ℕ) (f : Fault) → Gap (drop at bytes) n → at + n < length bytes → BadToken (at + n) (drop (at + n) bytes) f → GoesWrong bytes at f
