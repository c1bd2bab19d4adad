-- What the lexer refuses, and what it skips at the start, is exactly what these relations say.
use Rattle.std.specs.Prelude.{◌≡◌, ℕ, ◌+◌, List, drop, Ok, Err, ◌↔◌}
use Rattle.base_data.specs.declared.fault.Fault.{Fault}
use Rattle.read_lexer.specs.Gap.{gap_end}
use Rattle.read_lexer.specs.Characters.{character_at}
use Rattle.read_lexer.specs.Start.{start_of}
use Rattle.read_lexer.specs.Strings.{string_at}
use Rattle.read_lexer.specs.Tokens.{next_lexeme, marked_at}
use Rattle.law_faults.specs.Gaps.{BadGap}
use Rattle.law_faults.specs.Strings.{BadString}
use Rattle.law_faults.specs.Characters.{BadCharacter}
use Rattle.law_faults.specs.Bare.{BadMarked}
use Rattle.law_faults.specs.Tokens.{GoesWrong}
use Rattle.law_faults.specs.Start.{Start, BadStart}

abbrev pub GapFaultsAre : Type 0
GapFaultsAre = (file bytes : List ℕ) (at : ℕ) (f : Fault) → (gap_end file bytes at ≡ Err f) ↔ BadGap file at bytes f

abbrev pub StringFaultsAre : Type 0
StringFaultsAre = (file bytes : List ℕ) (at : ℕ) (f : Fault) → (string_at file bytes at ≡ Err f) ↔ BadString file at (at + 1) (drop 1 bytes) f

abbrev pub CharacterFaultsAre : Type 0
CharacterFaultsAre = (file bytes : List ℕ) (at : ℕ) (f : Fault) → (character_at file bytes at ≡ Err f) ↔ BadCharacter file at bytes f

abbrev pub MarkedFaultsAre : Type 0
MarkedFaultsAre = (file bytes : List ℕ) (at : ℕ) (f : Fault) → (marked_at file bytes at ≡ Err f) ↔ BadMarked file at bytes f

abbrev pub FaultsAre : Type 0
FaultsAre = (file bytes : List ℕ) (at : ℕ) (f : Fault) → (next_lexeme file bytes at ≡ Err f) ↔ GoesWrong file bytes at f

abbrev pub OneFault : Type 0
OneFault = (file bytes : List ℕ) (at : ℕ) (f g : Fault) → GoesWrong file bytes at f → GoesWrong file bytes at g → f ≡ g

abbrev pub StartsAre : Type 0
StartsAre = (file bytes : List ℕ) (n : ℕ) → (start_of file bytes ≡ Ok n) ↔ Start bytes n

abbrev pub StartFaultsAre : Type 0
StartFaultsAre = (file bytes : List ℕ) (f : Fault) → (start_of file bytes ≡ Err f) ↔ BadStart file bytes f
