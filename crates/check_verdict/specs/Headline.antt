-- What a check promises, by the ways in which it ends.
use Rattle.std.specs.Prelude.{◌≡◌, ℕ, ◌<◌, List, length, take, Option, None, Some, IfSome, codes}
use Rattle.check_verdict.specs.declared.status.CheckStatus.{CheckStatus}
use Rattle.check_verdict.specs.declared.status.CheckStatus.TheVariants as status
use Rattle.check_verdict.specs.declared.verdict.Why.{Why}
use Rattle.check_verdict.specs.declared.verdict.Verdict.TheVariants as verdict
use Rattle.check_verdict.specs.Judged.{Judged}
use Rattle.check_verdict.specs.Verdicts.{why_text}
use Rattle.check_verdict.specs.Whole.{file_named, most_bytes, usage_line, whole_status}
use Rattle.base_outside.specs.Causes.{Rose, raised}
use Rattle.base_outside.specs.Contents.{Paths, Reading, bytes, longer, absent, at_path, read_of}
use Rattle.base_outside.specs.Sink.{Gains}

-- a sink before a call and after it: its bytes, where they are told, its count of faults, and its count of puts
pub record Sunk : Type 0 where
  pub before : Option (List ℕ)
  pub after : Option (List ℕ)
  pub faults_before : ℕ
  pub faults_after : ℕ
  pub puts_before : ℕ
  pub puts_after : ℕ

-- files before a call and after it: what they held, where it is told, and their count of faults
pub record FilesAsked : Type 0 where
  pub told : Option Paths
  pub faults_before : ℕ
  pub faults_after : ℕ

abbrev pub asked : Option Paths → ℕ → ℕ → FilesAsked
asked told faults_before faults_after = record { told = told; faults_before = faults_before; faults_after = faults_after }

-- the sink got this piece by one put, and nothing else
abbrev pub Wrote : Sunk → List ℕ → Type 0
Wrote sunk piece = Gains sunk.before sunk.after piece × (sunk.puts_after ≡ raised sunk.puts_before)

-- the sink was never asked
abbrev pub Untouched : Sunk → Type 0
Untouched sunk = (sunk.after ≡ sunk.before) × (sunk.puts_after ≡ sunk.puts_before)

-- the one put, of a piece, failed behind a part of it, and was counted
pub record Broke (sunk : Sunk) (piece : List ℕ) : Type 0 where
  pub taken : ℕ
  pub short : taken < length piece
  pub part : Gains sunk.before sunk.after (take taken piece)
  pub rose : Rose sunk.faults_before sunk.faults_after
  pub asked : sunk.puts_after ≡ raised sunk.puts_before

-- a line was written with a status, or broke off
pub data Puts (sunk : Sunk) (line : List ℕ) (s : CheckStatus) : CheckStatus → Type 0 where
  put : Wrote sunk line → Puts sunk line s s
  broke : Broke sunk line → Puts sunk line s status.WriteFault

-- where files are told, what a read of at most so many bytes of this one gives is such
abbrev pub Gave : Option Paths → List ℕ → (Reading → Type 0) → Type 0
Gave told path P = IfSome told (λ files. P (read_of (at_path files path) most_bytes))

-- these are bytes of which the verdict is yes
pub data IsAccepted : Reading → Type 0 where
  accepted : (x : List ℕ) → Judged x verdict.Yes → IsAccepted (bytes x)

-- these are bytes of which the verdict is no, and why
pub data IsRefused (w : Why) : Reading → Type 0 where
  refused : (x : List ℕ) → Judged x (verdict.No w) → IsRefused w (bytes x)

-- what a check wrote, and why it ended as it did
pub data CheckHeadline (files : FilesAsked) (words : List (List ℕ)) (out err : Sunk) (s : CheckStatus) : Type 0 where
  -- the file is a core text
  is_core_text : (path : List ℕ) → file_named words ≡ Some path → Gave files.told path IsAccepted → Untouched err → Puts out (codes "yes\n") status.Yes s
      → CheckHeadline files words out err s
  -- it is none
  is_none : (path : List ℕ) (w : Why) → file_named words ≡ Some path → Gave files.told path (IsRefused w) → Untouched err → Puts out (why_text w) status.No s
      → CheckHeadline files words out err s
  -- it is too long
  is_longer : (path : List ℕ) → file_named words ≡ Some path → Gave files.told path (λ r. r ≡ longer)
      → Untouched err → Puts out (codes "no: longer\n") status.No s
      → CheckHeadline files words out err s
  -- it isn't there
  is_absent : (path : List ℕ) → file_named words ≡ Some path → Gave files.told path (λ r. r ≡ absent)
      → Untouched err → Puts out (codes "no: absent\n") status.No s
      → CheckHeadline files words out err s
  wrong_words : file_named words ≡ None → Untouched out → Puts err usage_line status.Usage s → CheckHeadline files words out err s
  read_fault : s ≡ status.ReadFault → Rose files.faults_before files.faults_after → Untouched out → Untouched err
      → CheckHeadline files words out err s
  no_memory : s ≡ status.Memory → Untouched out → Untouched err → CheckHeadline files words out err s

-- where files are told and no count rose, the status is the definition's, unless memory ran out
abbrev pub Complete : Option Paths → List (List ℕ) → (rose : Type 0) → CheckStatus → Type 0
Complete told words rose s = IfSome told (λ files. ¬ rose → ¬ (s ≡ status.Memory) → s ≡ whole_status files words)
