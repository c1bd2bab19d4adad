-- What a run promises, status by status.
use Rattle.std.specs.Prelude.{◌≡◌, ◌⊎◌, ℕ, ◌<◌, List, length, take, Option, None, Some, IfSome}
use Rattle.base_outside.specs.Contents.{Paths}
use Rattle.base_outside.specs.Causes.{Rose, raised}
use Rattle.base_outside.specs.Sink.{Gains}
use Rattle.base_outside.specs.Store.{WhereTold}
use Rattle.run_prelude.specs.Prelude.{prelude_table}
use Rattle.run_reuse.specs.Turns.{StoreChange, changed}
use Rattle.law_reuse.specs.Sound.{IsHonest}
use Rattle.run_top.specs.Cached.{Comes, ComesHonestly, LeavesStore, LeavesOfHonestly, SameText}
use Rattle.run_command.specs.declared.job.Job.{Job}
use Rattle.run_command.specs.declared.job.Kind.TheVariants.{Core}
use Rattle.run_top.specs.declared.status.Status.{Status}
use Rattle.run_top.specs.declared.status.Status.TheVariants as status
use Rattle.run_top.specs.Whole.{RunOutcome, usage, done, fault, of_job, of_made}
use Rattle.run_top.specs.Words.{words_asked, usage_line, ReadNone}
use Rattle.run_command.specs.declared.words.Words.{Words}
use Rattle.run_command.specs.declared.words.Words.TheVariants.{Expand, Make, Usage}

-- a sink before a call and after it: its bytes, where they are told, its count of faults, and its count of puts
pub record Sunk : Type 0 where
  pub before : Option (List ℕ)
  pub after : Option (List ℕ)
  pub faults_before : ℕ
  pub faults_after : ℕ
  pub puts_before : ℕ
  pub puts_after : ℕ

-- the sink was asked once to take a piece
abbrev pub AskedOnce : Sunk → Type 0
AskedOnce sunk = sunk.puts_after ≡ raised sunk.puts_before

-- the sink got this piece by one put, and nothing else
abbrev pub Wrote : Sunk → List ℕ → Type 0
Wrote sunk piece = Gains sunk.before sunk.after piece × AskedOnce sunk

-- the sink was never asked
abbrev pub Untouched : Sunk → Type 0
Untouched sunk = (sunk.after ≡ sunk.before) × (sunk.puts_after ≡ sunk.puts_before)

-- the one put, of a piece, failed behind a part of it, and was counted
pub record Broke (sunk : Sunk) (piece : List ℕ) : Type 0 where
  pub taken : ℕ
  pub short : taken < length piece
  pub part : Gains sunk.before sunk.after (take taken piece)
  pub rose : Rose sunk.faults_before sunk.faults_after
  pub asked : AskedOnce sunk

-- a store before a call and after it: what it holds, where that is told, and its count of faults
pub record Storage : Type 0 where
  pub before : Option Paths
  pub after : Option Paths
  pub faults_before : ℕ
  pub faults_after : ℕ

-- the files that a run reads: what they hold, where that is told, and their count of faults before the run and after it
pub record ReadFiles : Type 0 where
  pub told : Option Paths
  pub faults_before : ℕ
  pub faults_after : ℕ

-- what lies outside the program, before a run and after it
pub record OutsideChange : Type 0 where
  pub files : ReadFiles
  pub store : Storage
  pub out : Sunk
  pub err : Sunk

-- a sink, a store and files, by what they tell and count
abbrev pub sunk_by : {O : Type 0} → (told : O → Option (List ℕ)) (faults puts : O → ℕ) (before after : O) → Sunk
sunk_by told faults puts before after = record {
  before = told before;
  after = told after;
  faults_before = faults before;
  faults_after = faults after;
  puts_before = puts before;
  puts_after = puts after;
}

abbrev pub storage_by : {S : Type 0} → (told : S → Option Paths) (faults : S → ℕ) (before after : S) → Storage
storage_by told faults before after = record { before = told before; after = told after; faults_before = faults before; faults_after = faults after }

abbrev pub read_by : {F : Type 0} → (told : F → Option Paths) (faults : F → ℕ) (before after : F) → ReadFiles
read_by told faults before after = record { told = told before; faults_before = faults before; faults_after = faults after }

-- What a run with a cache comes to. Over an honest store that is what one without gives.
pub record SaysCached (files : Paths) (job : Job) (dir : List ℕ) (change : StoreChange) (outcome : RunOutcome) : Type 0 where
  pub comes : Comes files job dir change outcome
  pub same : IsHonest prelude_table change.before → ComesHonestly comes → SameText outcome (of_job files job)

-- a job with a cache asks for core text
abbrev pub IsCoreIfCached : Job → Type 0
IsCoreIfCached job = (dir : List ℕ) → job.cache ≡ Some dir → job.kind ≡ Core

-- the definition gives this to a job, where the files are told, and with a cache also the store
abbrev pub SaysJob : Option Paths → Storage → Job → Option (List ℕ) → RunOutcome → Type 0
SaysJob told store job None outcome = IfSome told (λ files. of_job files job ≡ outcome)
SaysJob told store job (Some dir) outcome = IfSome told (λ files. WhereTold store.before store.after
    (λ before after. SaysCached files job dir (changed before store.faults_before after store.faults_after) outcome))

abbrev pub SaysAsked : Option Paths → Storage → Words → RunOutcome → Type 0
SaysAsked told store (Expand job) outcome = SaysJob told store job job.cache outcome
SaysAsked told store (Make count) outcome = of_made count ≡ outcome
SaysAsked told store Usage outcome = usage ≡ outcome

-- the definition gives this
abbrev pub Says : Option Paths → Storage → List (List ℕ) → RunOutcome → Type 0
Says told store words outcome = SaysAsked told store (words_asked words) outcome

-- the report was written, or broke off
pub data Reports (err : Sunk) (report : List ℕ) : Status → Type 0 where
  reported : Wrote err report → Reports err report status.Done
  unreported : Broke err report → Reports err report status.WriteFault

-- the text was written, and then the report; or the text broke off
pub data Finishes (out err : Sunk) (text report : List ℕ) : Status → Type 0 where
  written : {s : Status} → Wrote out text → Reports err report s → Finishes out err text report s
  broken : Broke out text → Untouched err → Finishes out err text report status.WriteFault

-- a line was written on `err` alone with a status, or broke off
pub data Complains (out err : Sunk) (line : List ℕ) (s : Status) : Status → Type 0 where
  said : Untouched out → Wrote err line → Complains out err line s s
  no_line : Untouched out → Broke err line → Complains out err line s status.WriteFault

-- What a run wrote, and why it ended as it did. With `--make` the text is the summary line, and the definition always gives it.
pub data Headline (outside : OutsideChange) (words : List (List ℕ)) (s : Status) : Type 0 where
  wrote_text : (text report : List ℕ) → Says outside.files.told outside.store words (done text report) → Finishes outside.out outside.err text report s
      → Headline outside words s
  wrote_fault : (line : List ℕ) → Says outside.files.told outside.store words (fault line) → Complains outside.out outside.err line status.Fault s
      → Headline outside words s
  wrong_words : words_asked words ≡ Usage → Complains outside.out outside.err usage_line status.Usage s → Headline outside words s
  read_fault : s ≡ status.ReadFault → Rose outside.files.faults_before outside.files.faults_after → Untouched outside.out → Untouched outside.err
      → Headline outside words s
  no_memory : s ≡ status.Memory → Untouched outside.out → Untouched outside.err → Headline outside words s

abbrev pub status_of : RunOutcome → Status
status_of usage = status.Usage
status_of (done text report) = status.Done
status_of (fault line) = status.Fault

-- Where no count rose, the status is the definition's, unless memory ran out. With a cache it is that of a text or of a
-- fault; over an honest store the headline tells which.
abbrev pub CompleteJob : Option Paths → Job → Option (List ℕ) → (a_count_rose : Type 0) → Status → Type 0
CompleteJob told job None a_count_rose s = IfSome told (λ files. ¬ a_count_rose → ¬ (s ≡ status.Memory) → s ≡ status_of (of_job files job))
CompleteJob told job (Some dir) a_count_rose s = ¬ a_count_rose → ¬ (s ≡ status.Memory) → (s ≡ status.Done) ⊎ (s ≡ status.Fault)

abbrev pub CompleteAsked : Option Paths → Words → (a_count_rose : Type 0) → Status → Type 0
CompleteAsked told (Expand job) a_count_rose s = CompleteJob told job job.cache a_count_rose s
CompleteAsked told (Make count) a_count_rose s = ¬ a_count_rose → ¬ (s ≡ status.Memory) → s ≡ status_of (of_made count)
CompleteAsked told Usage a_count_rose s = ¬ a_count_rose → ¬ (s ≡ status.Memory) → s ≡ status.Usage

abbrev pub Complete : Option Paths → List (List ℕ) → (a_count_rose : Type 0) → Status → Type 0
Complete told words a_count_rose s = CompleteAsked told (words_asked words) a_count_rose s

-- words that ask for no program leave the files as they were
abbrev pub LeavesFiles : {F : Type 0} → List (List ℕ) → F → F → Type 0
LeavesFiles words before after = ReadNone (words_asked words) → after ≡ before

-- What is left of the store with a cache. From an honest store an honest one is left.
pub record LeavesHonest (files : Paths) (job : Job) (dir : List ℕ) (change : StoreChange) : Type 0 where
  pub leaves : LeavesStore files job dir change
  pub honest : IsHonest prelude_table change.before → LeavesOfHonestly leaves → IsHonest prelude_table change.after

-- without a cache the store is as it was
abbrev pub KeepsJob : Option Paths → Storage → Job → Option (List ℕ) → (is_as_it_was : Type 0) → Type 0
KeepsJob told store job None is_as_it_was = is_as_it_was
KeepsJob told store job (Some dir) is_as_it_was = IfSome told
    (λ files. WhereTold store.before store.after (λ before after. LeavesHonest files job dir (changed before store.faults_before after store.faults_after)))

abbrev pub KeepsAsked : Option Paths → Storage → Words → (is_as_it_was : Type 0) → Type 0
KeepsAsked told store (Expand job) is_as_it_was = KeepsJob told store job job.cache is_as_it_was
KeepsAsked told store (Make count) is_as_it_was = is_as_it_was
KeepsAsked told store Usage is_as_it_was = is_as_it_was

abbrev pub KeepsStore : Option Paths → Storage → List (List ℕ) → (is_as_it_was : Type 0) → Type 0
KeepsStore told store words is_as_it_was = KeepsAsked told store (words_asked words) is_as_it_was
