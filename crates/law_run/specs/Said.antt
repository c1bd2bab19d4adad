-- What runs say over such stores, beside what runs without a cache say.
use Rattle.std.specs.Prelude.{◌≡◌, ℕ, List, Some}
use Rattle.load_files.specs.Load.{load}
use Rattle.load_files.specs.declared.found.Loading.{Loading}
use Rattle.base_outside.specs.Contents.{Paths, at_path}
use Rattle.run_prelude.specs.Prelude.{prelude_table}
use Rattle.run_reuse.specs.Groups.{AreGroups, groups_from}
use Rattle.run_reuse.specs.Texts.{found_in}
use Rattle.run_reuse.specs.Turns.{StoreChange, Quiet}
use Rattle.run_reuse.specs.declared.groups.Group.{Group}
use Rattle.law_reuse.specs.Others.{IsElsewhere}
use Rattle.law_reuse.specs.Sound.{IsHonest}
use Rattle.run_top.specs.Cached.{ComesHonestly, LeavesOfHonestly, LeavesStore, SameText, kept_of}
use Rattle.run_top.specs.Headline.{LeavesHonest, SaysCached, Says}
use Rattle.run_top.specs.Whole.{RunOutcome, loading_of, of_job, whole}
use Rattle.run_top.specs.Words.{words_asked}
use Rattle.run_command.specs.declared.job.Job.{Job}
use Rattle.run_command.specs.declared.words.Words.TheVariants.{Expand}
use Rattle.law_run.specs.Grown.{Grown}

pub record RunsSayTheSame : Type 0 where
  -- such a store is honest
  pub honest : (store : Paths) → Grown store → IsHonest prelude_table store
  -- over it a run gives the text or the fault that one without a cache gives
  pub same : (files : Paths) (job : Job) (dir : List ℕ) (change : StoreChange) (outcome : RunOutcome) → Grown change.before
      → (says : SaysCached files job dir change outcome) → ComesHonestly says.comes → SameText outcome (of_job files job)

-- where no call of the store fails, the premises on seals hold
pub record QuietRunsAreHonest : Type 0 where
  pub says : (files : Paths) (job : Job) (dir : List ℕ) (change : StoreChange) (outcome : RunOutcome)
      → (says : SaysCached files job dir change outcome) → Quiet change.faults_before change.faults_after → ComesHonestly says.comes
  pub leaves : (files : Paths) (job : Job) (dir : List ℕ) (change : StoreChange)
      → (left : LeavesHonest files job dir change) → Quiet change.faults_before change.faults_after → LeavesOfHonestly left.leaves

-- so the words of a call with a cache give what they give without, where no call of the store fails
abbrev pub CallsSayTheSame : Type 0
CallsSayTheSame = (files before after : Paths) (faults_before faults : ℕ) (words : List (List ℕ)) (job : Job) (dir : List ℕ) (outcome : RunOutcome)
    → words_asked words ≡ Expand job → job.cache ≡ Some dir → Grown before → Quiet faults_before faults
    → Says (Some files) (record { before = Some before; after = Some after; faults_before = faults_before; faults_after = faults }) words outcome
    → SameText outcome (whole files words)

-- none of the libraries that were loaded for a job has its entry there, whatever groups their sources are in
abbrev pub IsNoPlaceOf : Job → List ℕ → Loading → List ℕ → Type 0
IsNoPlaceOf job dir s place = (groups : List Group) → AreGroups (groups_from 0 0 s.sources) s.begun s.done groups
    → IsElsewhere (kept_of job dir s groups) place (found_in s.done)

-- such a place holds what it held, over every store
abbrev pub RunsLeaveOthers : Type 0
RunsLeaveOthers = (files : Paths) (job : Job) (dir : List ℕ) (change : StoreChange) (place : List ℕ)
    → IsNoPlaceOf job dir (loading_of (load files job.roots job.program)) place → LeavesStore files job dir change
    → at_path change.after place ≡ at_path change.before place
