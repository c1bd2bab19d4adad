-- What a run with a cache gives, beside what one without gives.
use Rattle.std.specs.Prelude.{◌≡◌, ℕ, List, map, Option, slice_get, Result, Ok, Err}
use Rattle.base_data.specs.declared.fault.Fault.{Fault}
use Rattle.eval_code.specs.Codes.{Codes}
use Rattle.run_library.specs.Loaded.{text_behind, fault_behind}
use Rattle.load_files.specs.declared.found.Found.{Found}
use Rattle.load_files.specs.declared.found.Loading.{Loading}
use Rattle.load_files.specs.declared.found.Source.{Source}
use Rattle.law_load.specs.Laws.{Libraries, IsAt}
use Rattle.law_local.specs.Local.{all_sources, group_of}
use Rattle.base_outside.specs.Contents.{Paths}
use Rattle.run_reuse.specs.Entries.{CacheInputs}
use Rattle.run_reuse.specs.Groups.{AreGroups, chosen, groups_from, picked}
use Rattle.run_reuse.specs.Texts.{Text, Writes, Leaves, found_in}
use Rattle.run_reuse.specs.Turns.{StoreChange, Quiet}
use Rattle.run_reuse.specs.declared.groups.Group.{Group}
use Rattle.run_reuse.specs.declared.texts.Came.{Came}
use Rattle.run_reuse.specs.declared.texts.Came.TheVariants as came
use Rattle.law_reuse.specs.Seals.{WritesHonestly, LeavesHonestly}
use Rattle.law_reuse.specs.Sound.{IsHonest}

-- the sources of an entry are those of the files
abbrev pub SourcesAreThoseOfFiles : Paths → List (List ℕ) → Loading → Type 0
SourcesAreThoseOfFiles files roots s = (groups : List Group) → AreGroups (groups_from 0 0 s.sources) s.begun s.done groups
    → (place : ℕ) (file : List ℕ) (f : Found) → IsAt s.done place file f → picked s.sources (chosen groups f) ≡ all_sources (group_of files roots) s.done f

-- and each of its places has a source
abbrev pub SourcesAreThere : Loading → Type 0
SourcesAreThere s = (groups : List Group) → AreGroups (groups_from 0 0 s.sources) s.begun s.done groups
    → (place : ℕ) (file : List ℕ) (f : Found) → IsAt s.done place file f
    → map (slice_get s.sources) (chosen groups f) ≡ map (λ (x : Source). Option.Some x) (picked s.sources (chosen groups f))

-- what entries of a run are made of
abbrev pub kept : List ℕ → List (List ℕ) → Loading → List Group → CacheInputs
kept dir roots s groups = record { dir = dir; roots = roots; sources = s.sources; groups = groups }

-- the core text that a run without a cache writes, or its first fault
abbrev pub without_cache : Result Codes Fault → Libraries → Came → Result (List ℕ) Fault
without_cache prelude rows (came.Program f) = text_behind prelude rows f
without_cache prelude rows (came.Fault fault) = fault_behind prelude rows fault

abbrev pub text_alone : Result Text Fault → Result (List ℕ) Fault
text_alone (Ok made) = Ok made.0
text_alone (Err fault) = Err fault

module _ (prelude : Result Codes Fault) (roots : List (List ℕ)) (s : Loading) where
  -- over an honest store
  abbrev pub WritesTheSame : Type 0
  WritesTheSame = (dir : List ℕ) (groups : List Group) → AreGroups (groups_from 0 0 s.sources) s.begun s.done groups
      → (c : Came) (change : StoreChange) (made : Result Text Fault)
      → (writes : Writes (kept dir roots s groups) prelude c (found_in s.done) change made)
      → IsHonest prelude change.before → WritesHonestly (kept dir roots s groups) prelude writes → text_alone made ≡ without_cache prelude s.done c

  abbrev pub LeavesAnHonestStore : Type 0
  LeavesAnHonestStore = (dir : List ℕ) (groups : List Group) → AreGroups (groups_from 0 0 s.sources) s.begun s.done groups
      → (change : StoreChange) (leaves : Leaves (kept dir roots s groups) prelude (found_in s.done) change)
      → IsHonest prelude change.before → LeavesHonestly (kept dir roots s groups) prelude leaves → IsHonest prelude change.after

  -- also where it is known what was written
  abbrev pub KeepsAnHonestStore : Type 0
  KeepsAnHonestStore = (dir : List ℕ) (groups : List Group) → AreGroups (groups_from 0 0 s.sources) s.begun s.done groups
      → (c : Came) (change : StoreChange) (made : Result Text Fault)
      → (writes : Writes (kept dir roots s groups) prelude c (found_in s.done) change made)
      → IsHonest prelude change.before → WritesHonestly (kept dir roots s groups) prelude writes → IsHonest prelude change.after

  pub record CacheChangesNothing : Type 0 where
    pub same : WritesTheSame
    pub keeps : KeepsAnHonestStore
    pub honest : LeavesAnHonestStore

-- where no call of the store failed, the premise on seals holds
pub record HoldsWhereNothingFails (k : CacheInputs) (prelude : Result Codes Fault) : Type 0 where
  pub writes : (c : Came) (fs : List Found) (change : StoreChange) (made : Result Text Fault) (w : Writes k prelude c fs change made)
      → Quiet change.faults_before change.faults_after → WritesHonestly k prelude w
  pub leaves : (fs : List Found) (change : StoreChange) (l : Leaves k prelude fs change)
      → Quiet change.faults_before change.faults_after → LeavesHonestly k prelude l
