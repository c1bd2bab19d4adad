-- Which entries a store holds after a run.
use Rattle.std.specs.Prelude.{◌≡◌, ◌⊎◌, ◌≤◌, ℕ, true, List, Some, length, Ok}
use Rattle.base_data.specs.declared.fault.Fault.{Fault}
use Rattle.core_cache.specs.Entry.{encode, has_spelling}
use Rattle.core_cache.specs.Seal.{sealed}
use Rattle.core_language.specs.declared.record.CompiledLibrary.{CompiledLibrary}
use Rattle.load_forms.specs.Form.{library_body}
use Rattle.load_files.specs.declared.found.Found.{Found}
use Rattle.load_files.specs.declared.found.Loading.{Loading}
use Rattle.law_load.specs.Laws.{Libraries, IsAt}
use Rattle.law_local.specs.Behind.{RunBase, expand_behind}
use Rattle.law_local.specs.Local.{IsNextLibrary, group_of}
use Rattle.base_outside.specs.Contents.{Paths, at_path}
use Rattle.run_reuse.specs.Entries.{CacheInputs, entry_limit, entry_in, made, place_of}
use Rattle.run_reuse.specs.Groups.{AreGroups, groups_from}
use Rattle.run_reuse.specs.Progress.{begun}
use Rattle.run_reuse.specs.Texts.{found_in}
use Rattle.run_reuse.specs.Turns.{TurnState, state, Quiet, ReuseTurns, TurnsStop}
use Rattle.run_reuse.specs.declared.groups.Group.{Group}
use Rattle.law_reuse.specs.Failing.{FailedAt}
use Rattle.law_reuse.specs.Runs.{kept}
use Rattle.law_reuse.specs.Seals.{TurnsHonestly}
use Rattle.law_reuse.specs.Sound.{IsHonest}

module _ (k : CacheInputs) where
  -- the place of a library holds its entry, within the limit
  pub record HoldsShortEntry (store : Paths) (f : Found) (r : CompiledLibrary) : Type 0 where
    pub held : List ℕ
    pub there : at_path store (place_of k f) ≡ Some held
    pub short : length held ≤ entry_limit
    pub is : entry_in held ≡ Some (made k f r)

  -- no other library lies at its place
  abbrev pub IsAlone : Libraries → Found → Type 0
  IsAlone loaded f = (place : ℕ) (file : List ℕ) (other : Found) → IsAt loaded place file other → place_of k other ≡ place_of k f → place ≡ f.place

  -- its entry has a spelling, within the limit
  abbrev pub CanBeKept : Found → CompiledLibrary → Type 0
  CanBeKept f r = (has_spelling (made k f r) ≡ true) × (length (sealed (encode (made k f r))) ≤ entry_limit)

  -- of each library that has a record, where it is alone in its place and its entry can be kept
  abbrev pub HoldsEntries : RunBase → Paths → List (List ℕ) → Loading → Paths → Type 0
  HoldsEntries base files roots s store = (others : List CompiledLibrary) (f : Found) (r : CompiledLibrary)
      → IsNextLibrary base (group_of files roots) s.done others f
      → expand_behind base others f (library_body f.opened.«data») ≡ Ok r → IsAlone s.done f → CanBeKept f r → HoldsShortEntry store f r

-- where no call of the store fails, over an honest store
pub record EntriesAreKept (base : RunBase) (files : Paths) (roots : List (List ℕ)) (s : Loading) : Type 0 where
  pub taken : (dir : List ℕ) (groups : List Group) → AreGroups (groups_from 0 0 s.sources) s.begun s.done groups
      → (before : Paths) (faults : ℕ) (last : TurnState)
      → ReuseTurns (kept dir roots s groups) base.prelude (state (begun base.derived) before faults) (found_in s.done) last → IsHonest base.prelude before
      → Quiet faults last.faults
      → HoldsEntries (kept dir roots s groups) base files roots s last.store
  pub stopped : (dir : List ℕ) (groups : List Group) → AreGroups (groups_from 0 0 s.sources) s.begun s.done groups
      → (before after : Paths) (faults_before faults : ℕ) (fault : Fault)
      → TurnsStop (kept dir roots s groups) base.prelude fault after faults (state (begun base.derived) before faults_before) (found_in s.done)
      → IsHonest base.prelude before → Quiet faults_before faults
      → HoldsEntries (kept dir roots s groups) base files roots s after

-- where calls of the store fail: each such library, but those whose own puts failed
abbrev pub AllButFailedAreKept : RunBase → Paths → List (List ℕ) → Loading → Type 0
AllButFailedAreKept base files roots s = (dir : List ℕ) (groups : List Group) → AreGroups (groups_from 0 0 s.sources) s.begun s.done groups
    → (before : Paths) (faults : ℕ) (last : TurnState)
    → (turns : ReuseTurns (kept dir roots s groups) base.prelude (state (begun base.derived) before faults) (found_in s.done) last)
    → IsHonest base.prelude before
    → TurnsHonestly (kept dir roots s groups) base.prelude turns
    → (others : List CompiledLibrary) (f : Found) (r : CompiledLibrary) → IsNextLibrary base (group_of files roots) s.done others f
    → expand_behind base others f (library_body f.opened.«data») ≡ Ok r
    → IsAlone (kept dir roots s groups) s.done f → CanBeKept (kept dir roots s groups) f r
    → HoldsShortEntry (kept dir roots s groups) last.store f r ⊎ FailedAt (kept dir roots s groups) base.prelude turns f.place
