-- When the record of a library is reused: where its place holds an entry of the sources that the run has read.
use Rattle.std.specs.Prelude.{◌≡◌, ◌≤◌, ℕ, true, List, ◌∷◌, length, Some, Result, Ok}
use Rattle.base_data.specs.declared.fault.Fault.{Fault}
use Rattle.core_cache.specs.Fits.{fits}
use Rattle.core_cache.specs.declared.entry.Entry.{Entry}
use Rattle.core_language.specs.declared.record.CompiledLibrary.{CompiledLibrary}
use Rattle.eval_code.specs.Codes.{Codes}
use Rattle.load_forms.specs.Form.{library_body}
use Rattle.load_files.specs.declared.found.Found.{Found}
use Rattle.load_files.specs.declared.found.Loading.{Loading}
use Rattle.law_load.specs.Laws.{IsAt}
use Rattle.law_local.specs.Behind.{RunBase, expand_behind}
use Rattle.law_local.specs.Local.{IsNextLibrary, group_of}
use Rattle.base_outside.specs.Contents.{Paths, at_path}
use Rattle.run_reuse.specs.Entries.{CacheInputs, entry_limit, entry_in, made, place_of, suits}
use Rattle.run_reuse.specs.Groups.{AreGroups, chosen, groups_from}
use Rattle.run_reuse.specs.Turns.{TurnState, stored}
use Rattle.run_reuse.specs.declared.groups.Group.{Group}
use Rattle.law_reuse.specs.Kept.{HoldsShortEntry}
use Rattle.law_reuse.specs.Runs.{kept}
use Rattle.law_reuse.specs.Sound.{IsHonest}

-- the place of a library holds this entry, within the limit, and it is of the roots and of the sources that the run has read for the library
pub record HoldsFitting (k : CacheInputs) (store : Paths) (f : Found) (e : Entry) : Type 0 where
  pub held : List ℕ
  pub there : at_path store (place_of k f) ≡ Some held
  pub short : length held ≤ entry_limit
  pub is : entry_in held ≡ Some e
  pub fit : fits e k.roots k.sources (chosen k.groups f) ≡ true

-- What the store has for a library is the record of such an entry, if that record can stand for the library's, and nothing else.
pub record StoredExactly (k : CacheInputs) (prelude : Result Codes Fault) : Type 0 where
  pub only : (now : TurnState) (f : Found) (r : CompiledLibrary) → stored k prelude now f ≡ Some r
      → (e : Entry) × (HoldsFitting k now.store f e) × (suits now.progress.records f e.stored ≡ true) × (e.stored ≡ r)
  pub each : (now : TurnState) (f : Found) (e : Entry) → HoldsFitting k now.store f e → suits now.progress.records f e.stored ≡ true
      → stored k prelude now f ≡ Some e.stored

-- an entry that the run kept of a library is such a one, for itself and for each run of the same sources
abbrev pub KeptAreFitting : Paths → List (List ℕ) → Loading → Type 0
KeptAreFitting files roots s = (dir : List ℕ) (groups : List Group) → AreGroups (groups_from 0 0 s.sources) s.begun s.done groups
    → (place : ℕ) (file : List ℕ) (f : Found) → IsAt s.done place file f → (r : CompiledLibrary) (store : Paths)
    → HoldsShortEntry (kept dir roots s groups) store f r → HoldsFitting (kept dir roots s groups) store f (made (kept dir roots s groups) f r)

-- what expansion gives a library can stand behind the records before it
abbrev pub MakesWhatSuits : RunBase → List CompiledLibrary → Found → Type 0
MakesWhatSuits base others f = (r : CompiledLibrary) → expand_behind base others f (library_body f.opened.«data») ≡ Ok r
    → suits (base.derived ∷ others) f r ≡ true

-- then over an honest store the record of such an entry is what the store has
abbrev pub FittingAreReused : RunBase → Paths → List (List ℕ) → Loading → Type 0
FittingAreReused base files roots s = (dir : List ℕ) (groups : List Group) → AreGroups (groups_from 0 0 s.sources) s.begun s.done groups
    → (others : List CompiledLibrary) (f : Found) → IsNextLibrary base (group_of files roots) s.done others f → MakesWhatSuits base others f
    → (now : TurnState) → now.progress.records ≡ base.derived ∷ others → IsHonest base.prelude now.store
    → (e : Entry) → HoldsFitting (kept dir roots s groups) now.store f e → stored (kept dir roots s groups) base.prelude now f ≡ Some e.stored
