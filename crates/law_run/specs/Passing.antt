-- In a run that has a text, the record of each library passes the test on followers. So over an honest store each entry that fits is reused.
use Rattle.std.specs.Prelude.{◌≡◌, ℕ, List, ◌∷◌, Some}
use Rattle.core_cache.specs.declared.entry.Entry.{Entry}
use Rattle.core_language.specs.declared.record.CompiledLibrary.{CompiledLibrary}
use Rattle.load_files.specs.declared.found.Found.{Found}
use Rattle.load_files.specs.declared.found.Loading.{Loading}
use Rattle.law_local.specs.Behind.{RunBase}
use Rattle.law_local.specs.Local.{IsNextLibrary, group_of}
use Rattle.base_outside.specs.Contents.{Paths}
use Rattle.run_reuse.specs.Groups.{AreGroups, groups_from}
use Rattle.run_reuse.specs.Turns.{TurnState, stored}
use Rattle.run_reuse.specs.declared.groups.Group.{Group}
use Rattle.law_reuse.specs.Due.{HoldsFitting, MakesWhatSuits}
use Rattle.law_reuse.specs.Runs.{kept}
use Rattle.law_reuse.specs.Sound.{IsHonest}
use Rattle.law_run.specs.Run.{run_inputs, IsRun}

module _ (base : RunBase) (files : Paths) (roots : List (List ℕ)) (s : Loading) where
  -- each library is expanded to a record that can stand for it
  abbrev pub RecordsPass : Type 0
  RecordsPass = (others : List CompiledLibrary) (f : Found) → IsNextLibrary base (group_of files roots) s.done others f → MakesWhatSuits base others f

  -- the store has the record of each entry that fits
  abbrev pub EntriesPass : Type 0
  EntriesPass = (dir : List ℕ) (groups : List Group) → AreGroups (groups_from 0 0 s.sources) s.begun s.done groups
      → (others : List CompiledLibrary) (f : Found) → IsNextLibrary base (group_of files roots) s.done others f → (now : TurnState)
      → now.progress.records ≡ base.derived ∷ others → IsHonest base.prelude now.store
      → (e : Entry) → HoldsFitting (kept dir roots s groups) now.store f e → stored (kept dir roots s groups) base.prelude now f ≡ Some e.stored

abbrev pub RunsPass : Type 0
RunsPass = (base : RunBase) (files : Paths) (roots : List (List ℕ)) (path : List ℕ) (found : Found) (s : Loading)
    (records : List CompiledLibrary) (program : CompiledLibrary)
    → IsRun (run_inputs base.prelude files roots path) found s records program → RecordsPass base files roots s × EntriesPass base files roots s
