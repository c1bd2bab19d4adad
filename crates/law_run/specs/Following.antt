-- A run: its records follow one another.
use Rattle.std.specs.Prelude.{◌≡◌, ℕ, List, [], ◌∷◌, ◌++◌, length, Some, slice_get, Result}
use Rattle.base_data.specs.Elements.{Each}
use Rattle.base_data.specs.declared.fault.Fault.{Fault}
use Rattle.core_language.specs.declared.record.CompiledLibrary.{CompiledLibrary}
use Rattle.law_core.specs.Following.{AllFollow}
use Rattle.law_core.specs.Follows.{Follows}
use Rattle.eval_code.specs.Codes.{Codes}
use Rattle.load_files.specs.Found.{needed}
use Rattle.load_files.specs.declared.found.Found.{Found}
use Rattle.load_files.specs.declared.found.Loading.{Loading}
use Rattle.law_load.specs.Laws.{IsAt}
use Rattle.base_outside.specs.Contents.{Paths}
use Rattle.law_run.specs.Run.{run_inputs, IsRun}
use Rattle.expand_standing.specs.Start.{records_at}
use Rattle.law_run.specs.Known.{MentionsTheKnown}
use Rattle.law_run.specs.Once.{NameOnce}

-- the records of the derived library, of libraries that were loaded, and of the program
pub record DoFollow (found : Found) (s : Loading) (records : List CompiledLibrary) (program : CompiledLibrary) : Type 0 where
  pub derived : CompiledLibrary
  pub others : List CompiledLibrary
  -- that of the derived library comes first, and follows none
  pub parts : records ≡ derived ∷ others
  pub first : Follows derived []
  -- each library has its record, in the order of loading, which follows those that the library needs
  pub as_many : length others ≡ length s.done
  pub each : (i : ℕ) (file : List ℕ) (f : Found) (r : CompiledLibrary) → IsAt s.done i file f → slice_get others i ≡ Some r
      → Follows r (derived ∷ records_at others (needed f))
  pub last : Follows program (derived ∷ records_at others (needed found))
  -- and each follows all that stand before it
  pub all : AllFollow [] (records ++ program ∷ [])

-- so it is in every run
abbrev pub RecordsFollowInRuns : Type 0
RecordsFollowInRuns = (prelude : Result Codes Fault) (files : Paths) (roots : List (List ℕ)) (path : List ℕ) (found : Found) (s : Loading)
    (records : List CompiledLibrary) (program : CompiledLibrary)
    → IsRun (run_inputs prelude files roots path) found s records program → DoFollow found s records program

-- all that its records make has a name of its own
abbrev pub RunsNameOnce : Type 0
RunsNameOnce = (prelude : Result Codes Fault) (files : Paths) (roots : List (List ℕ)) (path : List ℕ) (found : Found) (s : Loading)
    (records : List CompiledLibrary) (program : CompiledLibrary)
    → IsRun (run_inputs prelude files roots path) found s records program → NameOnce (records ++ program ∷ [])

-- and all that they mention is known
abbrev pub RunsMentionTheKnown : Type 0
RunsMentionTheKnown = (prelude : Result Codes Fault) (files : Paths) (roots : List (List ℕ)) (path : List ℕ) (found : Found) (s : Loading)
    (records : List CompiledLibrary) (program : CompiledLibrary)
    → IsRun (run_inputs prelude files roots path) found s records program → Each (MentionsTheKnown (records ++ program ∷ [])) (records ++ program ∷ [])
