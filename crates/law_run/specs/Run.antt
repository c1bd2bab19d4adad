-- A run: how its records stand behind one another, and what holds of its text.
use Rattle.std.specs.Prelude.{◌≡◌, ℕ, List, [], ◌∷◌, ◌++◌, length, Some, slice_get, Result, Ok}
use Rattle.base_data.specs.Elements.{Each, Once}
use Rattle.base_data.specs.declared.fault.Fault.{Fault}
use Rattle.base_data.specs.declared.library.LibName.{LibName}
use Rattle.base_data.specs.declared.library.LibName.TheVariants as library
use Rattle.core_language.specs.declared.record.CompiledLibrary.{CompiledLibrary}
use Rattle.law_core.specs.Follows.{names_of, all_cores}
use Rattle.eval_code.specs.Codes.{Codes}
use Rattle.law_expand.specs.Good.{IsGood}
use Rattle.law_expand.specs.Keywords.{HasGoodKeywords}
use Rattle.law_expand.specs.Serves.{Serves}
use Rattle.law_expand.specs.Shallow.{IsShallow}
use Rattle.law_expand.specs.Variables.{HasIndices}
use Rattle.load_forms.specs.Form.{program_body}
use Rattle.run_library.specs.Loaded.{all_records, expand_found}
use Rattle.load_files.specs.Found.{needed}
use Rattle.load_files.specs.Load.{load}
use Rattle.load_files.specs.declared.found.Found.{Found}
use Rattle.load_files.specs.declared.found.Loading.{Loading}
use Rattle.law_load.specs.Laws.{IsAt}
use Rattle.base_outside.specs.Contents.{Paths}
use Rattle.expand_standing.specs.Start.{records_at}
use Rattle.law_text.specs.Text.{text_of, IsClosedOnce}

-- what a run is given: the codes of the texts of this implementation, the files, the roots of libraries, and the path of the program
pub record RunInputs : Type 0 where
  pub prelude : Result Codes Fault
  pub files : Paths
  pub roots : List (List ℕ)
  pub path : List ℕ

abbrev pub run_inputs : Result Codes Fault → Paths → List (List ℕ) → List ℕ → RunInputs
run_inputs prelude files roots path = record { prelude = prelude; files = files; roots = roots; path = path }

-- a program is loaded with all that it imports, directly or not; each library is expanded, and then the program
pub record IsRun (inputs : RunInputs) (found : Found) (s : Loading) (records : List CompiledLibrary) (program : CompiledLibrary) : Type 0 where
  pub loaded : load inputs.files inputs.roots inputs.path ≡ Ok (found, s)
  pub recorded : all_records inputs.prelude s.done ≡ Ok records
  pub expanded : expand_found inputs.prelude records found (program_body found.opened.«data») ≡ Ok program

-- The record of a library, behind those that it needs: what expansion promises of it holds.
pub record Stands (earlier : List CompiledLibrary) (name : LibName) (r : CompiledLibrary) : Type 0 where
  pub named : r.name ≡ name
  pub good : IsGood earlier r
  pub keywords : HasGoodKeywords earlier r
  pub serves : Serves earlier r
  pub indices : HasIndices r
  pub shallow : Each IsShallow (all_cores r)

-- the records of the derived library, of libraries that were loaded, and of the program
pub record AllStand (found : Found) (s : Loading) (records : List CompiledLibrary) (program : CompiledLibrary) : Type 0 where
  pub derived : CompiledLibrary
  pub others : List CompiledLibrary
  -- that of the derived library comes first, behind no other
  pub parts : records ≡ derived ∷ others
  pub first : Stands [] library.Derived derived
  -- each library has its record, in the order of loading
  pub as_many : length others ≡ length s.done
  pub each : (i : ℕ) (file : List ℕ) (f : Found) (r : CompiledLibrary) → IsAt s.done i file f → slice_get others i ≡ Some r
      → Stands (derived ∷ records_at others (needed f)) f.opened.form.name r
  pub last : Stands (derived ∷ records_at others (needed found)) library.Program program
  -- no two of them have one name
  pub once : Once (names_of (records ++ program ∷ []))

-- so it is in every run
abbrev pub RecordsStand : Type 0
RecordsStand = (prelude : Result Codes Fault) (files : Paths) (roots : List (List ℕ)) (path : List ℕ) (found : Found) (s : Loading)
    (records : List CompiledLibrary) (program : CompiledLibrary)
    → IsRun (run_inputs prelude files roots path) found s records program → AllStand found s records program

-- and the text of every run is closed, and bound once
abbrev pub RunsAreClosedOnce : Type 0
RunsAreClosedOnce = (prelude : Result Codes Fault) (files : Paths) (roots : List (List ℕ)) (path : List ℕ) (found : Found) (s : Loading)
    (records : List CompiledLibrary) (program : CompiledLibrary)
    → IsRun (run_inputs prelude files roots path) found s records program → IsClosedOnce (text_of records program)
