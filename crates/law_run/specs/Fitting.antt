-- What a run meets where its records are put into tables, and where the expansion of a library begins.
use Rattle.std.specs.Prelude.{◌≡◌, ℕ, suc, false, true, List, [], ◌∷◌, ◌++◌, length, map, Ok, Result}
use Rattle.base_data.specs.Elements.{Each, Among, Once}
use Rattle.base_data.specs.declared.fault.Fault.{Fault}
use Rattle.base_data.specs.declared.library.LibName.{LibName}
use Rattle.base_data.specs.declared.library.LibName.TheVariants as library
use Rattle.stx_tree.specs.declared.frame_row.FrameRow.{FrameRow}
use Rattle.stx_frames.specs.Scope.{has_frame, adopted, are_new}
use Rattle.core_language.specs.declared.record.CompiledLibrary.{CompiledLibrary}
use Rattle.law_core.specs.Follows.{names_of, bound_labels, IsOwn}
use Rattle.eval_code.specs.Codes.{Codes}
use Rattle.load_import.specs.Names.{Labelled}
use Rattle.run_library.specs.Imports.{form_names}
use Rattle.run_library.specs.Records.{needed_records}
use Rattle.load_files.specs.declared.found.Found.{Found}
use Rattle.load_files.specs.declared.found.Loading.{Loading}
use Rattle.law_load.specs.Laws.{IsAt}
use Rattle.base_outside.specs.Contents.{Paths}
use Rattle.core_records.specs.Frame.{record_frame}
use Rattle.law_run.specs.Run.{run_inputs, IsRun}
use Rattle.expand_standing.specs.Start.{rows_of, first_frame, import_row}
use Rattle.law_run.specs.Bound.{AreBound}

-- A record that comes behind others can be put beside them: it is the first of its library; its rows are of its own frames, and no two
-- have one frame, symbol and marks; the labels that it binds are its own, and it binds none twice.
pub record Fits (earlier : List CompiledLibrary) (r : CompiledLibrary) : Type 0 where
  pub name : Among (names_of earlier) r.name → ⊥
  pub own_rows : Each (λ (f : FrameRow). IsOwn r f.frame.0) r.frames
  pub rows : AreBound [] r.frames
  pub own_labels : Each (λ l. IsOwn r l.0) (bound_labels r)
  pub labels : Once (bound_labels r)

abbrev pub AllFit : List CompiledLibrary → List CompiledLibrary → Type 0
AllFit earlier [] = Unit {0}
AllFit earlier (r ∷ rs) = Fits earlier r × AllFit (earlier ++ r ∷ []) rs

-- so it is with the records of every run
abbrev pub RecordsFit : Type 0
RecordsFit = (prelude : Result Codes Fault) (files : Paths) (roots : List (List ℕ)) (path : List ℕ) (found : Found) (s : Loading)
    (records : List CompiledLibrary) (program : CompiledLibrary)
    → IsRun (run_inputs prelude files roots path) found s records program → AllFit [] records

-- The expansion of a library behind these records, with these names: none of them has its name; the frame of what record forms introduce, and
-- its own, are none of theirs; and no two of the names are one.
pub record BeginsApart (behind : List CompiledLibrary) (name : LibName) (names : Labelled) : Type 0 where
  pub new : Among (names_of behind) name → ⊥
  pub introduced : are_new record_frame (adopted [] (rows_of behind)) ≡ true
  pub own_frame : has_frame (first_frame name) (adopted [] (rows_of behind ++ record_frame)) ≡ false
  pub imports : AreBound (adopted [] (rows_of behind ++ record_frame)) (map (import_row (first_frame name)) names)

-- so it is with each library that is loaded, behind those before it that it needs, and with the program
pub record AllBegin (found : Found) (s : Loading) (records : List CompiledLibrary) : Type 0 where
  pub each : (before after : List CompiledLibrary) (i : ℕ) (file : List ℕ) (f : Found) (names : Labelled) → records ≡ before ++ after
      → length before ≡ suc i → IsAt s.done i file f
      → form_names (needed_records before (true ∷ f.needs)) f.opened.form.imports ≡ Ok names
      → BeginsApart (needed_records before (true ∷ f.needs)) f.opened.form.name names
  pub last : (names : Labelled) → form_names (needed_records records (true ∷ found.needs)) found.opened.form.imports ≡ Ok names
      → BeginsApart (needed_records records (true ∷ found.needs)) library.Program names

abbrev pub ExpansionsBegin : Type 0
ExpansionsBegin = (prelude : Result Codes Fault) (files : Paths) (roots : List (List ℕ)) (path : List ℕ) (found : Found) (s : Loading)
    (records : List CompiledLibrary) (program : CompiledLibrary)
    → IsRun (run_inputs prelude files roots path) found s records program → AllBegin found s records
