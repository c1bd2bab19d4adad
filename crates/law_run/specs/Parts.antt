-- What a run meets that may be at fault, as far as it came: where its records are put into tables, and where an expansion begins.
use Rattle.std.specs.Prelude.{◌≡◌, ℕ, true, List, [], ◌∷◌, ◌++◌, Result, Ok}
use Rattle.base_data.specs.declared.fault.Fault.{Fault}
use Rattle.base_data.specs.declared.library.LibName.TheVariants as library
use Rattle.core_language.specs.declared.record.CompiledLibrary.{CompiledLibrary}
use Rattle.run_derived.specs.Names.{names}
use Rattle.eval_code.specs.Codes.{Codes}
use Rattle.load_import.specs.Names.{Labelled}
use Rattle.run_library.specs.Imports.{form_names}
use Rattle.run_library.specs.Loaded.{all_records}
use Rattle.run_library.specs.Records.{needed_records}
use Rattle.load_files.specs.Load.{load}
use Rattle.load_files.specs.declared.found.Found.{Found}
use Rattle.load_files.specs.declared.found.Loading.{Loading}
use Rattle.base_outside.specs.Contents.{Paths}
use Rattle.run_top.specs.Whole.{loading_of}
use Rattle.law_run.specs.Fitting.{AllFit, BeginsApart}
use Rattle.law_run.specs.Run.{RunInputs, run_inputs}

-- A part of a run: loading came so far, to its end or to a fault; of the libraries that it loaded the first were expanded, and have these
-- records. Nothing is said of those that are left.
pub record IsPartOfRun (inputs : RunInputs) (s : Loading) (first left : List (List ℕ × Found)) (records : List CompiledLibrary) : Type 0 where
  pub loaded : loading_of (load inputs.files inputs.roots inputs.path) ≡ s
  pub parts : s.done ≡ first ++ left
  pub recorded : all_records inputs.prelude first ≡ Ok records

-- its records fit
abbrev pub PartsFit : Type 0
PartsFit = (prelude : Result Codes Fault) (files : Paths) (roots : List (List ℕ)) (path : List ℕ) (s : Loading)
    (first left : List (List ℕ × Found)) (records : List CompiledLibrary)
    → IsPartOfRun (run_inputs prelude files roots path) s first left records → AllFit [] records

-- the expansion of the library that comes next begins so, whatever comes of it
abbrev pub PartsBegin : Type 0
PartsBegin = (prelude : Result Codes Fault) (files : Paths) (roots : List (List ℕ)) (path : List ℕ) (s : Loading)
    (first : List (List ℕ × Found)) (file : List ℕ) (f : Found)
    (left : List (List ℕ × Found)) (records : List CompiledLibrary) (names : Labelled)
    → IsPartOfRun (run_inputs prelude files roots path) s first ((file, f) ∷ left) records
    → form_names (needed_records records (true ∷ f.needs)) f.opened.form.imports ≡ Ok names
    → BeginsApart (needed_records records (true ∷ f.needs)) f.opened.form.name names

-- and that of the program, where loading came to its end and each library was expanded
abbrev pub ProgramsBegin : Type 0
ProgramsBegin = (prelude : Result Codes Fault) (files : Paths) (roots : List (List ℕ)) (path : List ℕ) (found : Found) (s : Loading)
    (records : List CompiledLibrary) (names : Labelled)
    → load files roots path ≡ Ok (found, s) → all_records prelude s.done ≡ Ok records
    → form_names (needed_records records (true ∷ found.needs)) found.opened.form.imports ≡ Ok names
    → BeginsApart (needed_records records (true ∷ found.needs)) library.Program names

-- so does that of the derived library, which comes first
abbrev pub DerivedBegins : Type 0
DerivedBegins = BeginsApart [] library.Derived names
