-- Every record of a run is hygienic.
use Rattle.std.specs.Prelude.{◌≡◌, ℕ, List, [], ◌∷◌, map, length, Some, Result, Ok, slice_get}
use Rattle.base_data.specs.Datum.{PlainDatum}
use Rattle.base_data.specs.Elements.{Each}
use Rattle.base_data.specs.declared.fault.Fault.{Fault}
use Rattle.base_data.specs.declared.library.LibName.TheVariants as library
use Rattle.base_data.specs.declared.span.Span.{Span}
use Rattle.load_builtin.specs.Exports.{derived}
use Rattle.load_builtin.specs.declared.derived.TheConstants.{DERIVED_SOURCE}
use Rattle.core_language.specs.declared.record.CompiledLibrary.{CompiledLibrary}
use Rattle.run_derived.specs.Derived.{forms_of, derived_body}
use Rattle.run_derived.specs.Names as derived_names
use Rattle.eval_code.specs.Codes.{Codes}
use Rattle.load_forms.specs.Form.{library_body, program_body}
use Rattle.load_forms.specs.declared.form.LibraryForm.{LibraryForm}
use Rattle.law_fresh.specs.Leaves.{CodesHold}
use Rattle.law_fresh_expansion.specs.Known.{libraries_of}
use Rattle.law_fresh_expansion.specs.RecordMarks.{WasRead}
use Rattle.load_import.specs.Names.{Labelled}
use Rattle.run_library.specs.Imports.{form_names}
use Rattle.run_library.specs.Library.{export_tree, trees_at, body_with}
use Rattle.load_files.specs.Found.{needed}
use Rattle.load_files.specs.declared.found.Found.{Found}
use Rattle.load_files.specs.declared.found.Loading.{Loading}
use Rattle.law_load.specs.Laws.{IsAt}
use Rattle.base_outside.specs.Contents.{Paths}
use Rattle.run_prelude.specs.Prelude.{prelude_table}
use Rattle.law_references.specs.Records.{RunIsRight}
use Rattle.expand_standing.specs.Start.{started, records_at, first_frame}
use Rattle.stx_tree.specs.Context.{LeafContext}
use Rattle.stx_tree.specs.Tree.{Tree}
use Rattle.law_run.specs.Parts.{IsPartOfRun}
use Rattle.law_run.specs.Run.{run_inputs, IsRun}
use Rattle.expand_forms.specs.Top.{top_at}

-- there is no leaf of which this holds
abbrev pub IsNoLeaf : LeafContext → Type 0
IsNoLeaf c = ⊥

-- The codes of the texts that this implementation has, have no leaves.
abbrev pub CodesHaveNoLeaves : Type 0
CodesHaveNoLeaves = (table : Codes) → prelude_table ≡ Ok table → CodesHold IsNoLeaf table

-- the forms of a file have neither marks nor stamps
abbrev pub FormsWereRead : Type 0
FormsWereRead = (place : Span) (body : List PlainDatum) (forms : List Tree) → trees_at place [] body ≡ Ok forms → Each WasRead forms

module _ (prelude : Result Codes Fault) where
  -- A library is expanded behind these records: what its imports name is known, the forms of its body are trees; and the references of its record
  -- are those of identifiers of this expansion, each of which names what it stood for, and both sentences of hygiene hold of it.
  pub record IsHygienicBehind (records : List CompiledLibrary) (path : List ℕ) (form : LibraryForm)
      (body : List PlainDatum) (r : CompiledLibrary) : Type 0 where
    pub names : Labelled
    pub named : form_names records form.imports ≡ Ok names
    pub forms : List Tree
    pub read : trees_at form.name_span [] body ≡ Ok forms
    pub table : Codes
    pub given : prelude ≡ Ok table
    pub right : RunIsRight (libraries_of records) form.name records (started form.name records names table)
        (top_at (first_frame form.name) (body_with path form forms)) (map export_tree form.exports) forms r

  -- so is the derived library, behind none
  pub record IsHygienicDerived (r : CompiledLibrary) : Type 0 where
    pub forms : List Tree
    pub read : forms_of DERIVED_SOURCE.now ≡ Ok forms
    pub table : Codes
    pub given : prelude ≡ Ok table
    pub right : RunIsRight (libraries_of []) library.Derived [] (started library.Derived [] derived_names.names table)
        (top_at (first_frame library.Derived) (derived_body forms)) (derived_names.exports_of derived) forms r

  -- The records of the derived library and of libraries, each behind those that it needs.
  pub record AllHygienic (rows : List (List ℕ × Found)) (derived : CompiledLibrary) (others : List CompiledLibrary) : Type 0 where
    pub first : IsHygienicDerived derived
    pub each : (i : ℕ) (file : List ℕ) (f : Found) (r : CompiledLibrary) → IsAt rows i file f → slice_get others i ≡ Some r
        → IsHygienicBehind (derived ∷ records_at others (needed f)) f.opened.path f.opened.form (library_body f.opened.«data») r

  -- those of a part of a run
  pub record PartIsHygienic (rows : List (List ℕ × Found)) (records : List CompiledLibrary) : Type 0 where
    pub derived : CompiledLibrary
    pub others : List CompiledLibrary
    pub parts : records ≡ derived ∷ others
    pub as_many : length others ≡ length rows
    pub all : AllHygienic rows derived others

  -- and those of a run, with that of the program
  pub record RunIsHygienic (found : Found) (s : Loading) (records : List CompiledLibrary) (program : CompiledLibrary) : Type 0 where
    pub libraries : PartIsHygienic s.done records
    pub last : IsHygienicBehind (libraries.derived ∷ records_at libraries.others (needed found)) found.opened.path found.opened.form
        (program_body found.opened.«data») program

-- So it is in every part of a run, also where a later library is at fault.
abbrev pub PartsAreHygienic : Type 0
PartsAreHygienic = (files : Paths) (roots : List (List ℕ)) (path : List ℕ) (s : Loading) (first left : List (List ℕ × Found)) (records : List CompiledLibrary)
    → IsPartOfRun (run_inputs prelude_table files roots path) s first left records → PartIsHygienic prelude_table first records

-- So it is in every run.
abbrev pub RunsAreHygienic : Type 0
RunsAreHygienic = (files : Paths) (roots : List (List ℕ)) (path : List ℕ) (found : Found) (s : Loading) (records : List CompiledLibrary)
    (program : CompiledLibrary)
    → IsRun (run_inputs prelude_table files roots path) found s records program → RunIsHygienic prelude_table found s records program
