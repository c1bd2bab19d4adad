-- Nothing is loaded but what a chain of imports leads to (R6RS 7.1).
use Rattle.std.specs.Prelude.{◌≡◌, ℕ, List, Some, slice_get}
use Rattle.load_file_names.specs.File.{file_of}
use Rattle.load_forms.specs.declared.set.Import.{Import}
use Rattle.load_files.specs.declared.found.Found.{Found}
use Rattle.law_load.specs.Laws.{Libraries, IsAt, Needs}

-- the library of an import stands at a place
pub record IsImportOf (loaded : Libraries) (imports : List Import) (place : ℕ) (library : Found) : Type 0 where
  pub n : ℕ
  pub import : Import
  pub among : slice_get imports n ≡ Some import
  pub there : IsAt loaded place (file_of import.set.library) library

-- one of some imports is at a place, or one of what it imports, and so on
pub data LeadTo (loaded : Libraries) : List Import → ℕ → Type 0 where
  at_once : (imports : List Import) (place : ℕ) (library : Found) → IsImportOf loaded imports place library → LeadTo loaded imports place
  by_others : (imports : List Import) (place from : ℕ) (library : Found) → IsImportOf loaded imports from library
      → LeadTo loaded library.opened.form.imports place → LeadTo loaded imports place

-- a chain of imports leads to each that is needed
abbrev pub ChainsLeadToNeeds : Libraries → Found → Type 0
ChainsLeadToNeeds loaded found = (place : ℕ) → Needs found place → LeadTo loaded found.opened.form.imports place

-- a program needs all that is loaded with it
abbrev pub NeedsAll : Libraries → Found → Type 0
NeedsAll loaded program = (place : ℕ) (file : List ℕ) (library : Found) → IsAt loaded place file library → Needs program place

abbrev pub ImportsLeadToAll : Libraries → Found → Type 0
ImportsLeadToAll loaded program = (place : ℕ) (file : List ℕ) (library : Found) → IsAt loaded place file library
    → LeadTo loaded program.opened.form.imports place
