-- What stands where loading ends or stops: each library once, after those that it imports (R6RS 7.1 and 7.2).
use Rattle.std.specs.Prelude.{◌≡◌, ◌⊎◌, ◌<◌, ℕ, true, false, List, Some, is_some, slice_get}
use Rattle.load_builtin.specs.Exports.{exports}
use Rattle.load_file_names.specs.File.{file_of}
use Rattle.load_forms.specs.Version.{version_fits}
use Rattle.load_forms.specs.declared.set.Import.{Import}
use Rattle.load_import.specs.declared.set.ImportSet.{ImportSet}
use Rattle.load_files.specs.Load.{builtin_version}
use Rattle.load_files.specs.declared.found.Found.{Found}

-- the libraries that are loaded, in order, each under its file
abbrev pub Libraries : Type 0
Libraries = List (List ℕ × Found)

-- a library stands at a place, under a file
abbrev pub IsAt : Libraries → ℕ → List ℕ → Found → Type 0
IsAt loaded place file library = slice_get loaded place ≡ Some (file, library)

-- one has marked a place among those that it needs
abbrev pub Needs : Found → ℕ → Type 0
Needs found place = slice_get found.needs place ≡ Some true

-- something holds of each library
abbrev pub Each : (Libraries → Found → Type 0) → Libraries → Type 0
Each P loaded = (place : ℕ) (file : List ℕ) (library : Found) → IsAt loaded place file library → P loaded library

-- ---- each library is loaded once

pub record AreLoadedOnce (loaded : Libraries) : Type 0 where
  -- no file stands at two places
  pub once : (i j : ℕ) (file : List ℕ) (a b : Found) → IsAt loaded i file a → IsAt loaded j file b → i ≡ j
  -- a library's place is how many were loaded before it
  pub in_order : (i : ℕ) (file : List ℕ) (a : Found) → IsAt loaded i file a → a.place ≡ i
  -- it stands under the file of the name that is written in it
  pub named : (i : ℕ) (file : List ℕ) (a : Found) → IsAt loaded i file a → file ≡ file_of a.opened.form.name

-- ---- after those that it imports

-- the library of an import set is loaded before one that needs it, in a version that fits
pub record IsLoadedBefore (loaded : Libraries) (set : ImportSet) (found : Found) : Type 0 where
  pub place : ℕ
  pub library : Found
  pub there : IsAt loaded place (file_of set.library) library
  pub before : place < found.place
  pub fits : version_fits library.opened.form.version set.version ≡ true
  pub needed : Needs found place

-- a library that the implementation gives has its version; every other one is loaded
pub record IsImported (loaded : Libraries) (set : ImportSet) (found : Found) : Type 0 where
  pub given : is_some (exports set.library) ≡ true → version_fits builtin_version set.version ≡ true
  pub loaded_before : is_some (exports set.library) ≡ false → IsLoadedBefore loaded set found

abbrev pub IsAfterItsImports : Libraries → Found → Type 0
IsAfterItsImports loaded found = (n : ℕ) (i : Import) → slice_get found.opened.form.imports n ≡ Some i → IsImported loaded i.set found

abbrev pub AreAfterTheirImports : Libraries → Type 0
AreAfterTheirImports loaded = Each IsAfterItsImports loaded

-- ---- what a library needs

-- one that is needed is loaded before, and what it needs is needed too
pub record IsNeeded (loaded : Libraries) (found : Found) (place : ℕ) : Type 0 where
  pub file : List ℕ
  pub library : Found
  pub there : IsAt loaded place file library
  pub before : place < found.place
  pub also : (other : ℕ) → Needs library other → Needs found other

abbrev pub NeedsAreClosed : Libraries → Found → Type 0
NeedsAreClosed loaded found = (place : ℕ) → Needs found place → IsNeeded loaded found place

abbrev pub AllNeedsAreClosed : Libraries → Type 0
AllNeedsAreClosed loaded = Each NeedsAreClosed loaded

-- the library of an import set, which the implementation doesn't give, is at this place, or needs the one there
pub record Brings (loaded : Libraries) (set : ImportSet) (place : ℕ) : Type 0 where
  pub not_given : is_some (exports set.library) ≡ false
  pub from : ℕ
  pub library : Found
  pub there : IsAt loaded from (file_of set.library) library
  pub brought : (place ≡ from) ⊎ Needs library place

-- a place that is needed for one of these imports
pub record IsBrought (loaded : Libraries) (imports : List Import) (place : ℕ) : Type 0 where
  pub n : ℕ
  pub import : Import
  pub among : slice_get imports n ≡ Some import
  pub brings : Brings loaded import.set place

-- nothing is needed but the imports and what they need
abbrev pub OnlyImportsAreNeeded : Libraries → Found → Type 0
OnlyImportsAreNeeded loaded found = (place : ℕ) → Needs found place → IsBrought loaded found.opened.form.imports place

abbrev pub OnlyTheirImportsAreNeeded : Libraries → Type 0
OnlyTheirImportsAreNeeded loaded = Each OnlyImportsAreNeeded loaded
