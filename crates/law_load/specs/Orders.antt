-- In which order libraries are loaded: depth first along the imports, each where it is referred to first (R6RS 7.1).
use Rattle.std.specs.Prelude.{◌≡◌, ℕ, true, false, List, [], ◌∷◌, ◌++◌, map, Some, is_some, slice_get}
use Rattle.load_builtin.specs.Exports.{exports}
use Rattle.load_file_names.specs.File.{file_of}
use Rattle.load_forms.specs.declared.set.Import.{Import}
use Rattle.load_files.specs.declared.found.Found.{Found}
use Rattle.law_load.specs.Laws.{Libraries, IsAt}

-- the files of libraries, in order
abbrev pub files_of : Libraries → List (List ℕ)
files_of loaded = map (λ (row : List ℕ × Found). row.0) loaded

abbrev pub IsAmong : List (List ℕ) → List ℕ → Type 0
IsAmong files file = (n : ℕ) × (slice_get files n ≡ Some file)

abbrev pub IsNotAmong : List (List ℕ) → List ℕ → Type 0
IsNotAmong files file = (n : ℕ) → slice_get files n ≡ Some file → ⊥

-- The files that are loaded where these are already and these imports are followed, the first one first. A library that the
-- implementation gives has no file, and one that is loaded isn't loaded again. A new one comes behind all that its own imports load,
-- and before all that the imports behind it load.
pub data LoadsFollow (loaded : Libraries) : List (List ℕ) → List Import → List (List ℕ) → Type 0 where
  no_more : {before : List (List ℕ)} → LoadsFollow loaded before [] before
  given : {before after : List (List ℕ)} {i : Import} {is : List Import} → is_some (exports i.set.library) ≡ true
      → LoadsFollow loaded before is after → LoadsFollow loaded before (i ∷ is) after
  again : {before after : List (List ℕ)} {i : Import} {is : List Import} → is_some (exports i.set.library) ≡ false → IsAmong before (file_of i.set.library)
      → LoadsFollow loaded before is after → LoadsFollow loaded before (i ∷ is) after
  anew : {before below after : List (List ℕ)} {i : Import} {is : List Import} (place : ℕ) (library : Found) → is_some (exports i.set.library) ≡ false
      → IsNotAmong before (file_of i.set.library) → IsAt loaded place (file_of i.set.library) library
      → LoadsFollow loaded before library.opened.form.imports below
      → LoadsFollow loaded (below ++ file_of i.set.library ∷ []) is after → LoadsFollow loaded before (i ∷ is) after

-- all is loaded in this order, and there is no other
abbrev pub AreInOrder : Libraries → Found → Type 0
AreInOrder loaded program = LoadsFollow loaded [] program.opened.form.imports (files_of loaded)

abbrev pub IsTheOrder : Libraries → Found → Type 0
IsTheOrder loaded program = (files : List (List ℕ)) → LoadsFollow loaded [] program.opened.form.imports files → files ≡ files_of loaded
