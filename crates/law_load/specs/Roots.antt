-- Where the files of libraries stand (R6RS leaves it to the implementation).
use Rattle.std.specs.Prelude.{◌≡◌, ℕ, List, ◌∷◌, ◌++◌, Some, None, Ok, slice_get}
use Rattle.load_file_names.specs.File.{file_of}
use Rattle.base_outside.specs.Contents.{Paths, at_path}
use Rattle.load_files.specs.Load.{library_in}
use Rattle.load_files.specs.declared.found.Opened.{Opened}
use Rattle.load_files.specs.declared.found.Found.{Found}
use Rattle.law_load.specs.Laws.{Libraries, IsAt}

-- a path below a root, where no root before has the file
pub record IsFirst (files : Paths) (roots : List (List ℕ)) (file path : List ℕ) : Type 0 where
  pub before : List (List ℕ)
  pub root : List ℕ
  pub after : List (List ℕ)
  pub parts : roots ≡ before ++ root ∷ after
  pub below : path ≡ root ++ file
  pub absent : (i : ℕ) (other : List ℕ) → slice_get before i ≡ Some other → at_path files (other ++ file) ≡ None

-- a library is what the file of its name holds below the first root that has it
pub record StandsBelow (files : Paths) (roots : List (List ℕ)) (file : List ℕ) (library : Opened) : Type 0 where
  pub named : file ≡ file_of library.form.name
  pub first : IsFirst files roots file library.path
  pub held : List ℕ
  pub there : at_path files library.path ≡ Some held
  pub read : library_in library.form.name library.path held ≡ Ok library

abbrev pub AllStandBelow : Paths → List (List ℕ) → Libraries → Type 0
AllStandBelow files roots loaded = (place : ℕ) (file : List ℕ) (library : Found) → IsAt loaded place file library → StandsBelow files roots file library.opened
