-- What is kept of a library that was expanded, and when it is right.
use Rattle.std.specs.Prelude.{◌≡◌, ◌<◌, ℕ, suc, true, false, List, [], ◌∷◌, ◌++◌, length, map, Option, Some, is_some, slice_get, Result, Ok}
use Rattle.load_builtin.specs.Exports.{exports}
use Rattle.core_language.specs.declared.record.CompiledLibrary.{CompiledLibrary}
use Rattle.base_data.specs.declared.fault.Fault.{Fault}
use Rattle.eval_code.specs.Codes.{Codes}
use Rattle.load_file_names.specs.File.{file_of}
use Rattle.load_forms.specs.declared.set.Import.{Import}
use Rattle.load_files.specs.Found.{absent_at, held_at}
use Rattle.load_files.specs.declared.found.Opened.{Opened}
use Rattle.load_files.specs.declared.found.Source.{Source}
use Rattle.base_outside.specs.Contents.{Paths, at_path}
use Rattle.law_local.specs.Recorded.{library_at, records_of}

-- a library with the sources of all that it needs before its own, and its record
pub record ExpandedEntry : Type 0 where
  pub path : List ℕ
  pub roots : List (List ℕ)
  pub sources : List Source
  pub stored : CompiledLibrary

-- ---- how its sources are laid out

-- those of one library: absent paths, and then the path under the first root that has its file
pub record IsGroup (roots : List (List ℕ)) (sources : List Source) (o : Opened) : Type 0 where
  pub before : List (List ℕ)
  pub root : List ℕ
  pub after : List (List ℕ)
  pub split : roots ≡ before ++ root ∷ after
  pub bytes : List ℕ
  pub path : o.path ≡ root ++ file_of o.form.name
  pub parts : sources ≡ map (λ (r : List ℕ). absent_at (r ++ file_of o.form.name)) before ++ held_at o.path bytes ∷ []
  -- reading the bytes gives what was read
  pub read : library_at o.path bytes ≡ Ok o

-- libraries with their sources
abbrev pub Groups : Type 0
Groups = List (List Source × Opened)

abbrev pub sources_in : Groups → List Source
sources_in [] = []
sources_in (g ∷ gs) = g.0 ++ sources_in gs

-- one refers to another, which the implementation doesn't give
pub record Refers (groups : Groups) (i j : ℕ) : Type 0 where
  pub from : List Source × Opened
  pub there : slice_get groups i ≡ Some from
  pub n : ℕ
  pub import : Import
  pub among : slice_get from.1.form.imports n ≡ Some import
  pub not_given : is_some (exports import.set.library) ≡ false
  pub to : List Source × Opened
  pub there_too : slice_get groups j ≡ Some to
  pub named : file_of to.1.form.name ≡ file_of import.set.library

-- by one reference after another
pub data Reaches (groups : Groups) : ℕ → ℕ → Type 0 where
  refers : {i j : ℕ} → Refers groups i j → Reaches groups i j
  further : {i j k : ℕ} → Refers groups i j → Reaches groups j k → Reaches groups i k

-- a library to which one refers stands before it
pub record IsEarlier (groups : Groups) (i : ℕ) (import : Import) : Type 0 where
  pub place : ℕ
  pub library : List Source × Opened
  pub before : place < i
  pub there : slice_get groups place ≡ Some library
  pub named : file_of library.1.form.name ≡ file_of import.set.library

pub record IsLaidOut (e : ExpandedEntry) : Type 0 where
  pub groups : Groups
  pub parts : e.sources ≡ sources_in groups
  pub read : (i : ℕ) (g : List Source × Opened) → slice_get groups i ≡ Some g → IsGroup e.roots g.0 g.1
  -- the paths with bytes differ, and none of them is absent in any group
  pub apart : (i j : ℕ) (g h : List Source × Opened) → slice_get groups i ≡ Some g → slice_get groups j ≡ Some h → g.1.path ≡ h.1.path → i ≡ j
  pub never_absent : (i j : ℕ) (g : List Source × Opened) (a : Source) → slice_get groups i ≡ Some g → slice_get e.sources j ≡ Some a
      → a.path ≡ g.1.path → is_some a.held ≡ true
  -- what a group refers to stands in an earlier one, and the last reaches every other
  pub earlier : (i n : ℕ) (g : List Source × Opened) (import : Import) → slice_get groups i ≡ Some g
      → slice_get g.1.form.imports n ≡ Some import → is_some (exports import.set.library) ≡ false → IsEarlier groups i import
  pub last : ℕ
  pub many : length groups ≡ suc last
  pub reaches : (i : ℕ) → i < last → Reaches groups last i

-- ---- its record

-- Expanding the list gives each of its libraries a record, and the last is the one that is stored.
pub record IsSoundEntry (prelude : Result Codes Fault) (e : ExpandedEntry) : Type 0 where
  pub laid_out : IsLaidOut e
  pub earlier : List CompiledLibrary
  pub recorded : records_of prelude e.sources ≡ Ok (earlier ++ e.stored ∷ [])
  pub path : e.stored.path ≡ e.path

-- whatever a store's bytes spell, by a reading of entries, is sound
abbrev pub HonestStore : Result Codes Fault → (List ℕ → Option ExpandedEntry) → Paths → Type 0
HonestStore prelude entry_in store = (place held : List ℕ) (e : ExpandedEntry) → at_path store place ≡ Some held → entry_in held ≡ Some e
    → IsSoundEntry prelude e
