-- The record of a library depends on nothing but its sources and those of all that it needs.
use Rattle.std.specs.Prelude.{◌≡◌, ℕ, List, [], ◌∷◌, ◌++◌, Option, Some, None, Result, Ok, slice_get}
use Rattle.base_data.specs.Gives.{◌>>=◌}
use Rattle.base_data.specs.declared.fault.Fault.{Fault}
use Rattle.core_language.specs.declared.record.CompiledLibrary.{CompiledLibrary}
use Rattle.load_file_names.specs.File.{file_of}
use Rattle.load_forms.specs.Form.{library_body}
use Rattle.load_files.specs.Found.{needed, absent_at, held_at}
use Rattle.load_files.specs.declared.found.Found.{Found}
use Rattle.load_files.specs.declared.found.Source.{Source}
use Rattle.law_load.specs.Laws.{Libraries, Each, AreLoadedOnce, AreAfterTheirImports, AllNeedsAreClosed, OnlyTheirImportsAreNeeded}
use Rattle.base_outside.specs.Contents.{Paths, at_path}
use Rattle.law_local.specs.Behind.{RunBase, behind, expand_behind, records_behind}
use Rattle.law_local.specs.Recorded.{records_of}
use Rattle.law_local.specs.Entry.{IsGroup, ExpandedEntry, IsSoundEntry}

-- ---- the sources of a library

-- so it is of each library, by what a table tells of their sources
abbrev pub HaveGroups : List (List ℕ) → (Found → List Source) → Libraries → Type 0
HaveGroups roots group loaded = Each (λ all f. IsGroup roots (group f) f.opened) loaded

-- what the files hold under the roots, down to the first that has the file
abbrev pub or_further : List ℕ → Option (List ℕ) → List Source → List Source
or_further path None later = absent_at path ∷ later
or_further path (Some held) later = held_at path held ∷ []

unfoldable pub group_under : Paths → List ℕ → List (List ℕ) → List Source
group_under files file [] = []
group_under files file (root ∷ roots) = or_further (root ++ file) (at_path files (root ++ file)) (group_under files file roots)

abbrev pub group_of : Paths → List (List ℕ) → Found → List Source
group_of files roots f = group_under files (file_of f.opened.form.name) roots

abbrev pub group_at : (Found → List Source) → Option (List ℕ × Found) → List Source
group_at group None = []
group_at group (Some row) = group row.1

-- the sources of the libraries at some places
abbrev pub sources_at : (Found → List Source) → Libraries → List ℕ → List Source
sources_at group loaded [] = []
sources_at group loaded (p ∷ ps) = group_at group (slice_get loaded p) ++ sources_at group loaded ps

-- the sources of all that a library needs, in the order of loading, and then its own
abbrev pub all_sources : (Found → List Source) → Libraries → Found → List Source
all_sources group loaded f = sources_at group loaded (needed f) ++ group f

-- ---- libraries that were loaded

-- what the laws of loading say of them
pub record AreLoaded (loaded : Libraries) : Type 0 where
  pub once : AreLoadedOnce loaded
  pub after : AreAfterTheirImports loaded
  pub closed : AllNeedsAreClosed loaded
  pub only : OnlyTheirImportsAreNeeded loaded

abbrev pub entry_of : (Found → List Source) → List (List ℕ) → Libraries → Found → CompiledLibrary → ExpandedEntry
entry_of group roots loaded f r = record { path = f.opened.path; roots = roots; sources = all_sources group loaded f; stored = r }

module _ (base : RunBase) where
  -- a library that was loaded behind others, which have records
  pub record IsNextLibrary (group : Found → List Source) (loaded : Libraries) (records : List CompiledLibrary) (f : Found) : Type 0 where
    pub before : Libraries
    pub file : List ℕ
    pub after : Libraries
    pub parts : loaded ≡ before ++ (file, f) ∷ after
    pub recorded : records_behind base before ≡ Ok records

  -- ---- locality

  -- its own record, behind those of the libraries that it needs
  abbrev pub behind_needed : List CompiledLibrary → Found → Result (List CompiledLibrary) Fault
  behind_needed records f = expand_behind base records f (library_body f.opened.«data») >>= (λ r. Ok (behind base records f ++ r ∷ []))

  -- The sources of a library and of all that it needs, expanded alone, give the records that the run gave, or the fault.
  abbrev pub IsLocal : (Found → List Source) → Libraries → Type 0
  IsLocal group loaded = (records : List CompiledLibrary) (f : Found) → IsNextLibrary group loaded records f
      → records_of base.prelude (all_sources group loaded f) ≡ behind_needed records f

  -- so a sound entry of these sources holds what expansion gives
  abbrev pub EntriesHold : (Found → List Source) → Libraries → Type 0
  EntriesHold group loaded = (records : List CompiledLibrary) (f : Found) → IsNextLibrary group loaded records f
      → (e : ExpandedEntry) → IsSoundEntry base.prelude e → e.sources ≡ all_sources group loaded f
      → expand_behind base records f (library_body f.opened.«data») ≡ Ok e.stored

  -- and the entry of what expansion gives is sound
  abbrev pub EntriesAreSound : (Found → List Source) → List (List ℕ) → Libraries → Type 0
  EntriesAreSound group roots loaded = (records : List CompiledLibrary) (f : Found) → IsNextLibrary group loaded records f
      → (r : CompiledLibrary) → expand_behind base records f (library_body f.opened.«data») ≡ Ok r → IsSoundEntry base.prelude (entry_of group roots loaded f r)

  pub record ReuseIsRight (group : Found → List Source) (roots : List (List ℕ)) (loaded : Libraries) : Type 0 where
    pub local : IsLocal group loaded
    pub hold : EntriesHold group loaded
    pub sound : EntriesAreSound group roots loaded
