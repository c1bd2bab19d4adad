-- Libraries in the order of loading, each with its record: reused from a store, or expanded and kept in it.
use Rattle.std.specs.Prelude.{◌≡◌, ◌<◌, ◌≤◌, ℕ, Bool, true, false, nat_eq, nat_le, ◌&&◌, List, [], ◌∷◌, ◌++◌, length, Option, Some, None, Result, Ok, Err, if◌then◌else◌}
use Rattle.std.specs.Cmp.Lexicographic.{pointwise}
use Rattle.base_data.specs.Gives.{◌>>=◌}
use Rattle.base_data.specs.Same.{same_library}
use Rattle.base_data.specs.declared.fault.Fault.{Fault}
use Rattle.core_language.specs.declared.record.CompiledLibrary.{CompiledLibrary}
use Rattle.load_forms.specs.Form.{library_body}
use Rattle.load_import.specs.Table.{same_text}
use Rattle.run_library.specs.Loaded.{all_records}
use Rattle.load_files.specs.declared.found.Found.{Found}
use Rattle.load_files.specs.declared.found.Source.{Source}
use Rattle.law_load.specs.Laws.{Libraries, IsAt}
use Rattle.base_outside.specs.Contents.{Paths, at_path}
use Rattle.base_outside.specs.Store.{KeepsOthers, Sets}
use Rattle.law_local.specs.Behind.{RunBase, behind, expand_behind}
use Rattle.law_local.specs.Entry.{ExpandedEntry, IsSoundEntry, HonestStore}
use Rattle.law_local.specs.Local.{all_sources, entry_of, IsNextLibrary}

-- How entries are spelled, where they lie, and when a record may stand behind others.
pub record CacheModel : Type 0 where
  pub entry_in : List ℕ → Option ExpandedEntry
  pub spelled : ExpandedEntry → List ℕ
  -- whether it has a spelling: data and trees beyond the limits have none
  pub has_spelling : ExpandedEntry → Bool
  pub place : Found → List ℕ
  pub follows : CompiledLibrary → List CompiledLibrary → Bool

-- the turn of one library: whether it is reused, its record, and the store that is left
pub record TurnOutcome : Type 0 where
  pub reused : Bool
  pub compiled : CompiledLibrary
  pub left : Paths

abbrev pub turned : Bool → CompiledLibrary → Paths → TurnOutcome
turned flag r left = record { reused = flag; compiled = r; left = left }

-- the turns of all: which are reused, their records or the first fault, and the store that is left
pub record TurnsOutcome : Type 0 where
  pub reused : List Bool
  pub result : Result (List CompiledLibrary) Fault
  pub left : Paths

abbrev pub all_turned : List Bool → Result (List CompiledLibrary) Fault → Paths → TurnsOutcome
all_turned flags result left = record { reused = flags; result = result; left = left }

-- the most bytes of an entry
abbrev pub entry_limit : ℕ
entry_limit = 8388608

-- ---- what a store has for a library

abbrev pub same_held : Option (List ℕ) → Option (List ℕ) → Bool
same_held None None = true
same_held None (Some b) = false
same_held (Some a) None = false
same_held (Some a) (Some b) = same_text a b

abbrev pub same_source : Source → Source → Bool
same_source a b = same_text a.path b.path && same_held a.held b.held

-- the entry was made of these sources
unfoldable pub fits : List (List ℕ) → List Source → ExpandedEntry → Bool
fits roots sources e = pointwise same_text e.roots roots && pointwise same_source e.sources sources

-- its record can stand for that of the library
unfoldable pub suits : CacheModel → List CompiledLibrary → Found → CompiledLibrary → Bool
suits cache earlier f r = same_library r.name f.opened.form.name &&
    (pointwise nat_eq r.version f.opened.form.version && (same_text r.path f.opened.path && cache.follows r earlier))

module _ (cache : CacheModel) (roots : List (List ℕ)) (group : Found → List Source) (loaded : Libraries) where
  -- the place of a library holds its entry
  pub record HoldsEntry (store : Paths) (f : Found) (r : CompiledLibrary) : Type 0 where
    pub held : List ℕ
    pub there : at_path store (cache.place f) ≡ Some held
    pub spells : cache.entry_in held ≡ Some (entry_of group roots loaded f r)

-- no other library lies at its place
abbrev pub IsAlone : CacheModel → Libraries → Found → Type 0
IsAlone cache loaded f = (j : ℕ) (file : List ℕ) (l : Found) → IsAt loaded j file l → cache.place l ≡ cache.place f → j ≡ f.place

-- an entry that may be kept is read back
abbrev pub CanBeRead : CacheModel → ExpandedEntry → Type 0
CanBeRead cache e = (cache.has_spelling e ≡ true) × ((length (cache.spelled e) ≤ entry_limit) × (cache.entry_in (cache.spelled e) ≡ Some e))

module _ (base : RunBase) where
  -- what is read of the spelling of an entry of a run, where it has one, is that entry
  abbrev pub ReadsBack : CacheModel → List (List ℕ) → (Found → List Source) → Libraries → Type 0
  ReadsBack cache roots group loaded = (records : List CompiledLibrary) (f : Found) (r : CompiledLibrary)
      → IsNextLibrary base group loaded records f → expand_behind base records f (library_body f.opened.«data») ≡ Ok r
      → cache.has_spelling (entry_of group roots loaded f r) ≡ true → (d : ExpandedEntry)
      → cache.entry_in (cache.spelled (entry_of group roots loaded f r)) ≡ Some d → d ≡ entry_of group roots loaded f r

  module _ (cache : CacheModel) (roots : List (List ℕ)) (group : Found → List Source) (loaded : Libraries) where
    abbrev pub if_right : List CompiledLibrary → Found → Option ExpandedEntry → Option CompiledLibrary
    if_right records f None = None
    if_right records f (Some e) = if fits roots (all_sources group loaded f) e && suits cache (behind base records f) f e.stored then Some e.stored else None

    abbrev pub if_short : List CompiledLibrary → Found → Option (List ℕ) → Option CompiledLibrary
    if_short records f None = None
    if_short records f (Some held) = if nat_le (length held) entry_limit then if_right records f (cache.entry_in held) else None

    -- the record that is reused, where there is one
    abbrev pub stored_for : List CompiledLibrary → Paths → Found → Option CompiledLibrary
    stored_for records store f = if_short records f (at_path store (cache.place f))

    -- ---- one library after another

    module _ (quiet : Bool) where
      -- An entry is kept unless it has no spelling or is too long. Where the store fails, only its place is touched, and
      -- nothing unsound is read there.
      pub data IsKept (e : ExpandedEntry) (place : List ℕ) (before : Paths) : Paths → Type 0 where
        kept : {after : Paths} → cache.has_spelling e ≡ true → length (cache.spelled e) ≤ entry_limit
            → Sets place (cache.spelled e) before after → IsKept e place before after
        too_long : entry_limit < length (cache.spelled e) → IsKept e place before before
        unspelled : cache.has_spelling e ≡ false → IsKept e place before before
        failed : {after : Paths} → quiet ≡ false → KeepsOthers place before after
            → ((held : List ℕ) (d : ExpandedEntry) → at_path after place ≡ Some held → cache.entry_in held ≡ Some d
            → IsSoundEntry base.prelude d) → IsKept e place before after

      -- the turn of one library
      pub data LibraryTurn (records : List CompiledLibrary) (store : Paths) (f : Found) : TurnOutcome → Type 0 where
        reused : {r : CompiledLibrary} → stored_for records store f ≡ Some r → LibraryTurn records store f (turned true r store)
        expanded : {r : CompiledLibrary} {left : Paths} → (quiet ≡ true → stored_for records store f ≡ None)
            → expand_behind base records f (library_body f.opened.«data») ≡ Ok r
            → IsKept (entry_of group roots loaded f r) (cache.place f) store left → LibraryTurn records store f (turned false r left)

      -- the turns of all, to the last or to the first fault
      pub data LibraryTurns : Libraries → List CompiledLibrary → Paths → TurnsOutcome → Type 0 where
        done : {records : List CompiledLibrary} {store : Paths} → LibraryTurns [] records store (all_turned [] (Ok records) store)
        next : {row : List ℕ × Found} {rows : Libraries} {records : List CompiledLibrary} {store middle left : Paths} {flag : Bool}
            {flags : List Bool} {r : CompiledLibrary} {result : Result (List CompiledLibrary) Fault}
            → LibraryTurn records store row.1 (turned flag r middle) → LibraryTurns rows (records ++ r ∷ []) middle (all_turned flags result left)
            → LibraryTurns (row ∷ rows) records store (all_turned (flag ∷ flags) result left)
        fault : {row : List ℕ × Found} {rows : Libraries} {records : List CompiledLibrary} {store : Paths} {f : Fault}
            → (quiet ≡ true → stored_for records store row.1 ≡ None)
            → expand_behind base records row.1 (library_body row.1.opened.«data») ≡ Err f
            → LibraryTurns (row ∷ rows) records store (all_turned [] (Err f) store)

    -- the turns over some store
    pub record HasTurns (rows : Libraries) (records : List CompiledLibrary) (store : Paths) : Type 0 where
      pub flags : List Bool
      pub result : Result (List CompiledLibrary) Fault
      pub left : Paths
      pub turns : LibraryTurns true rows records store (all_turned flags result left)

  -- ---- what reuse leaves as it is

  -- what a run gives a library suits it
  abbrev pub MakesWhatSuits : CacheModel → (Found → List Source) → Libraries → Type 0
  MakesWhatSuits cache group loaded = (records : List CompiledLibrary) (f : Found) (r : CompiledLibrary)
      → IsNextLibrary base group loaded records f → expand_behind base records f (library_body f.opened.«data») ≡ Ok r
      → suits cache (behind base records f) f r ≡ true

  pub record ReuseChangesNothing (cache : CacheModel) (roots : List (List ℕ)) (group : Found → List Source) (loaded : Libraries) : Type 0 where
    -- over an honest store the records, or the first fault, are those of expansion
    pub same : (quiet : Bool) (store : Paths) (flags : List Bool) (result : Result (List CompiledLibrary) Fault) (left : Paths)
        → HonestStore base.prelude cache.entry_in store
        → LibraryTurns cache roots group loaded quiet loaded [] store (all_turned flags result left)
        → all_records base.prelude loaded ≡ (result >>= (λ others. Ok (base.derived ∷ others)))
    -- and the store that is left is honest
    pub honest : (quiet : Bool) (store : Paths) (flags : List Bool) (result : Result (List CompiledLibrary) Fault) (left : Paths)
        → HonestStore base.prelude cache.entry_in store
        → LibraryTurns cache roots group loaded quiet loaded [] store (all_turned flags result left) → HonestStore base.prelude cache.entry_in left
    -- where the store doesn't fail, the place of each library that has a record holds its entry, if that can be read and the place is its own
    pub kept : (store : Paths) (flags : List Bool) (result : Result (List CompiledLibrary) Fault) (left : Paths) → HonestStore base.prelude cache.entry_in store
        → LibraryTurns cache roots group loaded true loaded [] store (all_turned flags result left)
        → (records : List CompiledLibrary) (f : Found) (r : CompiledLibrary) → IsNextLibrary base group loaded records f
        → expand_behind base records f (library_body f.opened.«data») ≡ Ok r
        → IsAlone cache loaded f → CanBeRead cache (entry_of group roots loaded f r) → HoldsEntry cache roots group loaded left f r
    -- over an honest store an entry that fits is reused
    pub fitting : MakesWhatSuits cache group loaded → (records : List CompiledLibrary) (f : Found)
        → IsNextLibrary base group loaded records f → (store : Paths) → HonestStore base.prelude cache.entry_in store
        → (held : List ℕ) (e : ExpandedEntry) → at_path store (cache.place f) ≡ Some held → length held ≤ entry_limit
        → cache.entry_in held ≡ Some e → fits roots (all_sources group loaded f) e ≡ true
        → stored_for cache roots group loaded records store f ≡ Some e.stored
    -- every store has turns in which it doesn't fail
    pub some : (store : Paths) → HasTurns cache roots group loaded loaded [] store
