-- The entries of a run: what they are made of, where they are kept, and what is read of them.
use Rattle.std.specs.Prelude.{ℕ, nat_eq, nat_lt, Bool, true, ◌&&◌, List, [], ◌∷◌, length, drop, Option, None, Some, slice_get, if◌then◌else◌}
use Rattle.std.specs.Cmp.Lexicographic.{pointwise}
use Rattle.base_data.specs.Same.{same_library}
use Rattle.core_cache.specs.Entry.{encode, decode, has_spelling}
use Rattle.core_cache.specs.Fits.{same_text}
use Rattle.core_cache.specs.Fitting.{stored_in}
use Rattle.core_cache.specs.Place.{place}
use Rattle.core_cache.specs.Seal.{sealed}
use Rattle.core_cache.specs.declared.entry.Entry.{Entry}
use Rattle.core_language.specs.declared.record.CompiledLibrary.{CompiledLibrary}
use Rattle.law_core.specs.Follows.{follows}
use Rattle.run_library.specs.Records.{needed_records}
use Rattle.load_files.specs.declared.found.Found.{Found}
use Rattle.load_files.specs.declared.found.Source.{Source}
use Rattle.run_reuse.specs.Groups.{chosen, picked}
use Rattle.run_reuse.specs.declared.groups.Group.{Group}

-- the most bytes of an entry
abbrev pub entry_limit : ℕ
entry_limit = 8388608

-- what entries of a run are made of beside their records, and where they are kept: the directory, the roots, all that the
-- run has read, and the groups of the libraries in the order of loading
pub record CacheInputs : Type 0 where
  pub dir : List ℕ
  pub roots : List (List ℕ)
  pub sources : List Source
  pub groups : List Group

-- ---- an entry, and its bytes

-- the entry of a library and its record
abbrev pub made : CacheInputs → Found → CompiledLibrary → Entry
made k f r = record { path = f.opened.path; roots = k.roots; sources = picked k.sources (chosen k.groups f); stored = r }

-- its bytes, where it has a spelling
abbrev pub spelled : Entry → Option (List ℕ)
spelled e = if has_spelling e then Some (sealed (encode e)) else None

-- the body that is sealed
abbrev pub unsealed : List ℕ → Option (List ℕ)
unsealed held = if same_text held (sealed (drop 40 held)) then Some (drop 40 held) else None

abbrev pub decoded : Option (List ℕ) → Option Entry
decoded None = None
decoded (Some body) = decode body

-- the entry that bytes are, sealed
abbrev pub entry_in : List ℕ → Option Entry
entry_in held = decoded (unsealed held)

-- ---- where it is kept

abbrev pub held_or_none : Option (List ℕ) → List ℕ
held_or_none None = []
held_or_none (Some held) = held

abbrev pub bytes_of : Option Source → List ℕ
bytes_of None = []
bytes_of (Some s) = held_or_none s.held

abbrev pub source_at : List Source → Option Group → List ℕ
source_at sources None = []
source_at sources (Some g) = bytes_of (slice_get sources g.own)

-- the bytes of its own file
abbrev pub own_source : CacheInputs → Found → List ℕ
own_source k f = source_at k.sources (slice_get k.groups f.place)

abbrev pub place_of : CacheInputs → Found → List ℕ
place_of k f = place k.dir f.opened.path (own_source k f)

-- ---- the record that a store has for a library

-- the records before a library, of those that the run has made
abbrev pub earlier : List CompiledLibrary → Found → List CompiledLibrary
earlier records f = needed_records records (true ∷ f.needs)

-- a record can stand for that of the library
abbrev pub suits : List CompiledLibrary → Found → CompiledLibrary → Bool
suits records f r = same_library r.name f.opened.form.name &&
    (pointwise nat_eq r.version f.opened.form.version && (same_text r.path f.opened.path && follows r (earlier records f)))

abbrev pub if_suits : List CompiledLibrary → Found → Option CompiledLibrary → Option CompiledLibrary
if_suits records f None = None
if_suits records f (Some r) = if suits records f r then Some r else None

-- the record of an entry of its roots and sources
abbrev pub if_fits : CacheInputs → Found → Option Entry → Option CompiledLibrary
if_fits k f o = stored_in k.roots k.sources (chosen k.groups f) o

abbrev pub if_short : CacheInputs → List CompiledLibrary → Found → Option (List ℕ) → Option CompiledLibrary
if_short k records f None = None
if_short k records f (Some held) = if nat_lt entry_limit (length held) then None else if_suits records f (if_fits k f (entry_in held))
