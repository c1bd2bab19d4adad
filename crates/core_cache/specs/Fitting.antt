-- The record of an entry that fits.
use Rattle.std.specs.Prelude.{ℕ, Bool, ◌&&◌, List, Option, Some, None, drop, if◌then◌else◌}
use Rattle.std.specs.Cmp.Lexicographic.{pointwise}
use Rattle.base_bytes.specs.Codec.{◌>>=◌, text, listed}
use Rattle.core_cache.specs.Entry.{source, decode}
use Rattle.core_cache.specs.Fits.{same_text, are_at, fits}
use Rattle.core_cache.specs.Seal.{is_sealed}
use Rattle.core_cache.specs.declared.entry.Entry.{Entry}
use Rattle.core_language.specs.declared.record.CompiledLibrary.{CompiledLibrary}
use Rattle.load_files.specs.declared.found.Source.{Source}

-- the record of an entry that is of these roots, and of the sources at these places
abbrev pub stored_in : List (List ℕ) → List Source → List ℕ → Option Entry → Option CompiledLibrary
stored_in roots sources chosen None = None
stored_in roots sources chosen (Some e) = if fits e roots sources chosen then Some e.stored else None

-- the record of the entry that all of the bytes spell, where it is of these roots and sources
abbrev pub fitting_record : List (List ℕ) → List Source → List ℕ → List ℕ → Option CompiledLibrary
fitting_record roots sources chosen bytes = stored_in roots sources chosen (decode bytes)

-- that of the entry that bytes are, sealed
abbrev pub sealed_record : List (List ℕ) → List Source → List ℕ → List ℕ → Option CompiledLibrary
sealed_record roots sources chosen bytes = if is_sealed bytes then fitting_record roots sources chosen (drop 40 bytes) else None

abbrev pub source_of : List ℕ → Option (List ℕ) → Source
source_of path held = record { path = path; held = held }

-- the bytes behind a value that passes a test
abbrev pub behind : {A : Type 0} → (A → Bool) → Option (A × List ℕ) → Option (List ℕ)
behind test r = r >>= λ x. if test x.0 then Some x.1 else None

-- the bytes behind a path, these roots, and the sources at these places
abbrev pub front : List (List ℕ) → List Source → List ℕ → List ℕ → Option (List ℕ)
front roots sources chosen bytes = text.get bytes >>= λ path. behind (λ texts. pointwise same_text texts roots) ((listed text).get path.1)
    >>= λ rest. behind (are_at sources chosen) ((listed source).get rest)
