-- The codec of entries.
use Rattle.std.specs.Prelude.{ℕ, Bool, List, Option}
use Rattle.base_bytes.specs.Codec.{Codec, text, blob, mapped, ◌then◌, optional, listed, all_of}
use Rattle.core_cache.specs.declared.entry.Entry.{Entry}
use Rattle.core_codec.specs.Records.{lib_record}
use Rattle.load_files.specs.declared.found.Source.{Source}

unfoldable pub source : Codec Source
source = mapped (λ s. (s.path, s.held)) (λ p. record { path = p.0; held = p.1 }) (text then optional blob)

unfoldable pub entry : Codec Entry
entry = mapped (λ e. (e.path, (e.roots, (e.sources, e.stored)))) (λ p. record { path = p.0; roots = p.1.0; sources = p.1.1.0; stored = p.1.1.1 })
    (text then listed text then listed source then lib_record)

-- the spelling of an entry
abbrev pub encode : Entry → List ℕ
encode e = entry.put e

-- the entry that all of the bytes spell
abbrev pub decode : List ℕ → Option Entry
decode bytes = all_of entry bytes

abbrev pub has_spelling : Entry → Bool
has_spelling e = entry.fits e
