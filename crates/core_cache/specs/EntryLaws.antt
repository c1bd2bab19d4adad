-- Entries are decoded as they were encoded.
use Rattle.std.proofs.Common.{◌≡◌, ℕ, true, List, Some, refl}
use Rattle.base_bytes.specs.Laws.{Lawful, IsBytes, mapped-lawful, then-lawful, text-lawful, blob-lawful, listed-lawful, optional-lawful, all_takes, all_again}
use Rattle.core_cache.specs.Entry.{source, entry, encode, decode, has_spelling}
use Rattle.core_cache.specs.declared.entry.Entry.{Entry}
use Rattle.core_codec.specs.RecordLaws.{lib_record-lawful}

source-lawful : Lawful source
unfolding source
source-lawful = mapped-lawful _ _ (λ p e. refl) (λ s. refl) (then-lawful text-lawful (optional-lawful blob-lawful))

pub entry-lawful : Lawful entry
unfolding entry
entry-lawful = mapped-lawful _ _ (λ p e. refl) (λ s. refl)
    (then-lawful text-lawful (then-lawful (listed-lawful text-lawful) (then-lawful (listed-lawful source-lawful) lib_record-lawful)))

-- what is encoded of an entry with a spelling is decoded to that entry
abbrev pub RoundTrip : Type 0
RoundTrip = (e : Entry) → has_spelling e ≡ true → decode (encode e) ≡ Some e

-- bytes that are decoded to an entry are those that it is encoded as, and it has a spelling
abbrev pub NothingElse : Type 0
NothingElse = (bytes : List ℕ) (e : Entry) → IsBytes bytes → decode bytes ≡ Some e → (bytes ≡ encode e) × (has_spelling e ≡ true)

pub decodes : RoundTrip
decodes e h = all_again entry-lawful e h

pub only_encoded : NothingElse
only_encoded bytes e fits h = all_takes entry-lawful bytes e fits h
