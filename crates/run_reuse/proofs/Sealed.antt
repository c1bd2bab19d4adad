-- The record of a sealed entry, and the bytes of one.
use Rattle.std.proofs.Common.{◌≡◌, ℕ, Bool, true, false, List, drop, Option, Some, None, Result, refl, ap, subst, ◌∙◌}
use Rattle.std.specs.Prelude.{IfOk, if◌then◌else◌}
use Rattle.base_data.specs.declared.memory.Memory.{Memory}
use Rattle.core_cache.specs.Fitting.{fitting_record, sealed_record, stored_in}
use Rattle.core_cache.specs.Seal.{is_sealed, sealed}
use Rattle.core_language.specs.declared.record.CompiledLibrary.{CompiledLibrary}
use Rattle.load_files.specs.declared.found.Source.{Source}
use Rattle.run_reuse.specs.Entries.{decoded, entry_in}

-- the record of the entry that bytes are, sealed, where it is of these roots and sources
module _ (roots : List (List ℕ)) (sources : List Source) (chosen held : List ℕ) where
  by_seal : (is : Bool) → (if is then fitting_record roots sources chosen (drop 40 held) else None) ≡ stored_in roots sources chosen (decoded (if is then Some (drop 40 held) else None))
  by_seal true = refl
  by_seal false = refl

  pub sealed_fits : (result : Result (Option CompiledLibrary) Memory) → IfOk result (λ o. o ≡ sealed_record roots sources chosen held)
      → IfOk result (λ o. o ≡ stored_in roots sources chosen (entry_in held))
  sealed_fits result h = subst (λ (r : Option CompiledLibrary). IfOk result (λ o. o ≡ r)) (by_seal (is_sealed held)) h

-- ---- the bytes of an entry, by whether it has a spelling

pub sealed_spelling : (spells : Bool) (code body slice bytes : List ℕ) → Some body ≡ (if spells then Some code else None) → slice ≡ body → bytes ≡ sealed slice
    → Some bytes ≡ (if spells then Some (sealed code) else None)
sealed_spelling true code body slice bytes is same seals = let spelled : body ≡ code = cc in ap (λ (x : List ℕ). Some x) (seals ∙ ap sealed (same ∙ spelled))
sealed_spelling false code body slice bytes is same seals = absurd (cc)

pub no_spelling : (spells : Bool) (code : List ℕ) → None ≡ (if spells then Some code else None) → None ≡ (if spells then Some (sealed code) else None)
no_spelling true code is = absurd (cc)
no_spelling false code is = refl
