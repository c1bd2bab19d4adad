-- Whether bytes are a sealed body, and the record of the entry that it is.
use Rattle.std.proofs.Common.{◌≡◌, ℕ, ◌+◌, Bool, true, false, List, ◌++◌, length, drop, Option, Some, None, Result, codes, refl, sym, ap, subst, ◌∙◌, arith, length-append}
use Rattle.std.proofs.lemmas.List.{drop_at}
use Rattle.std.specs.Prelude.{IfOk, if◌then◌else◌}
use Rattle.sha2.specs.Sha256.{sha256}
use Rattle.sha2.proofs.Facts256.{length-sha256}
use Rattle.base_data.specs.Same.{texts_decides}
use Rattle.base_data.specs.declared.memory.Memory.{Memory}
use Rattle.base_bytes.specs.Codec.{◌>>=◌, all_of}
use Rattle.core_cache.specs.Fitting.{fitting_record, front, sealed_record}
use Rattle.core_cache.specs.Seal.{is_sealed, sealed}
use Rattle.core_cache.proofs.Fronts.{reads_so}
use Rattle.core_codec.specs.Records.{lib_record, decode}
use Rattle.core_language.specs.declared.record.CompiledLibrary.{CompiledLibrary}
use Rattle.load_files.specs.declared.found.Source.{Source}

pub header_is_long : (body : List ℕ) → length (codes "SXENTRY4" ++ sha256 body) ≡ 40
header_is_long body = omega (arith, length-sha256 body, length-append (codes "SXENTRY4") (sha256 body))

pub body_behind : (body : List ℕ) → drop 40 (sealed body) ≡ body
body_behind body = drop_at (codes "SXENTRY4" ++ sha256 body) body 40 (header_is_long body)

pub sealed_so : (bytes body : List ℕ) → bytes ≡ sealed body → true ≡ is_sealed bytes
sealed_so bytes body e =
    let back : drop 40 bytes ≡ body = ap (drop 40) e ∙ body_behind body in
    sym ((texts_decides bytes (sealed (drop 40 bytes))).1 (e ∙ ap sealed (sym back)))

no_some : {A : Type 0} (x : A) → None ≡ Some x → ⊥
no_some x h = cc

pub unsealed_so : (bytes : List ℕ) → ((body : List ℕ) → bytes ≡ sealed body → None ≡ Some body) → false ≡ is_sealed bytes
unsealed_so bytes none = by (is_sealed bytes) refl
  where
    by : (b : Bool) → is_sealed bytes ≡ b → false ≡ b
    by true e = absurd (no_some (drop 40 bytes) (none (drop 40 bytes) ((texts_decides bytes (sealed (drop 40 bytes))).0 e)))
    by false e = refl

module _ (roots : List (List ℕ)) (sources : List Source) (chosen bytes : List ℕ) where
  in_front : (r : Option (List ℕ)) → r ≡ front roots sources chosen (drop 40 bytes) → fitting_record roots sources chosen (drop 40 bytes) ≡ (r >>= all_of lib_record)
  in_front r there = reads_so roots sources chosen (drop 40 bytes) ∙ ap (λ (r : Option (List ℕ)). r >>= all_of lib_record) (sym there)

  if_none : (b : Bool) → None ≡ (if b then (let none : Option CompiledLibrary = None in none) else None)
  if_none true = refl
  if_none false = refl

  -- the roots or the sources are others
  pub no_front : None ≡ front roots sources chosen (drop 40 bytes) → None ≡ sealed_record roots sources chosen bytes
  no_front there = if_none (is_sealed bytes) ∙ ap (λ (r : Option CompiledLibrary). if is_sealed bytes then r else None) (sym (in_front None there))

  pub no_seal : false ≡ is_sealed bytes → None ≡ sealed_record roots sources chosen bytes
  no_seal e = ap (λ (b : Bool). if b then fitting_record roots sources chosen (drop 40 bytes) else None) e

  pub taken : (rest : List ℕ) (result : Result (Option CompiledLibrary) Memory) → Some rest ≡ front roots sources chosen (drop 40 bytes) → true ≡ is_sealed bytes
      → IfOk result (λ o. o ≡ decode rest) → IfOk result (λ o. o ≡ sealed_record roots sources chosen bytes)
  taken rest result there e h =
      let is : sealed_record roots sources chosen bytes ≡ all_of lib_record rest
      = ap (λ (b : Bool). if b then fitting_record roots sources chosen (drop 40 bytes) else None) (sym e) ∙ in_front (Some rest) there in
      subst (λ (d : Option CompiledLibrary). IfOk result (λ o. o ≡ d)) (sym is) h
