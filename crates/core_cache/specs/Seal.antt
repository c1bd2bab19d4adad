-- A sealed body: a header, the digest of the body, the body.
use Rattle.std.specs.Prelude.{ℕ, Bool, List, ◌++◌, codes, drop}
use Rattle.sha2.specs.Sha256.{sha256}
use Rattle.core_cache.specs.Fits.{same_text}

abbrev pub sealed : List ℕ → List ℕ
sealed body = (codes "SXENTRY4" ++ sha256 body) ++ body

-- they are what stands behind the seal, sealed
abbrev pub is_sealed : List ℕ → Bool
is_sealed bytes = same_text bytes (sealed (drop 40 bytes))
