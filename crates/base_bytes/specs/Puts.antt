-- What a call adds to the bytes before it.
use Rattle.std.specs.Prelude.{◌≡◌, ℕ, ℤ, pos, negsuc, ◌<◌, nat_lt, Bool, true, List, ◌++◌, if◌then◌else◌}
use Rattle.std.specs.Int.{w128}
use Rattle.std.proofs.Common.{arith}
use Rattle.std.proofs.lemmas.Bool.{lt-ltb}
use Rattle.std.proofs.lemmas.Int.{ints}
use mir.Val.{SFits}
use Rattle.base_bytes.specs.Codec.{Codec, is_int}

-- the spelling of a value that has one
abbrev pub Puts : {A : Type 0} → Codec A → A → List ℕ → List ℕ → Type 0
Puts c x old new = (new ≡ old ++ c.put x) × (c.fits x ≡ true)

-- whether the value has a spelling, and if so the spelling
abbrev pub PutsIf : {A : Type 0} → Codec A → A → List ℕ → List ℕ → Bool → Type 0
PutsIf c x old new b = (b ≡ c.fits x) × (new ≡ (if b then old ++ c.put x else new))

pub below : (n limit : ℕ) → n < limit → nat_lt n limit ≡ true
below n limit h = lt-ltb n limit h

pub is_whole : (z : ℤ) → SFits w128 z → is_int z ≡ true
is_whole (pos n) h = lt-ltb _ _ (omega (arith, ints, h))
is_whole (negsuc n) h = lt-ltb _ _ (omega (arith, ints, h))
