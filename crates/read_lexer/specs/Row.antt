-- Parts of a source one after another.
use Rattle.std.specs.Prelude.{◌≡◌, ℕ, ◌+◌, Bool, true, List, drop}

-- a row of parts, which takes so many bytes; behind it comes what ends a row
pub data PartRow (ends : List ℕ → Bool) (Part : List ℕ → ℕ → Type 0) : List ℕ → ℕ → Type 0 where
  none : (bytes : List ℕ) → ends bytes ≡ true → PartRow ends Part bytes 0
  more : (bytes : List ℕ) (size n : ℕ) → Part bytes size → PartRow ends Part (drop size bytes) n → PartRow ends Part bytes (size + n)
