-- The number that a symbol keeps of its text. Texts of up to seven bytes have each their own, and share none with longer ones.
use Rattle.std.specs.Prelude.{◌≡◌, ℕ, ◌+◌, ◌*◌, ◌/◌, ◌%◌, ◌^◌, List, length, fold, nat_eq, nat_lt, IsTrue, if◌then◌else◌}
use Rattle.std.proofs.Common.{ap}
use Rattle.std.specs.Cmp.{unsigned_Decides}
use Rattle.std.specs.Cmp.Lexicographic.{pointwise, pointwise_decides}
use Rattle.std.specs.Hash as fed
use Rattle.base_data.specs.Hasher.{mixed}

abbrev pub digit : ℕ → ℕ → ℕ
digit n b = ((n * 256) % 2 ^ 64 + b) % 2 ^ 64

-- the number whose bytes these are, the first one the highest
unfoldable pub packed : List ℕ → ℕ
packed bs = fold digit 0 bs

unfoldable pub hashed : List ℕ → ℕ
hashed bs = fold mixed 0 bs

-- above the bytes of a short text stands how many there are, and above 56 bits of a hash of a longer one 8
unfoldable pub head_of : List ℕ → ℕ
head_of bs = if nat_lt (length bs) 8 then (packed bs + (length bs * 2 ^ 56) % 2 ^ 64) % 2 ^ 64 else (hashed bs / 256 + 8 * 2 ^ 56) % 2 ^ 64

abbrev pub symbol_fed : List ℕ → fed.HashWrites
symbol_fed text = fed.u64 (head_of text)

-- the same texts feed a hasher the same
pub symbol_alike : (x y : List ℕ) → IsTrue (pointwise nat_eq x y) → symbol_fed x ≡ symbol_fed y
symbol_alike x y h = ap symbol_fed ((pointwise_decides unsigned_Decides x y).0 h)
