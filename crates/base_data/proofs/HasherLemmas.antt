-- What is written for a number is taken as that number.
use Rattle.std.proofs.Common.{◌≡◌, ℕ, ◌+◌, ◌*◌, ◌/◌, ◌%◌, ◌^◌, ◌<◌, List, [], ◌∷◌, refl, ap, ◌∙◌, arith}
use Rattle.std.proofs.lemmas.Nat.{from_le_bytes-to_le_bytes_8}
use Rattle.std.specs.Int.{w64, to_le_bytes, from_le_bytes}
use Rattle.std.specs.Hash.{le_bytes}
use Rattle.base_data.specs.Hasher.{mixed, number, taken}

number_more : (b : ℕ) (bs : List ℕ) → number bs < 2 ^ 56 → b < 256 → number (b ∷ bs) ≡ number bs * 256 + b
unfolding number
number_more b bs small byte = omega (arith, small, byte)

number_none : number [] ≡ 0
unfolding number
number_none = refl

number_eight : (a b c d e f g h : ℕ) → a < 256 → b < 256 → c < 256 → d < 256 → e < 256 → f < 256 → g < 256 → h < 256
    → number (a ∷ b ∷ c ∷ d ∷ e ∷ f ∷ g ∷ h ∷ []) ≡ from_le_bytes w64 (a ∷ b ∷ c ∷ d ∷ e ∷ f ∷ g ∷ h ∷ [])
number_eight a b c d e f g h pa pb pc pd pe pf pg ph =
    let n0 = number_none in
    let n1 = number_more h [] (omega (arith, n0)) ph in
    let n2 = number_more g (h ∷ []) (omega (arith, n0, n1)) pg in
    let n3 = number_more f (g ∷ h ∷ []) (omega (arith, n0, n1, n2)) pf in
    let n4 = number_more e (f ∷ g ∷ h ∷ []) (omega (arith, n0, n1, n2, n3)) pe in
    let n5 = number_more d (e ∷ f ∷ g ∷ h ∷ []) (omega (arith, n0, n1, n2, n3, n4)) pd in
    let n6 = number_more c (d ∷ e ∷ f ∷ g ∷ h ∷ []) (omega (arith, n0, n1, n2, n3, n4, n5)) pc in
    let n7 = number_more b (c ∷ d ∷ e ∷ f ∷ g ∷ h ∷ []) (omega (arith, n0, n1, n2, n3, n4, n5, n6)) pb in
    let n8 = number_more a (b ∷ c ∷ d ∷ e ∷ f ∷ g ∷ h ∷ []) (omega (arith, n0, n1, n2, n3, n4, n5, n6, n7)) pa in
    omega (arith, n0, n1, n2, n3, n4, n5, n6, n7, n8)

byte : (n : ℕ) → n % 256 < 256
byte n = omega arith

number_word : (n : ℕ) → n < 2 ^ 64 → number (to_le_bytes w64 n) ≡ n
number_word n fits =
    number_eight _ _ _ _ _ _ _ _ (byte n) (byte (n / 256)) (byte (n / 256 ^ 2)) (byte (n / 256 ^ 3)) (byte (n / 256 ^ 4)) (byte (n / 256 ^ 5)) (byte (n / 256 ^ 6)) (byte (n / 256 ^ 7))
    ∙ from_le_bytes-to_le_bytes_8 n fits

-- a number of eight bytes
pub taken_word : (s n : ℕ) → n < 2 ^ 64 → taken s (le_bytes 8 n) ≡ mixed s n
unfolding taken le_bytes
taken_word s n fits = ap (mixed s) (number_word n fits)

-- a number of one byte
pub taken_byte : (s n : ℕ) → n < 256 → taken s (n ∷ []) ≡ mixed s n
unfolding taken number
taken_byte s n fits = ap (mixed s) (omega (arith, fits))
