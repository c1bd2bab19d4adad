-- Texts in UTF-8: their characters, and those that numbers have.
use Rattle.std.proofs.Common.{◌≡◌, ℕ, zero, suc, ◌+◌, ◌-◌, ◌<◌, ◌≤◌, ◌/◌, ◌%◌, Bool, true, false, ℤ, pos, negsuc, List, [], ◌∷◌, ◌++◌, take, drop, arith, refl, if◌then◌else◌}
use Rattle.std.specs.Prelude.{◌==◌, IsTrue, decimal, encode_utf8_all, nat_lt}
use Rattle.std.specs.Char.{IsScalar}
use Rattle.std.specs.Fmt.{digit_glyph, digits_onto, digits, signed_decimal}
use Rattle.std.specs.List.{list_all}
use Rattle.std.specs.Str.{IsAscii, IsUtf8, chars, all_scalars}
use lib.Utf8.{scalar}
use Rattle.std.proofs.Math.Nat.{mod-lt}
use Rattle.std.proofs.lemmas.Bool.{and_from, and_parts}
use Rattle.std.proofs.lemmas.Bool.Decides.{nat_tests}
use Rattle.std.proofs.lemmas.Str.{IsUtf8-append, IsUtf8-from_ascii, scalars-chars}
use Rattle.base_data.proofs.ElementLemmas.{each-taken, each-dropped}
use Rattle.base_data.specs.Elements.{Each}
use Rattle.read_spelling.specs.Numbers.{is_digit, is_number_sign, is_exponent_mark, is_spelt}
use Rattle.read_spelling.proofs.SpeltLemmas.{spelt_all}
use Rattle.eval_prims.specs.Strings.{joined}

-- Characters.

each_scalar : (cs : List ℕ) → all_scalars cs ≡ true → Each IsScalar cs
each_scalar [] h = tt
each_scalar (c ∷ cs) h = let p = and_parts (scalar c) (all_scalars cs) h in (p.0, each_scalar cs p.1)

all_scalar : (cs : List ℕ) → Each IsScalar cs → all_scalars cs ≡ true
all_scalar [] h = refl
all_scalar (c ∷ cs) h = and_from (scalar c) (all_scalars cs) h.0 (all_scalar cs h.1)

pub chars_scalar : (text : List ℕ) → IsUtf8 text → Each IsScalar (chars text)
chars_scalar text h = each_scalar (chars text) (scalars-chars text h)

pub encoded_text : (cs : List ℕ) → Each IsScalar cs → IsUtf8 (encode_utf8_all cs)
encoded_text cs h = (cs, (all_scalar cs h, refl))

-- the characters from a place to before another
pub between_text : (cs : List ℕ) (start end : ℕ) → Each IsScalar cs → IsUtf8 (encode_utf8_all (take (end - start) (drop start cs)))
between_text cs start end h = encoded_text (take (end - start) (drop start cs)) (each-taken IsScalar (end - start) (drop start cs) (each-dropped IsScalar start cs h))

pub joined_text : (done : List ℕ) (ss : List (List ℕ)) → IsUtf8 done → Each IsUtf8 ss → IsUtf8 (joined done ss)
unfolding joined
joined_text done [] h k = h
joined_text done (s ∷ ss) h k = joined_text (done ++ s) ss (IsUtf8-append done s h k.0) k.1

-- Numbers.

abbrev pub is_small : ℕ → Bool
is_small b = nat_lt b 0x80

one_small : (b : ℕ) → is_small b ≡ true → b < 0x80
one_small b h = grind (arith, nat_tests)

all_ascii : (bs : List ℕ) → list_all is_small bs ≡ true → IsAscii bs
all_ascii [] h i = omega arith
all_ascii (b ∷ bs) h zero = one_small b ((and_parts (is_small b) (list_all is_small bs) h).0)
all_ascii (b ∷ bs) h (suc i) = all_ascii bs ((and_parts (is_small b) (list_all is_small bs) h).1) i

pub small_text : (bs : List ℕ) → list_all is_small bs ≡ true → IsUtf8 bs
small_text bs h = IsUtf8-from_ascii bs (all_ascii bs h)

glyph_small : (n : ℕ) → n < 10 → is_small (digit_glyph false n) ≡ true
glyph_small n h = by (nat_lt n 10) refl
  where
    by : (b : Bool) → nat_lt n 10 ≡ b → is_small (if b then 48 + n else 87 + n) ≡ true
    by true e = grind (arith, nat_tests)
    by false e = grind (arith, nat_tests)

digits_small : (k n : ℕ) (acc : List ℕ) → list_all is_small acc ≡ true → list_all is_small (digits_onto k 10 false n acc) ≡ true
digits_small zero n acc h = h
digits_small (suc k) n acc h = by (n / 10 == 0) (λ e. digits_small k (n / 10) (digit_glyph false (n % 10) ∷ acc) e)
  where
    more : list_all is_small (digit_glyph false (n % 10) ∷ acc) ≡ true
    more = and_from (is_small (digit_glyph false (n % 10))) (list_all is_small acc) (glyph_small (n % 10) (mod-lt n (omega arith))) h

    by : (b : Bool) → (list_all is_small (digit_glyph false (n % 10) ∷ acc) ≡ true → list_all is_small (digits_onto k 10 false (n / 10) (digit_glyph false (n % 10) ∷ acc)) ≡ true)
        → list_all is_small (if b then digit_glyph false (n % 10) ∷ acc else digits_onto k 10 false (n / 10) (digit_glyph false (n % 10) ∷ acc)) ≡ true
    by true rest = more
    by false rest = rest more

decimal_small : (n : ℕ) → list_all is_small (decimal n) ≡ true
unfolding digits
decimal_small n = digits_small 64 n [] refl

pub signed_text : (z : ℤ) → IsUtf8 (signed_decimal z)
signed_text (pos n) = small_text (decimal n) (decimal_small n)
signed_text (negsuc n) = small_text (45 ∷ decimal (suc n)) (and_from (is_small 45) (list_all is_small (decimal (suc n))) refl (decimal_small (suc n)))

digit_small : (b : ℕ) → is_digit 10 b ≡ true → is_small b ≡ true
digit_small b h = let p : (0x30 ≤ b) × (b ≤ 0x39) = (grind (arith, nat_tests), grind (arith, nat_tests)) in grind (arith, nat_tests)

sign_small : (b : ℕ) → is_number_sign b ≡ true → is_small b ≡ true
sign_small b h = grind (arith, nat_tests)

mark_small : (b : ℕ) → is_exponent_mark b ≡ true → is_small b ≡ true
mark_small b h = grind (arith, nat_tests)

pub spelt_text : (x : List ℕ) → IsTrue (is_spelt x) → IsUtf8 x
spelt_text x h = small_text x (spelt_all is_small digit_small sign_small mark_small refl refl x h)
