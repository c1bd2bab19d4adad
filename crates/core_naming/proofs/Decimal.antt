-- Lemmas on numbers in decimal.
use Rattle.std.proofs.Common.{◌≡◌, ℕ, zero, suc, ◌+◌, ◌*◌, ◌/◌, ◌%◌, ◌^◌, ◌≤◌, ◌<◌, Bool, true, false, List, [], ◌∷◌, ◌++◌, arith, refl, sym, ap, ◌∙◌, subst, if◌then◌else◌, lt-ltb, le-ltb, length-append, ltb-true, ltb-false}
use Rattle.std.specs.Prelude.{decimal, nat_lt}
use Rattle.std.specs.Char.{digit_value}
use Rattle.std.specs.Str.Parse.{AllDigits, IsNumeral, digits_value, digits_value_after}
use Rattle.std.proofs.Math.Nat.{mod-lt}
use Rattle.std.proofs.lemmas.Bool.Decides.{nat_tests}
use Rattle.std.proofs.lemmas.Fmt.{decimal_from_appends, length-decimal-le_succ}
use Rattle.core_naming.specs.Decimal.{number_within, number_text}

-- One step.

one_digit : (steps n : ℕ) → n < 10 → number_within (suc steps) n ≡ (48 + n) ∷ []
one_digit steps n h = ap (λ (b : Bool). if b then (48 + n) ∷ [] else number_within steps (n / 10) ++ ((48 + n % 10) ∷ [])) (lt-ltb n 10 h)

more_digits : (steps n : ℕ) → 10 ≤ n → number_within (suc steps) n ≡ number_within steps (n / 10) ++ ((48 + n % 10) ∷ [])
more_digits steps n h = ap (λ (b : Bool). if b then (48 + n) ∷ [] else number_within steps (n / 10) ++ ((48 + n % 10) ∷ [])) (le-ltb n 10 h)

-- the library writes the same, as far as it goes
pub number_decimal : (n : ℕ) → n < 2 ^ 64 → number_text n ≡ decimal n
unfolding number_text
number_decimal n h = decimal_from_appends number_within (record { one = one_digit; more = more_digits }) (suc n) n h (omega (arith, length-decimal-le_succ n h))

-- All steps.

-- where there is a step for each digit, further ones change nothing
within_same : (j k n : ℕ) → n < j → n < k → number_within j n ≡ number_within k n
within_same zero k n h l = absurd (omega (arith, h))
within_same (suc j) zero n h l = absurd (omega (arith, l))
within_same (suc j) (suc k) n h l = by (nat_lt n 10) refl (λ great. within_same j k (n / 10) (omega arith) (omega arith))
  where
    by : (b : Bool) → nat_lt n 10 ≡ b → (10 ≤ n → number_within j (n / 10) ≡ number_within k (n / 10)) → number_within (suc j) n ≡ number_within (suc k) n
    by true e front = let small : n < 10 = ltb-true n 10 e in one_digit j n small ∙ sym (one_digit k n small)
    by false e front =
        let great : 10 ≤ n = ltb-false n 10 e in
        more_digits j n great ∙ ap (λ (ds : List ℕ). ds ++ ((48 + n % 10) ∷ [])) (front great) ∙ sym (more_digits k n great)

pub number_one : (n : ℕ) → n < 10 → number_text n ≡ (48 + n) ∷ []
unfolding number_text
number_one n h = one_digit n n h

pub number_more : (n : ℕ) → 10 ≤ n → number_text n ≡ number_text (n / 10) ++ ((48 + n % 10) ∷ [])
unfolding number_text
number_more n h = more_digits n n h ∙ ap (λ (ds : List ℕ). ds ++ ((48 + n % 10) ∷ [])) (within_same n (suc (n / 10)) (n / 10) (omega arith) (omega arith))

-- What is read back.

digit_is : (d : ℕ) → d < 10 → digit_value (48 + d) ≡ d
digit_is d h = grind (arith, nat_tests)

value_behind : (v : ℕ) (ds : List ℕ) (c : ℕ) → digits_value_after 10 v (ds ++ (c ∷ [])) ≡ digits_value_after 10 v ds * 10 + digit_value c
value_behind v [] c = refl
value_behind v (d ∷ ds) c = value_behind (v * 10 + digit_value d) ds c

digits_behind : (ds : List ℕ) (c : ℕ) → AllDigits 10 ds → digit_value c < 10 → AllDigits 10 (ds ++ (c ∷ []))
digits_behind [] c h l = (l, tt)
digits_behind (d ∷ ds) c h l = (h.0, digits_behind ds c h.1 l)

-- they are digits of the number
abbrev AreOf : ℕ → List ℕ → Type 0
AreOf n ds = IsNumeral 10 ds × (digits_value 10 ds ≡ n)

within_reads : (k n : ℕ) → n < k → AreOf n (number_within k n)
within_reads zero n h = absurd (omega (arith, h))
within_reads (suc k) n h = by (nat_lt n 10) refl (λ great. within_reads k (n / 10) (omega arith))
  where
    by : (b : Bool) → nat_lt n 10 ≡ b → (10 ≤ n → AreOf (n / 10) (number_within k (n / 10))) → AreOf n (number_within (suc k) n)
    by true e behind =
        let small : n < 10 = ltb-true n 10 e in
        let is = digit_is n small in
        subst (AreOf n) (sym (one_digit k n small)) ((omega arith, (omega (arith, is), tt)), omega (arith, is))
    by false e behind =
        let great : 10 ≤ n = ltb-false n 10 e in
        let front = behind great in
        let ds = number_within k (n / 10) in
        let rest : n % 10 < 10 = mod-lt n (omega arith) in
        let is = digit_is (n % 10) rest in
        subst (AreOf n) (sym (more_digits k n great))
        ((omega (arith, length-append ds ((48 + n % 10) ∷ [])), digits_behind ds (48 + n % 10) front.0.1 (omega (arith, is, rest))), omega (arith, value_behind 0 ds (48 + n % 10), front.1, is))

-- the digits of a number are digits, not none, and its value is read back
pub number_reads : (n : ℕ) → IsNumeral 10 (number_text n) × (digits_value 10 (number_text n) ≡ n)
unfolding number_text
number_reads n = within_reads (suc n) n (omega arith)

-- and they tell it
pub number_injective : (m n : ℕ) → number_text m ≡ number_text n → m ≡ n
number_injective m n e = sym (number_reads m).1 ∙ ap (digits_value 10) e ∙ (number_reads n).1
