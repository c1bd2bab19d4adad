-- Digits that are printed, and what they are read as.
use Rattle.std.proofs.Common.{◌≡◌, ℕ, zero, suc, ◌+◌, ◌*◌, ◌<◌, ◌≤◌, ◌^◌, Bool, true, false, List, [], ◌∷◌, length, arith, refl, sym, ap, ◌∙◌}
use Rattle.std.specs.Prelude.{◌==◌, ◌&&◌, nat_lt, nat_le}
use Rattle.std.specs.List.{list_all}
use Rattle.std.specs.Char.{digit_value as std_value}
use Rattle.std.specs.Str.Parse.{IsNumeral, AllDigits, digits_value, digits_value_after}
use Rattle.std.specs.Fmt.{digits}
use Rattle.std.proofs.lemmas.Bool.Decides.{nat_tests}
use Rattle.std.proofs.lemmas.Fmt.{digits_is_IsNumeral}
use Rattle.read_spelling.specs.Numbers.{digit_value, is_digit, value_from}

same_digit : (c : ℕ) → std_value c < 16 → digit_value c ≡ std_value c
same_digit c h = grind (arith, nat_tests)

pub is_one : (base c : ℕ) → base ≤ 16 → std_value c < base → is_digit base c ≡ true
is_one base c small h = rw (same_digit c (omega arith)) (grind (arith, nat_tests))

both : (a b : Bool) → a ≡ true → b ≡ true → (a && b) ≡ true
both true b p q = q
both false b p q = p

pub all_digits : (base : ℕ) (ds : List ℕ) → base ≤ 16 → AllDigits base ds → list_all (is_digit base) ds ≡ true
all_digits base [] small h = refl
all_digits base (c ∷ cs) small h = both (is_digit base c) (list_all (is_digit base) cs) (is_one base c small h.0) (all_digits base cs small h.1)

same_after : (base n : ℕ) (ds : List ℕ) → base ≤ 16 → AllDigits base ds → value_from base n ds ≡ digits_value_after base n ds
unfolding value_from
same_after base n [] small h = refl
same_after base n (c ∷ cs) small h = rw (same_digit c (omega (arith, h.0))) (same_after base (n * base + std_value c) cs small h.1)

-- one or more digits, which are read as this number
pub record Spell (base n : ℕ) (ds : List ℕ) : Type 0 where
  pub some : 0 < length ds
  pub are : AllDigits base ds
  pub value : value_from base 0 ds ≡ n

pub digits_spell : (base : ℕ) (upper : Bool) (n : ℕ) → 2 ≤ base → base ≤ 16 → n < base ^ 64 → Spell base n (digits base upper n)
digits_spell base upper n low high h =
    let p = digits_is_IsNumeral base upper low high n h in
    record { some = p.0.0; are = p.0.1; value = same_after base 0 (digits base upper n) high p.0.1 ∙ p.1 }
