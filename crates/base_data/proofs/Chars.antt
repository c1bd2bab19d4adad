-- How many bytes a character takes.
use Rattle.std.proofs.Common.{◌≡◌, ℕ, ◌<◌, ◌≤◌, Bool, true, false, List, length, slice_index, arith, cond, refl, nat_lt}
use Rattle.std.specs.Prelude.{◌==◌}
use Rattle.std.proofs.lemmas.Bool.Decides.{nat_tests}
use Rattle.bstr.specs.Utf8.{Decoded, decoded, decoded_by, second, continues}

-- what holds on both ways of a test holds
pub branch : {A : Type 0} (P : A → Type 0) (t : Bool) {x y : A} → (t ≡ true → P x) → (t ≡ false → P y) → P (cond t x y)
branch P true f g = f refl
branch P false f g = g refl

record Within (n : ℕ) (d : Decoded) : Type 0 where
  some : 0 < d.size
  fits : d.size ≤ n

at_least_two : (n : ℕ) → nat_lt n 2 ≡ false → 2 ≤ n
at_least_two n h = grind (arith, nat_tests)

at_least_three : (n : ℕ) → nat_lt n 3 ≡ false → 3 ≤ n
at_least_three n h = grind (arith, nat_tests)

at_least_four : (n : ℕ) → nat_lt n 4 ≡ false → 4 ≤ n
at_least_four n h = grind (arith, nat_tests)

not_none : (n : ℕ) → 0 < n → n == 0 ≡ true → ⊥
not_none n h e = grind (arith, nat_tests)

within : (n b c d e : ℕ) → 0 < n → Within n (decoded_by n b c d e)
within n b c d e some =
    let P : Decoded → Type 0 = λ r. Within n r in
    branch P (n == 0) (λ z. absurd (not_none n some z)) (λ _.
    branch P (nat_lt b 0x80) (λ _. record { some = omega arith; fits = omega arith }) (λ _.
    branch P (nat_lt b 0xC2) (λ _. record { some = omega arith; fits = omega arith }) (λ _.
    branch P (nat_lt 0xF4 b) (λ _. record { some = omega arith; fits = omega arith }) (λ _.
    branch P (nat_lt n 2) (λ _. record { some = omega arith; fits = omega arith }) (λ t.
    let two : 2 ≤ n = at_least_two n t in
    branch P (second b c) (λ _.
    branch P (nat_lt b 0xE0) (λ _. record { some = omega arith; fits = omega arith }) (λ _.
    branch P (nat_lt n 3) (λ _. record { some = omega arith; fits = omega arith }) (λ h.
    let three : 3 ≤ n = at_least_three n h in
    branch P (continues d) (λ _.
    branch P (nat_lt b 0xF0) (λ _. record { some = omega arith; fits = omega arith }) (λ _.
    branch P (nat_lt n 4) (λ _. record { some = omega arith; fits = omega arith }) (λ f.
    let four : 4 ≤ n = at_least_four n f in
    branch P (continues e) (λ _. record { some = omega arith; fits = omega arith }) (λ _. record { some = omega arith; fits = omega arith }))))
    (λ _. record { some = omega arith; fits = omega arith }))))
    (λ _. record { some = omega arith; fits = omega arith }))))))

pub decoded-some : (bytes : List ℕ) → 0 < length bytes → 0 < (decoded bytes).size
decoded-some bytes some = (within (length bytes) (slice_index bytes 0) (slice_index bytes 1) (slice_index bytes 2) (slice_index bytes 3) some).some

pub decoded-fits : (bytes : List ℕ) → 0 < length bytes → (decoded bytes).size ≤ length bytes
decoded-fits bytes some = (within (length bytes) (slice_index bytes 0) (slice_index bytes 1) (slice_index bytes 2) (slice_index bytes 3) some).fits
