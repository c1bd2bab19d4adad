-- Quotient and remainder make the number.
use Rattle.std.proofs.Common.{◌≡◌, ℕ, zero, suc, ◌+◌, ◌-◌, ◌*◌, ◌/◌, ◌%◌, ◌<◌, min, Bool, true, false, refl, ap, sym, ◌∙◌, arith}
use Rattle.std.specs.Prelude.{◌≢◌, ℤ, pos, negsuc, neg_ℤ, ◌+ℤ◌, ◌-ℤ◌, ◌*ℤ◌, unsigned_abs, if◌then◌else◌}
use Rattle.std.specs.Int.{int_div_euclid, int_rem_euclid, int_signum}
use Rattle.std.proofs.lemmas.Int.{ints}
use Rattle.base_data.specs.declared.op.names.TheConstants as names
use Rattle.eval_prims.specs.Numbers.{quotient, is_upper}
use lib.IntN.{suc_ℤ-*ℤ, pred_ℤ-*ℤ, +ℤ_one, -ℤ_one}

neg_times : (q b : ℕ) → neg_ℤ (pos q) *ℤ negsuc b ≡ pos (q * suc b)
neg_times zero b = let none : 0 * suc b ≡ 0 = omega arith in ap (λ k. neg_ℤ (pos k)) none ∙ sym (ap pos none)
neg_times (suc q) b = refl

positive : (b : ℕ) → pos b ≢ pos 0 → 0 < b
positive zero h = absurd (h refl)
positive (suc b) h = omega arith

under : (a b q r m : ℕ) → m ≡ b * (q + 1) → b * q + r ≡ a → r < b → neg_ℤ (pos m) +ℤ pos (b - 1 - r) ≡ negsuc a
under a b q r m e h l = omega (arith, ints, e, h, l)

pub euclid : (x d : ℤ) → d ≢ pos 0 → int_div_euclid x d *ℤ d +ℤ int_rem_euclid x d ≡ x
euclid (pos a) (pos b) h = let p = positive b h in ap pos (omega (arith, p))
euclid (pos a) (negsuc b) h = ap (λ k. k +ℤ pos (a % suc b)) (neg_times (a / suc b) b) ∙ ap pos (omega arith)
euclid (negsuc a) (pos b) h =
    let p = positive b h in
    let less : a % b < b = omega (arith, p) in
    let whole : b * (a / b) + a % b ≡ a = omega (arith, p) in
    let size : suc (a / b) * b ≡ b * (a / b + 1) = omega arith in
    under a b (a / b) (a % b) (suc (a / b) * b) size whole less
euclid (negsuc a) (negsuc b) h =
    let less : a % suc b < suc b = omega arith in
    let whole : suc b * (a / suc b) + a % suc b ≡ a = omega arith in
    let size : suc (a / suc b) * suc b ≡ suc b * (a / suc b + 1) = omega arith in
    under a (suc b) (a / suc b) (a % suc b) (suc (a / suc b) * suc b) size whole less

one_more : (q d r : ℤ) → d ≢ pos 0 → (q +ℤ int_signum d) *ℤ d +ℤ (r -ℤ pos (unsigned_abs d)) ≡ q *ℤ d +ℤ r
one_more q (pos zero) r h = absurd (h refl)
one_more q (pos (suc b)) r h =
    let up : (q +ℤ pos 1) *ℤ pos (suc b) ≡ q *ℤ pos (suc b) +ℤ pos (suc b) = ap (λ k. k *ℤ pos (suc b)) (+ℤ_one q) ∙ suc_ℤ-*ℤ q (pos (suc b)) in
    let sign : pos (min (suc b) 1) ≡ pos 1 = ap pos (omega arith) in
    ap (λ s. (q +ℤ s) *ℤ pos (suc b) +ℤ (r -ℤ pos (suc b))) sign ∙ ap (λ k. k +ℤ (r -ℤ pos (suc b))) up ∙ cancel (q *ℤ pos (suc b)) r (suc b)
  where
    cancel : (t s : ℤ) (n : ℕ) → t +ℤ pos n +ℤ (s -ℤ pos n) ≡ t +ℤ s
    cancel t s n = omega (arith, ints)
one_more q (negsuc b) r h =
    let down : (q -ℤ pos 1) *ℤ negsuc b ≡ q *ℤ negsuc b -ℤ negsuc b = ap (λ k. k *ℤ negsuc b) (-ℤ_one q) ∙ pred_ℤ-*ℤ q (negsuc b) in
    ap (λ k. k +ℤ (r -ℤ pos (suc b))) down ∙ cancel (q *ℤ negsuc b) r b
  where
    cancel : (t s : ℤ) (n : ℕ) → t -ℤ negsuc n +ℤ (s -ℤ pos (suc n)) ≡ t +ℤ s
    cancel t s n = omega (arith, ints)

by_half : (upper : Bool) (q d r : ℤ) → d ≢ pos 0
    → (if upper then q +ℤ int_signum d else q) *ℤ d +ℤ (if upper then r -ℤ pos (unsigned_abs d) else r) ≡ q *ℤ d +ℤ r
by_half true q d r h = one_more q d r h
by_half false q d r h = refl

pub nearest : (x d : ℤ) → d ≢ pos 0 → quotient names.DIV0 x d *ℤ d +ℤ quotient names.MOD0 x d ≡ x
nearest x d h = by_half (is_upper x d) (int_div_euclid x d) d (int_rem_euclid x d) h ∙ euclid x d h
