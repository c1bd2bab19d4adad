-- A template has a variable of depth for each ellipsis that it reaches, and for no other.
use Rattle.std.proofs.Common.{◌≡◌, ℕ, zero, suc, ◌+◌, ◌-◌, max, Bool, true, false, refl, sym, ap, ◌∙◌, arith, true≢false}
use Rattle.std.specs.Prelude.{◌&&◌, ◌||◌, nat_le, None, Some}
use Rattle.core_language.specs.Template as template
use Rattle.core_language.specs.Template.{PlainTemplate, PlainItems}
use Rattle.law_core.specs.Templates.{has_depth, item_has_depth, has_depths}
use Rattle.core_well_made.specs.Reach.{reach, items_reach, number_if}

pub no_number : (b : Bool) (m : ℕ) → number_if b m ≡ None → b ≡ false
no_number true m h = absurd (some_is_none h)
  where
    some_is_none : Some m ≡ None → ⊥
    some_is_none e = cc e
no_number false m h = refl

pub a_number : (b : Bool) (m n : ℕ) → number_if b m ≡ Some n → b ≡ true
a_number true m n h = refl
a_number false m n h = cc h

pub the_number : (b : Bool) (m n : ℕ) → number_if b m ≡ Some n → m ≡ n
the_number true m n h = cc h
the_number false m n h = cc h

le_less : (m n : ℕ) → nat_le (suc m) n ≡ true → nat_le m n ≡ true
le_less m n h = grind (arith, h)

and_given : (a b : Bool) → (a ≡ true → b ≡ true) → (a && b) ≡ a
and_given true b h = h refl
and_given false b h = refl

le_max : (n a b : ℕ) → (nat_le n a || nat_le n b) ≡ nat_le n (max a b)
le_max n a b = grind (arith)

suc_sum : (n e : ℕ) → suc n + e ≡ suc (n + e)
suc_sum n e = omega arith

le_minus : (n e r : ℕ) → nat_le (suc (n + e)) r ≡ nat_le (suc n) (r - e)
le_minus n e r = grind (arith)

le_none : (n : ℕ) → false ≡ nat_le (suc n) 0
le_none n = grind (arith)

none_le : (n : ℕ) → true ≡ nat_le 0 n
none_le n = grind (arith)

mutual
  has_by_reach : (n : ℕ) (t : PlainTemplate) → has_depth (suc n) t ≡ nat_le (suc n) (reach t)
  has_by_reach n (template.variable l d) = refl
  has_by_reach n (template.constant t) = le_none n
  has_by_reach n (template.list is t) =
      (λ i. item_has_by_reach n is i || has_by_reach n t i) ∙ le_max (suc n) (items_reach is) (reach t)
  has_by_reach n (template.vector is) = item_has_by_reach n is

  item_has_by_reach : (n : ℕ) (is : PlainItems) → item_has_depth (suc n) is ≡ nat_le (suc n) (items_reach is)
  item_has_by_reach n template.none = le_none n
  item_has_by_reach n (template.more t e is) =
      let first : has_depth (suc n + e) t ≡ nat_le (suc n) (reach t - e) =
      ap (λ m. has_depth m t) (suc_sum n e) ∙ has_by_reach (n + e) t ∙ le_minus n e (reach t) in
      (λ i. first i || item_has_by_reach n is i) ∙ le_max (suc n) (reach t - e) (items_reach is)

pub depths_by_reach : (e : ℕ) (t : PlainTemplate) → has_depths e t ≡ nat_le e (reach t)
depths_by_reach zero t = none_le (reach t)
depths_by_reach (suc n) t =
    (λ i. has_by_reach n t i && depths_by_reach n t i) ∙ and_given (nat_le (suc n) (reach t)) (nat_le n (reach t)) (λ h. le_less n (reach t) h)

-- an item reaches as far as its template, less its ellipses
pub item_by_reach : (deep suit : Bool) (e m r : ℕ) → deep ≡ nat_le e m → number_if suit m ≡ Some r → number_if (nat_le e r) (r - e) ≡ number_if (deep && (suit && true)) (m - e)
item_by_reach deep true e m r is h =
    let same : r ≡ m = sym (the_number true m r h) in
    (λ i. number_if (nat_le e (same i)) (same i - e)) ∙ ap (λ b. number_if b (m - e)) (sym is ∙ and_none deep)
  where
    and_none : (b : Bool) → b ≡ (b && true)
    and_none true = refl
    and_none false = refl
item_by_reach deep false e m r is h = absurd (true≢false (sym (a_number false m r h)))
