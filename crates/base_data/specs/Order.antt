-- The order of lists and texts: the shorter first, then element by element.
use Rattle.std.specs.Prelude.{◌≡◌, ℕ, Bool, true, false, nat_eq, List, length, refl}
use Rattle.std.proofs.Common.{sym, ◌∙◌}
use Rattle.std.specs.declared.cmp.Ordering.{Ordering}
use Rattle.std.specs.declared.cmp.Ordering.TheVariants.{Less, Equal, Greater}
use Rattle.std.specs.Ordering.{nat_cmp, on, then_cmp, ordering_then, eq_by_cmp, is_eq}
use Rattle.std.specs.Cmp.{IsTotalOrder, then_total, on_total, nat_cmp_total, unsigned_ties, unsigned_Decides}
use Rattle.std.specs.Cmp.Lexicographic.{pointwise, slice_cmp, lists_total, lists_ties, as_long}

pub short_total : {K : Type 0} {R : K → K → Ordering} → IsTotalOrder R → IsTotalOrder (then_cmp (on length nat_cmp) (slice_cmp R))
short_total o = then_total (on_total length nat_cmp_total) (lists_total o)

-- where lengths and elements are compared in turn, a tie of both is equality
tied : (same same_length : Bool) (r s : Ordering) → same_length ≡ is_eq r → same ≡ is_eq s → (same ≡ true → same_length ≡ true) → same ≡ is_eq (ordering_then r s)
tied false l Less s p q f = refl
tied true l Less s p q f = sym (f refl) ∙ p
tied b l Equal s p q f = q
tied false l Greater s p q f = refl
tied true l Greater s p q f = sym (f refl) ∙ p

pub short_ties : {K : Type 0} {E : K → K → Bool} (R : K → K → Ordering) → ((x y : K) → E x y ≡ eq_by_cmp R x y) → (xs ys : List K) → pointwise E xs ys ≡ eq_by_cmp (then_cmp (on length nat_cmp) (slice_cmp R)) xs ys
short_ties {K} {E} R t xs ys = tied (pointwise E xs ys) (nat_eq (length xs) (length ys)) (nat_cmp (length xs) (length ys)) (slice_cmp R xs ys) (unsigned_ties (length xs) (length ys)) (lists_ties R t xs ys) (λ h. (unsigned_Decides (length xs) (length ys)).1 (as_long E xs ys h))

pub text_cmp_total : IsTotalOrder (then_cmp (on length nat_cmp) (slice_cmp nat_cmp))
text_cmp_total = short_total nat_cmp_total

pub text_ties : (xs ys : List ℕ) → pointwise nat_eq xs ys ≡ eq_by_cmp (then_cmp (on length nat_cmp) (slice_cmp nat_cmp)) xs ys
text_ties = short_ties nat_cmp unsigned_ties
