-- Names rise by library, then by number.
use Rattle.std.specs.Prelude.{◌≡◌, Bool, true, false, ◌&&◌, nat_eq, refl}
use Rattle.std.proofs.Common.{◌∙◌}
use Rattle.std.specs.declared.cmp.Ordering.{Ordering}
use Rattle.std.specs.declared.cmp.Ordering.TheVariants.{Less, Equal, Greater}
use Rattle.std.specs.Ordering.{nat_cmp, on, then_cmp, ordering_then, eq_by_cmp, is_eq}
use Rattle.std.specs.Cmp.{IsTotalOrder, then_total, on_total, nat_cmp_total, unsigned_ties}
use Rattle.base_data.specs.Named.{Named}
use Rattle.base_data.specs.Same.{same_library, same_name}
use Rattle.base_data.specs.declared.library.LibName.{LibName}
use Rattle.base_data.specs.contracts.library.LibNameOrd.TheImpl as library_order
use Rattle.base_data.specs.contracts.library.LibNameOrd.TheImpl.Laws as library_laws

abbrev pub library_cmp : LibName → LibName → Ordering
library_cmp = library_order.cmp-value.it

abbrev pub name_cmp : Named → Named → Ordering
name_cmp = then_cmp (on (λ n. n.library) library_cmp) (on (λ n. n.number) nat_cmp)

pub name_cmp_total : IsTotalOrder name_cmp
name_cmp_total = then_total (on_total (λ n. n.library) library_laws.total-law) (on_total (λ n. n.number) nat_cmp_total)

both_tied : (n l : Bool) (r s : Ordering) → l ≡ is_eq r → n ≡ is_eq s → (n && l) ≡ is_eq (ordering_then r s)
both_tied false l Less s p q = refl
both_tied true l Less s p q = p
both_tied false l Equal s p q = q
both_tied true l Equal s p q = p ∙ q
both_tied false l Greater s p q = refl
both_tied true l Greater s p q = p

pub name_ties : (a b : Named) → same_name a b ≡ eq_by_cmp name_cmp a b
name_ties a b = both_tied (nat_eq a.number b.number) (same_library a.library b.library) (library_cmp a.library b.library) (nat_cmp a.number b.number) (library_laws.matches_eq-law a.library b.library) (unsigned_ties a.number b.number)
