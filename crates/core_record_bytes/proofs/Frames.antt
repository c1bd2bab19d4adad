-- Names of one library are ordered by their numbers.
use Rattle.std.proofs.Common.{◌≡◌, true, true≢false, refl, sym, ◌∙◌}
use Rattle.std.specs.declared.cmp.Ordering.{Ordering}
use Rattle.std.specs.declared.cmp.Ordering.TheVariants.{Less, Equal, Greater}
use Rattle.std.specs.Ordering.{nat_cmp, ordering_then, is_eq}
use Rattle.base_data.specs.Named.{Named}
use Rattle.base_data.specs.NameOrder.{library_cmp, name_cmp}
use Rattle.base_data.specs.Same.{same_library}
use Rattle.base_data.specs.contracts.library.LibNameOrd.TheImpl.Laws as library_laws

second : (r s : Ordering) → true ≡ is_eq r → s ≡ ordering_then r s
second Less s h = absurd (true≢false h)
second Equal s h = refl
second Greater s h = absurd (true≢false h)

pub by_number : (a b : Named) → same_library a.library b.library ≡ true → nat_cmp a.number b.number ≡ name_cmp a b
by_number a b h = second (library_cmp a.library b.library) (nat_cmp a.number b.number) (sym h ∙ library_laws.matches_eq-law a.library b.library)
