-- When two names are the same.
use Rattle.std.specs.Prelude.{◌≡◌, ℕ, Bool, ◌&&◌, ◌++◌, nat_eq, List, IsTrue, refl}
use Rattle.std.proofs.Common.{sym, ◌∙◌, ap, subst}
use Rattle.std.specs.Bool.{Decides}
use Rattle.std.specs.Hash as fed
use Rattle.std.specs.Cmp.{IsEquivalence, IsPartialEquivalence, partial_equiv_from_equiv, decided, unsigned_Decides, first_so, second_so}
use Rattle.std.specs.Cmp.Lexicographic.{pointwise, pointwise_decides}
use Rattle.base_data.specs.Named.{Named}
use Rattle.base_data.specs.declared.library.LibName.{LibName}
use Rattle.base_data.specs.declared.library.LibName.TheVariants as l
use Rattle.base_data.specs.contracts.library.LibNamePartialEq.TheImpl as library_eq
use Rattle.base_data.specs.contracts.library.LibNameHash.TheImpl as library_hash

abbrev pub same_library : LibName → LibName → Bool
same_library = library_eq.eq-value.it

-- numbers are compared first, since they mostly differ
abbrev pub same_name : Named → Named → Bool
same_name a b = nat_eq a.number b.number && same_library a.library b.library

pub texts_decides : (xs ys : List ℕ) → Decides (pointwise nat_eq xs ys) (xs ≡ ys)
texts_decides = pointwise_decides unsigned_Decides

parts_decides : (xs ys : List (List ℕ)) → Decides (pointwise (pointwise nat_eq) xs ys) (xs ≡ ys)
parts_decides = pointwise_decides texts_decides

pub same_library_decides : (a b : LibName) → Decides (same_library a b) (a ≡ b)
same_library_decides l.Core l.Core = (λ h. refl, λ h. refl)
same_library_decides l.Derived l.Derived = (λ h. refl, λ h. refl)
same_library_decides l.Prelude l.Prelude = (λ h. refl, λ h. refl)
same_library_decides l.Program l.Program = (λ h. refl, λ h. refl)
same_library_decides (l.User ps) (l.User qs) = (λ h. ap l.User ((parts_decides ps qs).0 h), λ h. (parts_decides ps qs).1 (cc))
same_library_decides _ _ = (λ h. cc, λ h. cc)

pub same_name_cases : (a b : Named) → Decides (same_name a b) (a ≡ b)
same_name_cases a b = (
  (λ h. let n = (unsigned_Decides a.number b.number).0 (first_so (nat_eq a.number b.number) (same_library a.library b.library) h) in
      let k = (same_library_decides a.library b.library).0 (second_so (nat_eq a.number b.number) (same_library a.library b.library) h) in
      λ i. record { library = k i; number = n i }),
  (λ e. let n = (unsigned_Decides a.number b.number).1 (ap (λ (x : Named). x.number) e) in
      let k = (same_library_decides a.library b.library).1 (ap (λ (x : Named). x.library) e) in
      ap (λ v. v && same_library a.library b.library) n ∙ k),
)

pub same_name_decides : (a b : Named) (r : Bool) → r ≡ same_name a b → Decides r (a ≡ b)
same_name_decides a b r e = subst (λ v. Decides v (a ≡ b)) (sym e) (same_name_cases a b)

pub same_name_equiv : IsEquivalence same_name
same_name_equiv = decided same_name same_name_cases

pub same_name_per : IsPartialEquivalence same_name
same_name_per = partial_equiv_from_equiv same_name_equiv

-- what a name feeds a hasher: its library, then its number
abbrev pub name_fed : Named → fed.HashWrites
name_fed n = library_hash.hash_input-value.it n.library ++ fed.u64 n.number

-- the same names feed a hasher the same
pub name_alike : (a b : Named) → IsTrue (same_name a b) → name_fed a ≡ name_fed b
name_alike a b h = ap name_fed ((same_name_cases a b).0 h)
