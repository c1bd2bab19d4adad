-- Where names stand once, a record is found by its name.
use Rattle.std.proofs.Common.{◌≡◌, ℕ, zero, suc, ◌+◌, Bool, true, false, List, [], ◌∷◌, Some, arith, refl, sym, ap, ◌∙◌, subst, inl, inr}
use Rattle.std.specs.Prelude.{slice_get, if◌then◌else◌}
use Rattle.std.proofs.lemmas.Option.{none-some, same_Some}
use Rattle.base_data.proofs.ElementLemmas.{among-map}
use Rattle.base_data.specs.Elements.{Among, Once}
use Rattle.base_data.specs.Same.{same_library, same_library_decides}
use Rattle.base_data.specs.declared.library.LibName.{LibName}
use Rattle.core_language.specs.declared.record.CompiledLibrary.{CompiledLibrary}
use Rattle.law_core.specs.Follows.{names_of}
use Rattle.core_plan.specs.Places.{place_from, place_of}

abbrev pub name_of : CompiledLibrary → LibName
name_of r = r.name

pub name-among : (rs : List CompiledLibrary) (r : CompiledLibrary) → Among rs r → Among (names_of rs) r.name
name-among rs r a = among-map name_of rs r a

-- one record of each name
pub same-record : (rs : List CompiledLibrary) → Once (names_of rs) → (a b : CompiledLibrary) → Among rs a → Among rs b → a.name ≡ b.name → a ≡ b
same-record [] h a b x y e = elim x [ ]
same-record (r ∷ rs) h a b (inl d) (inl k) e = d ∙ sym k
same-record (r ∷ rs) h a b (inl d) (inr k) e = absurd (h.0 (subst (Among (names_of rs)) (sym e ∙ ap name_of d) (name-among rs b k)))
same-record (r ∷ rs) h a b (inr d) (inl k) e = absurd (h.0 (subst (Among (names_of rs)) (e ∙ ap name_of k) (name-among rs a d)))
same-record (r ∷ rs) h a b (inr d) (inr k) e = same-record rs h.1 a b d k e

-- ---- and in one place

pub got-among : (rs : List CompiledLibrary) (i : ℕ) (r : CompiledLibrary) → slice_get rs i ≡ Some r → Among rs r
got-among [] i r e = absurd (none-some r e)
got-among (q ∷ rs) zero r e = inl (sym (same_Some q r e))
got-among (q ∷ rs) (suc i) r e = inr (got-among rs i r e)

pub one-place : (rs : List CompiledLibrary) → Once (names_of rs) → (i j : ℕ) (r q : CompiledLibrary) → slice_get rs i ≡ Some r → slice_get rs j ≡ Some q → r.name ≡ q.name → i ≡ j
one-place [] h i j r q a b e = absurd (none-some r a)
one-place (x ∷ rs) h zero zero r q a b e = refl
one-place (x ∷ rs) h zero (suc j) r q a b e =
    absurd (h.0 (subst (Among (names_of rs)) (sym e ∙ sym (ap name_of (same_Some x r a))) (name-among rs q (got-among rs j q b))))
one-place (x ∷ rs) h (suc i) zero r q a b e =
    absurd (h.0 (subst (Among (names_of rs)) (e ∙ sym (ap name_of (same_Some x q b))) (name-among rs r (got-among rs i r a))))
one-place (x ∷ rs) h (suc i) (suc j) r q a b e = ap suc (one-place rs h.1 i j r q a b e)

placed-from : (i : ℕ) (rs : List CompiledLibrary) → Once (names_of rs) → (r : CompiledLibrary) → Among rs r
    → (k : ℕ) × (place_from i r.name rs ≡ Some (i + k)) × (slice_get rs k ≡ Some r)
placed-from i [] h r a = elim a [ ]
placed-from i (q ∷ rs) h r (inl e) =
    let here : i ≡ i + 0 = omega arith in
    let same = (same_library_decides q.name r.name).1 (ap name_of (sym e)) in
    (0, ap (λ b. if b then Some i else place_from (suc i) r.name rs) same ∙ ap Some here, ap Some (sym e))
placed-from i (q ∷ rs) h r (inr a) = by (same_library q.name r.name) (same_library_decides q.name r.name).0 (placed-from (suc i) rs h.1 r a)
  where
    by : (b : Bool) → (b ≡ true → q.name ≡ r.name) → ((k : ℕ) × (place_from (suc i) r.name rs ≡ Some (suc i + k)) × (slice_get rs k ≡ Some r))
        → (k : ℕ) × ((if b then Some i else place_from (suc i) r.name rs) ≡ Some (i + k)) × (slice_get (q ∷ rs) k ≡ Some r)
    by true is rest = absurd (h.0 (subst (Among (names_of rs)) (sym (is refl)) (name-among rs r a)))
    by false is rest =
        let further : suc i + rest.0 ≡ i + suc rest.0 = omega arith in
        (suc rest.0, rest.1 ∙ ap Some further, rest.2)

-- the place of a record's name is where it stands
pub placed : (rs : List CompiledLibrary) → Once (names_of rs) → (r : CompiledLibrary) → Among rs r → (k : ℕ) × (place_of rs r.name ≡ Some k) × (slice_get rs k ≡ Some r)
placed rs h r a =
    let found = placed-from 0 rs h r a in
    let same : 0 + found.0 ≡ found.0 = omega arith in
    (found.0, found.1 ∙ ap Some same, found.2)
