-- The names of records, and what a record does behind others of the same names.
use Rattle.std.proofs.Common.{◌≡◌, ℕ, zero, suc, List, [], ◌∷◌, ◌++◌, Some, refl, sym, ap, subst, inl, inr, arith, append_assoc}
use Rattle.std.specs.Prelude.{slice_get}
use Rattle.base_data.specs.Elements.{Each, Among, Once}
use Rattle.base_data.specs.declared.library.LibName.{LibName}
use Rattle.base_data.specs.declared.name.Label.{Label}
use Rattle.core_language.specs.declared.record.CompiledLibrary.{CompiledLibrary}
use Rattle.law_core.specs.Follows.{names_of, export_labels}
use Rattle.law_expand.proofs.Fresh.{each-map}
use Rattle.law_expand.specs.Serves.{IsThere, IsLabelThere, AllServe}

-- ---- names of records

pub names_first : (xs ys : List CompiledLibrary) (n : LibName) → Among (names_of xs) n → Among (names_of (xs ++ ys)) n
names_first [] ys n a = elim a [ ]
names_first (x ∷ xs) ys n (inl e) = inl e
names_first (x ∷ xs) ys n (inr a) = inr (names_first xs ys n a)

pub names_second : (xs ys : List CompiledLibrary) (n : LibName) → Among (names_of ys) n → Among (names_of (xs ++ ys)) n
names_second [] ys n a = a
names_second (x ∷ xs) ys n a = inr (names_second xs ys n a)

pub name_among : (rs : List CompiledLibrary) (r : CompiledLibrary) → Among rs r → Among (names_of rs) r.name
name_among [] r a = elim a [ ]
name_among (x ∷ rs) r (inl e) = inl (ap (λ (y : CompiledLibrary). y.name) e)
name_among (x ∷ rs) r (inr a) = inr (name_among rs r a)

-- the record of a name
pub record IsNamed (rs : List CompiledLibrary) (n : LibName) : Type 0 where
  pub record_of : CompiledLibrary
  pub among : Among rs record_of
  pub name : record_of.name ≡ n

pub named_among : (rs : List CompiledLibrary) (n : LibName) → Among (names_of rs) n → IsNamed rs n
named_among [] n a = elim a [ ]
named_among (r ∷ rs) n (inl e) = record { record_of = r; among = inl refl; name = sym e }
named_among (r ∷ rs) n (inr a) = let x = named_among rs n a in record { record_of = x.record_of; among = inr x.among; name = x.name }

-- ---- names that stand once

pub record IsNamedAt (rs : List CompiledLibrary) (n : LibName) : Type 0 where
  pub place : ℕ
  pub record_of : CompiledLibrary
  pub there : slice_get rs place ≡ Some record_of
  pub name : record_of.name ≡ n

pub named_at : (rs : List CompiledLibrary) (n : LibName) → Among (names_of rs) n → IsNamedAt rs n
named_at [] n a = elim a [ ]
named_at (r ∷ rs) n (inl e) = record { place = zero; record_of = r; there = refl; name = sym e }
named_at (r ∷ rs) n (inr a) = let x = named_at rs n a in record { place = suc x.place; record_of = x.record_of; there = x.there; name = x.name }

-- where records at two places have two names, no name stands twice
pub once_named : (rs : List CompiledLibrary) → ((i j : ℕ) (a b : CompiledLibrary) → slice_get rs i ≡ Some a → slice_get rs j ≡ Some b → a.name ≡ b.name → i ≡ j) → Once (names_of rs)
once_named [] h = tt
once_named (r ∷ rs) h = (
  (λ a. let x = named_at rs r.name a in let same = h zero (suc x.place) r x.record_of refl x.there (sym x.name) in absurd (omega (arith, same))),
  once_named rs (λ i j a b at to e. let same = h (suc i) (suc j) a b at to e in omega (arith, same)),
)

-- ---- behind more records

-- all names of the first are names of the second
abbrev pub NamesWithin : List CompiledLibrary → List CompiledLibrary → Type 0
NamesWithin xs ys = (n : LibName) → Among (names_of xs) n → Among (names_of ys) n

there_still : (xs ys : List CompiledLibrary) → NamesWithin xs ys → (n : LibName) → IsThere xs n → IsThere ys n
there_still xs ys w n (inl a) = inl (w n a)
there_still xs ys w n (inr i) = inr i

-- ---- what records export

-- a label that a record exports is of a library that is there, behind the record too
export_there : (earlier : List CompiledLibrary) (r : CompiledLibrary) (rs : List CompiledLibrary) (l : Label) → IsLabelThere earlier r l → IsThere (earlier ++ r ∷ rs) l.0.library
export_there earlier r rs l (inl o) = inl (names_second earlier (r ∷ rs) l.0.library (inl o))
export_there earlier r rs l (inr t) = there_still earlier (earlier ++ r ∷ rs) (λ n a. names_first earlier (r ∷ rs) n a) l.0.library t

pub exports_there : (earlier rs : List CompiledLibrary) → AllServe earlier rs → (r : CompiledLibrary) → Among rs r → Each (λ (l : Label). IsThere (earlier ++ rs) l.0.library) (export_labels r)
exports_there earlier [] h r a = elim a [ ]
exports_there earlier (x ∷ rs) h r (inl e) =
    subst (λ (y : CompiledLibrary). Each (λ (l : Label). IsThere (earlier ++ x ∷ rs) l.0.library) (export_labels y)) (sym e)
    (each-map (IsLabelThere earlier x) (λ (l : Label). IsThere (earlier ++ x ∷ rs) l.0.library) (export_labels x) h.0.exports (export_there earlier x rs))
exports_there earlier (x ∷ rs) h r (inr a) =
    subst (λ (ys : List CompiledLibrary). Each (λ (l : Label). IsThere ys l.0.library) (export_labels r)) (append_assoc earlier (x ∷ []) rs)
    (exports_there (earlier ++ x ∷ []) rs h.1 r a)
