-- What holds of each element of a list.
use Rattle.std.proofs.Common.{ℕ, zero, suc, List, [], ◌∷◌, reverse, map, sym, subst, slice_get}
use Rattle.base_data.proofs.ElementLemmas.{each-and}
use Rattle.base_data.specs.Elements.{Each}
use mathlib.Core.List.{reverse-cons}
use Rattle.law_invariants.specs.Invariant.{OptionHolds}

pub each_all : {A : Type 0} (P : A → Type 0) → ((x : A) → P x) → (xs : List A) → Each P xs
each_all P k [] = tt
each_all P k (x ∷ xs) = (k x, each_all P k xs)

pub each_of_map : {A B : Type 0} (P : A → Type 0) (Q : B → Type 0) (f : A → B) → ((x : A) → P x → Q (f x)) → (xs : List A) → Each P xs → Each Q (map f xs)
each_of_map P Q f k [] h = tt
each_of_map P Q f k (x ∷ xs) h = (k x h.0, each_of_map P Q f k xs h.1)

pub each_reversed : {A : Type 0} (P : A → Type 0) (xs : List A) → Each P xs → Each P (reverse xs)
each_reversed P [] h = tt
each_reversed {A} P (x ∷ xs) h = subst (λ (ys : List A). Each P ys) (sym (reverse-cons x xs)) (each-and P (reverse xs) x (each_reversed P xs h.1) h.0)

pub each_at : {A : Type 0} (P : A → Type 0) (xs : List A) (i : ℕ) → Each P xs → OptionHolds P (slice_get xs i)
each_at P [] i h = tt
each_at P (x ∷ xs) zero h = h.0
each_at P (x ∷ xs) (suc i) h = each_at P xs i h.1
