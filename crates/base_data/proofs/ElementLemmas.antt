-- What holds of each element of a list, what stands among its elements, and that each stands once.
use Rattle.std.proofs.Common.{◌≡◌, ◌⊎◌, ℕ, zero, suc, List, [], ◌∷◌, ◌++◌, map, take, drop, refl, sym, ap, subst, inl, inr}
use Rattle.std.specs.List.{flat_map}
use Rattle.base_data.specs.Elements.{Each, Among, Once}

-- ---- what holds of each

pub each-at : {A : Type 0} (P : A → Type 0) (xs : List A) (x : A) → Each P xs → Among xs x → P x
each-at P [] x h a = elim a [ ]
each-at P (y ∷ ys) x h (inl e) = subst P (sym e) h.0
each-at P (y ∷ ys) x h (inr a) = each-at P ys x h.1 a

pub each-of : {A : Type 0} (P : A → Type 0) (xs : List A) → ((x : A) → Among xs x → P x) → Each P xs
each-of P [] h = tt
each-of P (x ∷ xs) h = (h x (inl refl), each-of P xs (λ y a. h y (inr a)))

pub each-append : {A : Type 0} (P : A → Type 0) (xs ys : List A) → Each P xs → Each P ys → Each P (xs ++ ys)
each-append P [] ys h k = k
each-append P (x ∷ xs) ys h k = (h.0, each-append P xs ys h.1 k)

pub each-and : {A : Type 0} (P : A → Type 0) (xs : List A) (x : A) → Each P xs → P x → Each P (xs ++ x ∷ [])
each-and P xs x h k = each-append P xs (x ∷ []) h (k, tt)

pub each-first : {A : Type 0} (P : A → Type 0) (xs ys : List A) → Each P (xs ++ ys) → Each P xs
each-first P [] ys h = tt
each-first P (x ∷ xs) ys h = (h.0, each-first P xs ys h.1)

pub each-last : {A : Type 0} (P : A → Type 0) (xs ys : List A) → Each P (xs ++ ys) → Each P ys
each-last P [] ys h = h
each-last P (x ∷ xs) ys h = each-last P xs ys h.1

pub each-flat : {A B : Type 0} (P : B → Type 0) (f : A → List B) (xs : List A) → Each P (flat_map f xs) → Each (λ x. Each P (f x)) xs
each-flat P f [] h = tt
each-flat P f (x ∷ xs) h = (each-first P (f x) (flat_map f xs) h, each-flat P f xs (each-last P (f x) (flat_map f xs) h))

pub each-implied : {A : Type 0} (P Q : A → Type 0) → ((x : A) → P x → Q x) → (xs : List A) → Each P xs → Each Q xs
each-implied P Q k [] h = tt
each-implied P Q k (x ∷ xs) h = (k x h.0, each-implied P Q k xs h.1)

pub each-taken : {A : Type 0} (P : A → Type 0) (n : ℕ) (xs : List A) → Each P xs → Each P (take n xs)
each-taken P zero xs h = tt
each-taken P (suc n) [] h = tt
each-taken P (suc n) (x ∷ xs) h = (h.0, each-taken P n xs h.1)

pub each-dropped : {A : Type 0} (P : A → Type 0) (n : ℕ) (xs : List A) → Each P xs → Each P (drop n xs)
each-dropped P zero xs h = h
each-dropped P (suc n) [] h = tt
each-dropped P (suc n) (x ∷ xs) h = each-dropped P n xs h.1

-- ---- what stands among the elements

pub among-first : {A : Type 0} (xs ys : List A) (x : A) → Among xs x → Among (xs ++ ys) x
among-first [] ys x a = elim a [ ]
among-first (y ∷ xs) ys x (inl e) = inl e
among-first (y ∷ xs) ys x (inr a) = inr (among-first xs ys x a)

pub among-second : {A : Type 0} (xs ys : List A) (x : A) → Among ys x → Among (xs ++ ys) x
among-second [] ys x a = a
among-second (y ∷ xs) ys x a = inr (among-second xs ys x a)

pub among-parts : {A : Type 0} (xs ys : List A) (x : A) → Among (xs ++ ys) x → Among xs x ⊎ Among ys x
among-parts [] ys x a = inr a
among-parts (y ∷ xs) ys x (inl e) = inl (inl e)
among-parts (y ∷ xs) ys x (inr a) = elim (among-parts xs ys x a) [ inl b ↦ inl (inr b) | inr b ↦ inr b ]

pub among-map : {A B : Type 0} (f : A → B) (xs : List A) (x : A) → Among xs x → Among (map f xs) (f x)
among-map f [] x a = elim a [ ]
among-map f (y ∷ xs) x (inl e) = inl (ap f e)
among-map f (y ∷ xs) x (inr a) = inr (among-map f xs x a)

pub among-flat : {A B : Type 0} (f : A → List B) (xs : List A) (x : A) (y : B) → Among xs x → Among (f x) y → Among (flat_map f xs) y
among-flat f [] x y a b = elim a [ ]
among-flat f (z ∷ xs) x y (inl e) b = among-first (f z) (flat_map f xs) y (subst (λ w. Among (f w) y) e b)
among-flat f (z ∷ xs) x y (inr a) b = among-second (f z) (flat_map f xs) y (among-flat f xs x y a b)

-- ---- each once

pub once-first : {A : Type 0} (xs ys : List A) → Once (xs ++ ys) → Once xs
once-first [] ys h = tt
once-first (x ∷ xs) ys h = ((λ a. h.0 (among-first xs ys x a)), once-first xs ys h.1)

pub once-second : {A : Type 0} (xs ys : List A) → Once (xs ++ ys) → Once ys
once-second [] ys h = h
once-second (x ∷ xs) ys h = once-second xs ys h.1
