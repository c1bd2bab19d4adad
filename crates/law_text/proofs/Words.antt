-- What stands among lists, and that each stands once.
use Rattle.std.proofs.Common.{◌≡◌, Bool, true, false, List, [], ◌∷◌, ◌++◌, map, arith, refl, sym, inl, inr}
use Rattle.std.specs.Prelude.{◌⊎◌, ◌||◌, if◌then◌else◌}
use Rattle.std.specs.Bool.{Decides}
use Rattle.std.specs.List.{flat_map, list_any, Contains}
use Rattle.base_data.proofs.ElementLemmas.{among-first, among-second, among-parts}
use Rattle.base_data.specs.Elements.{Among, Once}
use Rattle.core_plan.proofs.MarkLemmas.{contains_later}

-- ---- among what a function makes

pub map-among : {A B : Type 0} (f : A → B) (xs : List A) (y : B) → Among (map f xs) y → (x : A) × Among xs x × (y ≡ f x)
map-among f [] y a = elim a [ ]
map-among f (x ∷ xs) y (inl e) = (x, inl refl, e)
map-among f (x ∷ xs) y (inr a) = let found = map-among f xs y a in (found.0, inr found.1, found.2)

pub flat-among : {A B : Type 0} (f : A → List B) (xs : List A) (y : B) → Among (flat_map f xs) y → (x : A) × Among xs x × Among (f x) y
flat-among f [] y a = elim a [ ]
flat-among {A} f (x ∷ xs) y a = by (among-parts (f x) (flat_map f xs) y a) (flat-among f xs y)
  where
    by : Among (f x) y ⊎ Among (flat_map f xs) y → (Among (flat_map f xs) y → (z : A) × Among xs z × Among (f z) y)
        → (z : A) × Among (x ∷ xs) z × Among (f z) y
    by (inl b) rest = (x, inl refl, b)
    by (inr b) rest = let found = rest b in (found.0, inr found.1, found.2)

-- what stands among a list has a place in it
pub contained : {A : Type 0} (xs : List A) (x : A) → Among xs x → Contains xs x
contained [] x a = elim a [ ]
contained (y ∷ xs) x (inl e) = (0, omega arith, sym e)
contained (y ∷ xs) x (inr a) = contains_later y x xs (contained xs x a)

-- ---- each once

pub once-one : {A : Type 0} (x : A) → Once (x ∷ [])
once-one x = ((λ a. a), tt)

-- ---- lists that grow at the end by what isn't there

pub any-among : {A : Type 0} (same : A → A → Bool) → ((x y : A) → Decides (same x y) (x ≡ y)) → (xs : List A) (x : A) → list_any (same x) xs ≡ true → Among xs x
any-among same h [] x e = absurd (cc)
any-among same h (y ∷ xs) x e = by (same x y) (h x y).0 (any-among same h xs x) e
  where
    by : (b : Bool) → (b ≡ true → x ≡ y) → (list_any (same x) xs ≡ true → Among xs x) → (b || list_any (same x) xs) ≡ true → Among (y ∷ xs) x
    by true is rest d = inl (is refl)
    by false is rest d = inr (rest d)

pub put-there : {A : Type 0} (same : A → A → Bool) → ((x y : A) → Decides (same x y) (x ≡ y)) → (xs : List A) (x : A)
    → Among (if list_any (same x) xs then xs else xs ++ x ∷ []) x
put-there same h xs x = by (list_any (same x) xs) (any-among same h xs x)
  where
    by : (b : Bool) → (b ≡ true → Among xs x) → Among (if b then xs else xs ++ x ∷ []) x
    by true is = is refl
    by false is = among-second xs (x ∷ []) x (inl refl)

pub put-stays : {A : Type 0} (b : Bool) (xs : List A) (x y : A) → Among xs y → Among (if b then xs else xs ++ x ∷ []) y
put-stays true xs x y a = a
put-stays false xs x y a = among-first xs (x ∷ []) y a
