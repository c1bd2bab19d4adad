-- Texts of words, cut where a word ends.
use Rattle.std.proofs.Common.{◌≡◌, ℕ, Bool, true, false, List, [], ◌∷◌, ◌++◌, drop, refl, sym, ap, ◌∙◌, subst}
use Rattle.std.specs.Prelude.{not, slice_index}
use Rattle.std.specs.List.{list_all}
use Rattle.std.proofs.lemmas.List.Folds.{list_all-append}
use Rattle.std.proofs.lemmas.Bool.{and_parts, and_from}

-- a word of such bytes ends where these stand
abbrev pub stops : (ℕ → Bool) → List ℕ → Bool
stops p [] = true
stops p (b ∷ bs) = not (p b)

pub all_append : (p : ℕ → Bool) (xs ys : List ℕ) → list_all p xs ≡ true → list_all p ys ≡ true → list_all p (xs ++ ys) ≡ true
all_append p xs ys h k = list_all-append p xs ys ∙ and_from (list_all p xs) (list_all p ys) h k

pub all_weaker : (p q : ℕ → Bool) → ((b : ℕ) → p b ≡ true → q b ≡ true) → (xs : List ℕ) → list_all p xs ≡ true → list_all q xs ≡ true
all_weaker p q more [] h = refl
all_weaker p q more (x ∷ xs) h =
    let both = and_parts (p x) (list_all p xs) h in
    and_from (q x) (list_all q xs) (more x both.0) (all_weaker p q more xs both.1)

not_both : (b : Bool) → b ≡ true → not b ≡ true → ⊥
not_both true h k = cc
not_both false h k = cc

-- a byte of a word stands where none can
stopped : (p : ℕ → Bool) (ys vs us : List ℕ) (u : ℕ) → list_all p (u ∷ us) ≡ true → stops p ys ≡ true → ys ≡ (u ∷ us) ++ vs → ⊥
stopped p ys vs us u h s e =
    let there : stops p (u ∷ (us ++ vs)) ≡ true = subst (λ (l : List ℕ). stops p l ≡ true) e s in
    not_both (p u) ((and_parts (p u) (list_all p us) h).0) there

-- two texts begin with the same word, if in both the word ends there
pub cut : (p : ℕ → Bool) (xs us ys vs : List ℕ) → list_all p xs ≡ true → list_all p us ≡ true → stops p ys ≡ true → stops p vs ≡ true
    → xs ++ ys ≡ us ++ vs → (xs ≡ us) × (ys ≡ vs)
cut p [] [] ys vs h k s t e = (refl, e)
cut p [] (u ∷ us) ys vs h k s t e = absurd (stopped p ys vs us u k s e)
cut p (x ∷ xs) [] ys vs h k s t e = absurd (stopped p vs ys xs x h t (sym e))
cut p (x ∷ xs) (u ∷ us) ys vs h k s t e =
    let rest : xs ++ ys ≡ us ++ vs = ap (λ (l : List ℕ). drop 1 l) e in
    let first : x ≡ u = ap (λ (l : List ℕ). slice_index l 0) e in
    let q = cut p xs us ys vs ((and_parts (p x) (list_all p xs) h).1) ((and_parts (p u) (list_all p us) k).1) s t rest in
    (λ i. first i ∷ q.0 i, q.1)
