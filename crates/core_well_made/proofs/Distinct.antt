-- What stands once, looked at one after another.
use Rattle.std.proofs.Common.{◌≡◌, Bool, true, false, List, [], ◌∷◌, ◌++◌, refl, sym, ap, ◌∙◌, true≢false}
use Rattle.std.specs.Prelude.{◌&&◌, ◌||◌, not, if◌then◌else◌}
use Rattle.std.specs.List.{list_any}
use Rattle.indexmap.specs.IndexSet.{insert_key}
use Rattle.law_core.specs.Words.{among, each, once}
use Rattle.core_well_made.specs.Sets.{once_behind}
use Rattle.core_well_made.proofs.Sets.{any_is_among, joined_among}

module _ {A : Type 0} (same : A → A → Bool) (symm : (x y : A) → same x y ≡ same y x) where
  abbrev apart : List A → List A → Bool
  apart seen xs = each (λ x. not (among same seen x)) xs

  not_or : (a b : Bool) → not (a || b) ≡ (not a && not b)
  not_or true b = refl
  not_or false b = refl

  or_none : (b : Bool) → (b || false) ≡ b
  or_none true = refl
  or_none false = refl

  -- one more was seen
  apart_more : (seen : List A) (x : A) (xs : List A) → apart (seen ++ x ∷ []) xs ≡ (apart seen xs && not (among same xs x))
  apart_more seen x [] = refl
  apart_more seen x (y ∷ ys) =
      let here : not (among same (seen ++ x ∷ []) y) ≡ (not (among same seen y) && not (same x y)) =
      ap not (joined_among same seen (x ∷ []) y ∙ ap (λ b. among same seen y || b) (or_none (same y x) ∙ symm y x)) ∙ not_or (among same seen y) (same x y) in
      (λ i. here i && apart_more seen x ys i) ∙ turn (not (among same seen y)) (not (same x y)) (apart seen ys) (not (among same ys x))
      ∙ ap (λ b. (not (among same seen y) && apart seen ys) && b) (sym (not_or (same x y) (among same ys x)))
    where
      turn : (a b c d : Bool) → ((a && b) && (c && d)) ≡ ((a && c) && (b && d))
      turn true true c d = refl
      turn true false true d = refl
      turn true false false d = refl
      turn false b c d = refl

  and_turn : (a b c d : Bool) → (a && ((b && c) && d)) ≡ ((a && b) && (c && d))
  and_turn true true c d = refl
  and_turn true false c d = refl
  and_turn false b c d = refl

  pub behind_is : (seen xs : List A) → once_behind same seen xs ≡ (apart seen xs && once same xs)
  behind_is seen [] = refl
  behind_is seen (x ∷ xs) =
      ap (λ b. not b && once_behind same (seen ++ x ∷ []) xs) (any_is_among same seen x)
      ∙ ap (λ b. not (among same seen x) && b) (behind_is (seen ++ x ∷ []) xs ∙ ap (λ b. b && once same xs) (apart_more seen x xs))
      ∙ and_turn (not (among same seen x)) (apart seen xs) (not (among same xs x)) (once same xs)

  none_seen : (xs : List A) → apart [] xs ≡ true
  none_seen [] = refl
  none_seen (x ∷ xs) = none_seen xs

  pub once_is : (xs : List A) → once_behind same [] xs ≡ once same xs
  once_is xs = behind_is [] xs ∙ ap (λ b. b && once same xs) (none_seen xs)

module _ {A : Type 0} (same : A → A → Bool) where
  -- one that is new goes to those that were seen
  pub behind_on : (seen grown left others : List A) (x : A) (total : Bool) → left ≡ x ∷ others → true ≡ not (list_any (same x) seen) → grown ≡ insert_key same seen x
      → once_behind same seen left ≡ total → once_behind same grown others ≡ total
  behind_on seen grown left others x total is new put so_far = by (list_any (same x) seen) refl
    where
      by : (b : Bool) → list_any (same x) seen ≡ b → once_behind same grown others ≡ total
      by true e = absurd (true≢false (new ∙ ap not e))
      by false e =
          ap (λ ys. once_behind same ys others) (put ∙ ap (λ b. if b then seen else seen ++ x ∷ []) e)
          ∙ sym (ap (λ b. not b && once_behind same (seen ++ x ∷ []) others) e) ∙ sym (ap (once_behind same seen) is) ∙ so_far

  -- one that was seen ends it
  pub behind_off : (seen left others : List A) (x : A) (total : Bool) → left ≡ x ∷ others → false ≡ not (list_any (same x) seen) → once_behind same seen left ≡ total → false ≡ total
  behind_off seen left others x total is old so_far =
      ap (λ b. b && once_behind same (seen ++ x ∷ []) others) old ∙ sym (ap (once_behind same seen) is) ∙ so_far
