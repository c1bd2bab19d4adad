-- Which versions a reference takes, by its parts.
use Rattle.std.proofs.Common.{◌≡◌, ◌∙◌, sym, ap, refl, ℕ, zero, suc, ◌≤◌, Bool, true, false, List, [], ◌∷◌, Option, Some, None, true≢false, arith}
use Rattle.std.specs.Prelude.{not, is_some, option_map, slice_get, nat_eq, nat_le, codes, if◌then◌else◌}
use Rattle.std.specs.Cmp.{unsigned_Decides}
use Rattle.base_data.specs.Datum.{PlainDatum, atom, symbol, pair, vector, nil, chain, symbol_text}
use Rattle.load_forms.specs.All.{given}
use Rattle.load_forms.specs.Name.{number}
use Rattle.load_forms.specs.Words.{is_word, connective_of}
use Rattle.load_forms.specs.Version.{both, agrees, is_wanted, single, wants, joined, by_sign, compared, otherwise, at_place, further, number_fits, all_numbers, first_fit, fits, all_fit, yes}
use Rattle.load_forms.specs.declared.words.Connective.{Connective}
use Rattle.load_forms.specs.declared.words.Connective.TheVariants as c
use Rattle.load_forms.proofs.VersionLemmas.{fits_cons, fits_nil, number_fits_cons}
use Rattle.law_imports.specs.Versions.{NumberFits, VersionsMakeNoReference, AndFitsWhereAllDo, OrFitsWhereOneDoes, NotFitsWhereItsPartDoesNot, ListFitsByPlaces, NumbersMakeNoPart, NumberFitsItself, SignsCompare, AndFitsNumbers, OrFitsNumbers, NotFitsNumbers}

-- ---- whether there is an answer

is_some-both : (a b x y : Option Bool) → is_some a ≡ is_some x → is_some b ≡ is_some y → is_some (both a b) ≡ is_some (both x y)
is_some-both None b None y h k = refl
is_some-both None b (Some x) y h k = cc
is_some-both (Some a) b None y h k = cc
is_some-both (Some a) None (Some x) None h k = refl
is_some-both (Some a) None (Some x) (Some y) h k = cc
is_some-both (Some a) (Some b) (Some x) None h k = cc
is_some-both (Some a) (Some b) (Some x) (Some y) h k = refl

is_some-map : {A B : Type 0} (f : A → B) (a : Option A) → is_some (option_map f a) ≡ is_some a
is_some-map f None = refl
is_some-map f (Some a) = refl

is_some-wanted : (w : Bool) (a x : Option Bool) → is_some a ≡ is_some x → is_some (is_wanted w a) ≡ is_some (is_wanted w x)
is_some-wanted w a x h = is_some-map (agrees w) a ∙ h ∙ sym (is_some-map (agrees w) x)

is_some-joined : (parts : PlainDatum) (a x : Option Bool) (w : Connective) → is_some a ≡ is_some x → is_some (joined parts a w) ≡ is_some (joined parts x w)
is_some-joined parts a x c.And h = h
is_some-joined parts a x c.Or h = is_some-map not a ∙ h ∙ sym (is_some-map not x)
is_some-joined parts a x c.Not h = by (single parts)
  where
    by : (o : Option PlainDatum) → is_some (given o (λ d. a)) ≡ is_some (given o (λ d. x))
    by None = refl
    by (Some d) = h

is_some-sign : (n k m : ℕ) (sign : PlainDatum) → is_some (by_sign n sign m) ≡ is_some (by_sign k sign m)
is_some-sign n k m sign = by (is_word (codes ">=") sign) (is_word (codes "<=") sign)
  where
    by : (a b : Bool) → is_some (if a then Some (nat_le m n) else if b then Some (nat_le n m) else None) ≡ is_some (if a then Some (nat_le m k) else if b then Some (nat_le k m) else None)
    by true b = refl
    by false true = refl
    by false false = refl

is_some-compared : (n k : ℕ) (sign parts : PlainDatum) → is_some (compared n sign parts) ≡ is_some (compared k sign parts)
is_some-compared n k sign parts = by (single parts)
  where
    by_number : (o : Option ℕ) → is_some (given o (by_sign n sign)) ≡ is_some (given o (by_sign k sign))
    by_number None = refl
    by_number (Some m) = is_some-sign n k m sign

    by : (o : Option PlainDatum) → is_some (given o (λ d. given (number d) (by_sign n sign))) ≡ is_some (given o (λ d. given (number d) (by_sign k sign)))
    by None = refl
    by (Some d) = by_number (number d)

is_some-number : (n k : ℕ) (d : PlainDatum) → (is_some (number_fits n d) ≡ is_some (number_fits k d)) × ((w : Bool) → is_some (all_numbers w n d) ≡ is_some (all_numbers w k d))
is_some-number n k (atom s a) = (is_some-map (nat_eq n) (number (atom s a)) ∙ sym (is_some-map (nat_eq k) (number (atom s a))), λ w. refl)
is_some-number n k (symbol s x) = (refl, λ w. refl)
is_some-number n k (vector s d) = (refl, λ w. refl)
is_some-number n k (pair s d e) = go (is_some-number n k d) (is_some-number n k e)
  where
    go : (is_some (number_fits n d) ≡ is_some (number_fits k d)) × ((w : Bool) → is_some (all_numbers w n d) ≡ is_some (all_numbers w k d))
        → (is_some (number_fits n e) ≡ is_some (number_fits k e)) × ((w : Bool) → is_some (all_numbers w n e) ≡ is_some (all_numbers w k e))
        → (is_some (number_fits n (pair s d e)) ≡ is_some (number_fits k (pair s d e))) × ((w : Bool) → is_some (all_numbers w n (pair s d e)) ≡ is_some (all_numbers w k (pair s d e)))
    go first rest = (
      by (connective_of d),
      λ w. is_some-both (is_wanted w (number_fits n d)) (all_numbers w n e) (is_wanted w (number_fits k d)) (all_numbers w k e) (is_some-wanted w (number_fits n d) (number_fits k d) first.0) (rest.1 w),
    )
      where
        by : (o : Option Connective) → is_some (otherwise o (compared n d e) (λ w. joined e (all_numbers (wants w) n e) w)) ≡ is_some (otherwise o (compared k d e) (λ w. joined e (all_numbers (wants w) k e) w))
        by None = is_some-compared n k d e
        by (Some w) = is_some-joined e (all_numbers (wants w) n e) (all_numbers (wants w) k e) w (rest.1 (wants w))

is_some-place : (v : List ℕ) (d : PlainDatum) → is_some (at_place v (λ n. number_fits n d)) ≡ is_some (number_fits 0 d)
is_some-place [] d = is_some-map (λ b. false) (number_fits 0 d)
is_some-place (n ∷ v) d = (is_some-number n 0 d).0

is_some-first : (v w : List ℕ) (d : PlainDatum) → is_some (first_fit v d) ≡ is_some (first_fit w d)
is_some-first v w (atom s a) = refl
is_some-first v w (symbol s x) = refl
is_some-first v w (vector s d) = refl
is_some-first v w (pair s d e) =
    is_some-both (at_place v (λ n. number_fits n d)) (first_fit (further v) e) (at_place w (λ n. number_fits n d)) (first_fit (further w) e)
    (is_some-place v d ∙ sym (is_some-place w d)) (is_some-first (further v) (further w) e)

is_some-fits : (v w : List ℕ) (d : PlainDatum) → (is_some (fits v d) ≡ is_some (fits w d)) × ((b : Bool) → is_some (all_fit b v d) ≡ is_some (all_fit b w d))
is_some-fits v w (atom s a) = (refl, λ b. refl)
is_some-fits v w (symbol s x) = (refl, λ b. refl)
is_some-fits v w (vector s d) = (refl, λ b. refl)
is_some-fits v w (pair s d e) = go (is_some-fits v w d) (is_some-fits v w e)
  where
    go : (is_some (fits v d) ≡ is_some (fits w d)) × ((b : Bool) → is_some (all_fit b v d) ≡ is_some (all_fit b w d))
        → (is_some (fits v e) ≡ is_some (fits w e)) × ((b : Bool) → is_some (all_fit b v e) ≡ is_some (all_fit b w e))
        → (is_some (fits v (pair s d e)) ≡ is_some (fits w (pair s d e))) × ((b : Bool) → is_some (all_fit b v (pair s d e)) ≡ is_some (all_fit b w (pair s d e)))
    go first rest = (
      by (connective_of d),
      λ b. is_some-both (is_wanted b (fits v d)) (all_fit b v e) (is_wanted b (fits w d)) (all_fit b w e) (is_some-wanted b (fits v d) (fits w d) first.0) (rest.1 b),
    )
      where
        by : (o : Option Connective) → is_some (otherwise o (first_fit v (pair s d e)) (λ x. joined e (all_fit (wants x) v e) x)) ≡ is_some (otherwise o (first_fit w (pair s d e)) (λ x. joined e (all_fit (wants x) w e) x))
        by None = is_some-first v w (pair s d e)
        by (Some x) = is_some-joined e (all_fit (wants x) v e) (all_fit (wants x) w e) x (rest.1 (wants x))

pub versions_make_no_reference : VersionsMakeNoReference
versions_make_no_reference v d = (is_some-fits v [] d).0

pub numbers_make_no_part : NumbersMakeNoPart
numbers_make_no_part n d = (is_some-number n 0 d).0

-- ---- what all parts answer

yes_some : (a : Option Bool) → yes a ≡ true → a ≡ Some true
yes_some None h = cc
yes_some (Some b) h = ap Some h

no_some : (a : Option Bool) → is_some a ≡ true → (yes a ≡ true → ⊥) → a ≡ Some false
no_some None h k = cc
no_some (Some true) h k = absurd (k refl)
no_some (Some false) h k = refl

module _ (f : PlainDatum → Option Bool) where
  abbrev all : Bool → List PlainDatum → Option Bool
  all wanted [] = Some true
  all wanted (d ∷ ds) = both (is_wanted wanted (f d)) (all wanted ds)

  abbrev Each : List PlainDatum → Type 0
  Each ds = (i : ℕ) (d : PlainDatum) → slice_get ds i ≡ Some d → yes (f d) ≡ true

  abbrev One : List PlainDatum → Type 0
  One ds = (i : ℕ) × (d : PlainDatum) × (slice_get ds i ≡ Some d) × (yes (f d) ≡ true)

  each_from : (ds : List PlainDatum) → all true ds ≡ Some true → Each ds
  each_from [] h i d at = cc
  each_from (x ∷ xs) h i d at = by (f x) (all true xs) refl refl h (each_from xs) i at
    where
      by : (a b : Option Bool) → f x ≡ a → all true xs ≡ b → both (is_wanted true a) b ≡ Some true → (all true xs ≡ Some true → Each xs) → (i : ℕ) → slice_get (x ∷ xs) i ≡ Some d → yes (f d) ≡ true
      by None b e k h rest i at = cc
      by (Some a) None e k h rest i at = cc
      by (Some false) (Some b) e k h rest i at = cc
      by (Some true) (Some false) e k h rest i at = cc
      by (Some true) (Some true) e k h rest zero at = let same : x ≡ d = cc in ap (λ y. yes (f y)) (sym same) ∙ ap yes e
      by (Some true) (Some true) e k h rest (suc i) at = rest k i d at

  from_each : (ds : List PlainDatum) → Each ds → all true ds ≡ Some true
  from_each [] h = refl
  from_each (x ∷ xs) h =
      ap (λ a. both (is_wanted true a) (all true xs)) (yes_some (f x) (h zero x refl)) ∙ ap (both (Some true)) (from_each xs (λ i d at. h (suc i) d at))

  one_from : (ds : List PlainDatum) → all false ds ≡ Some false → One ds
  one_from [] h = cc
  one_from (x ∷ xs) h = by (f x) (all false xs) refl refl h (one_from xs)
    where
      by : (a b : Option Bool) → f x ≡ a → all false xs ≡ b → both (is_wanted false a) b ≡ Some false → (all false xs ≡ Some false → One xs) → One (x ∷ xs)
      by None b e k h rest = cc
      by (Some a) None e k h rest = cc
      by (Some true) (Some b) e k h rest = (zero, x, refl, ap yes e)
      by (Some false) (Some true) e k h rest = cc
      by (Some false) (Some false) e k h rest = let r = rest k in (suc r.0, r.1, r.2, r.3)

  from_one : (ds : List PlainDatum) (i : ℕ) (d : PlainDatum) → slice_get ds i ≡ Some d → yes (f d) ≡ true → is_some (all false ds) ≡ true → all false ds ≡ Some false
  from_one [] i d at h some = cc
  from_one (x ∷ xs) i d at h some = by (f x) (all false xs) refl refl (λ i at. from_one xs i d at h) i at some
    where
      by : (a b : Option Bool) → f x ≡ a → all false xs ≡ b → ((i : ℕ) → slice_get xs i ≡ Some d → is_some (all false xs) ≡ true → all false xs ≡ Some false)
          → (i : ℕ) → slice_get (x ∷ xs) i ≡ Some d → is_some (both (is_wanted false a) b) ≡ true → both (is_wanted false a) b ≡ Some false
      by None b e k rest i at some = cc
      by (Some a) None e k rest i at some = cc
      by (Some true) (Some b) e k rest i at some = refl
      by (Some false) (Some b) e k rest zero at some =
          let same : x ≡ d = cc in
          absurd (true≢false (sym h ∙ ap (λ y. yes (f y)) (sym same) ∙ ap yes e))
      by (Some false) (Some b) e k rest (suc i) at some = sym k ∙ rest i at (ap is_some k)

  -- the answer of `or`
  or_from : (ds : List PlainDatum) → yes (option_map not (all false ds)) ≡ true → One ds
  or_from ds h = by (all false ds) refl h
    where
      by : (a : Option Bool) → all false ds ≡ a → yes (option_map not a) ≡ true → One ds
      by None e h = cc
      by (Some true) e h = cc
      by (Some false) e h = one_from ds e

  from_or : (ds : List PlainDatum) → is_some (option_map not (all false ds)) ≡ true → One ds → yes (option_map not (all false ds)) ≡ true
  from_or ds some o = ap (λ a. yes (option_map not a)) (from_one ds o.0 o.1 o.2 o.3 (sym (is_some-map not (all false ds)) ∙ some))

  -- the answer of `not`
  not_from : (d : PlainDatum) → yes (all false (d ∷ [])) ≡ true → yes (f d) ≡ true → ⊥
  not_from d h = by (f d) h
    where
      by : (a : Option Bool) → yes (both (is_wanted false a) (Some true)) ≡ true → yes a ≡ true → ⊥
      by None h k = cc
      by (Some true) h k = cc
      by (Some false) h k = cc

  from_not : (d : PlainDatum) → is_some (all false (d ∷ [])) ≡ true → (yes (f d) ≡ true → ⊥) → yes (all false (d ∷ [])) ≡ true
  from_not d some h = by (f d) some h
    where
      by : (a : Option Bool) → is_some (both (is_wanted false a) (Some true)) ≡ true → (yes a ≡ true → ⊥) → yes (both (is_wanted false a) (Some true)) ≡ true
      by None some h = cc
      by (Some true) some h = absurd (h refl)
      by (Some false) some h = refl

all_fit_is : (w : Bool) (v : List ℕ) (ds : List PlainDatum) → all_fit w v (chain ds nil) ≡ all (fits v) w ds
all_fit_is w v [] = refl
all_fit_is w v (d ∷ ds) = ap (both (is_wanted w (fits v d))) (all_fit_is w v ds)

all_numbers_is : (w : Bool) (n : ℕ) (ds : List PlainDatum) → all_numbers w n (chain ds nil) ≡ all (number_fits n) w ds
all_numbers_is w n [] = refl
all_numbers_is w n (d ∷ ds) = ap (both (is_wanted w (number_fits n d))) (all_numbers_is w n ds)

-- ---- whole versions

pub and_fits : AndFitsWhereAllDo
and_fits v parts d h = (
  λ k. each_from (fits v) parts (sym is ∙ yes_some (fits v d) k),
  λ k. ap yes (is ∙ from_each (fits v) parts k),
)
  where
    is : fits v d ≡ all (fits v) true parts
    is = fits_cons v d (symbol h.0 (codes "and")) parts h.1 ∙ all_fit_is true v parts

pub or_fits : OrFitsWhereOneDoes
or_fits v parts d h reference = (
  λ k. or_from (fits v) parts (ap yes (sym is) ∙ k),
  λ k. ap yes is ∙ from_or (fits v) parts (ap is_some (sym is) ∙ versions_make_no_reference v d ∙ reference) k,
)
  where
    is : fits v d ≡ option_map not (all (fits v) false parts)
    is = fits_cons v d (symbol h.0 (codes "or")) parts h.1 ∙ ap (option_map not) (all_fit_is false v parts)

pub not_fits : NotFitsWhereItsPartDoesNot
not_fits v part d h reference = (
  λ k. not_from (fits v) part (ap yes (sym is) ∙ k),
  λ k. ap yes is ∙ from_not (fits v) part (ap is_some (sym is) ∙ versions_make_no_reference v d ∙ reference) k,
)
  where
    is : fits v d ≡ all (fits v) false (part ∷ [])
    is = fits_cons v d (symbol h.0 (codes "not")) (part ∷ []) h.1

-- by places
abbrev ByPlaces : List ℕ → List PlainDatum → Type 0
ByPlaces v parts = (i : ℕ) (part : PlainDatum) → slice_get parts i ≡ Some part → (n : ℕ) × (slice_get v i ≡ Some n) × NumberFits n part

places_from : (v : List ℕ) (ds : List PlainDatum) → first_fit v (chain ds nil) ≡ Some true → ByPlaces v ds
places_from v [] h i part at = cc
places_from [] (d ∷ ds) h i part at = by (number_fits 0 d) (first_fit [] (chain ds nil)) h
  where
    by : (a b : Option Bool) → both (option_map (λ x. false) a) b ≡ Some true → (n : ℕ) × (slice_get [] i ≡ Some n) × NumberFits n part
    by None b h = cc
    by (Some a) None h = cc
    by (Some a) (Some b) h = cc
places_from (m ∷ v) (d ∷ ds) h i part at = by (number_fits m d) (first_fit v (chain ds nil)) refl refl h (places_from v ds) i at
  where
    by : (a b : Option Bool) → number_fits m d ≡ a → first_fit v (chain ds nil) ≡ b → both a b ≡ Some true → (first_fit v (chain ds nil) ≡ Some true → ByPlaces v ds)
        → (i : ℕ) → slice_get (d ∷ ds) i ≡ Some part → (n : ℕ) × (slice_get (m ∷ v) i ≡ Some n) × NumberFits n part
    by None b e k h rest i at = cc
    by (Some a) None e k h rest i at = cc
    by (Some false) (Some b) e k h rest i at = cc
    by (Some true) (Some false) e k h rest i at = cc
    by (Some true) (Some true) e k h rest zero at = let same : d ≡ part = cc in (m, refl, ap (λ y. yes (number_fits m y)) (sym same) ∙ ap yes e)
    by (Some true) (Some true) e k h rest (suc i) at = rest k i part at

from_places : (v : List ℕ) (ds : List PlainDatum) → ByPlaces v ds → first_fit v (chain ds nil) ≡ Some true
from_places v [] h = refl
from_places [] (d ∷ ds) h = let p = (h zero d refl).1 in absurd (cc)
from_places (m ∷ v) (d ∷ ds) h =
    let p = h zero d refl in
    let same : m ≡ p.0 = cc in
    ap (λ a. both a (first_fit v (chain ds nil))) (ap (λ n. number_fits n d) same ∙ yes_some (number_fits p.0 d) p.2)
    ∙ ap (both (Some true)) (from_places v ds (λ i part at. h (suc i) part at))

no_connective : (d : PlainDatum) → symbol_text d ≡ None → connective_of d ≡ None
no_connective (atom s a) h = refl
no_connective (symbol s x) h = cc
no_connective (pair s d e) h = refl
no_connective (vector s d) h = refl

pub list_fits : ListFitsByPlaces
list_fits v [] d h plain = (λ k i part at. cc, λ k. ap yes (fits_nil v d h))
list_fits v (x ∷ xs) d h plain = (
  λ k. places_from v (x ∷ xs) (sym is ∙ yes_some (fits v d) k),
  λ k. ap yes (is ∙ from_places v (x ∷ xs) k),
)
  where
    is : fits v d ≡ first_fit v (chain (x ∷ xs) nil)
    is = fits_cons v d x xs h ∙ ap (λ o. otherwise o (first_fit v (chain (x ∷ xs) nil)) (λ w. joined (chain xs nil) (all_fit (wants w) v (chain xs nil)) w)) (no_connective x plain)

-- ---- one number

pub number_fits_itself : NumberFitsItself
number_fits_itself n m d h = (λ k. (unsigned_Decides n m).0 (sym (ap yes is) ∙ k), λ k. ap yes is ∙ (unsigned_Decides n m).1 k)
  where
    by : (e : PlainDatum) → number e ≡ Some m → number_fits n e ≡ Some (nat_eq n m)
    by (atom s a) h = ap (option_map (nat_eq n)) h
    by (symbol s x) h = cc
    by (pair s a b) h = cc
    by (vector s a) h = cc

    is : number_fits n d ≡ Some (nat_eq n m)
    is = by d h

pub signs_compare : SignsCompare
signs_compare n m e d h = (
  λ k.
      let is : number_fits n d ≡ Some (nat_le m n) = number_fits_cons n d (symbol k.0 (codes ">=")) (e ∷ []) k.1 ∙ ap (λ o. given o (by_sign n (symbol k.0 (codes ">=")))) h in
      (λ x. let y : nat_le m n ≡ true = sym (ap yes is) ∙ x in grind (arith, y), λ x. ap yes is ∙ le m n x),
  λ k.
      let is : number_fits n d ≡ Some (nat_le n m) = number_fits_cons n d (symbol k.0 (codes "<=")) (e ∷ []) k.1 ∙ ap (λ o. given o (by_sign n (symbol k.0 (codes "<=")))) h in
      (λ x. let y : nat_le n m ≡ true = sym (ap yes is) ∙ x in grind (arith, y), λ x. ap yes is ∙ le n m x),
)
  where
    le : (a b : ℕ) → a ≤ b → nat_le a b ≡ true
    le a b x = grind (arith, x)

pub and_fits_numbers : AndFitsNumbers
and_fits_numbers n parts d h = (
  λ k. each_from (number_fits n) parts (sym is ∙ yes_some (number_fits n d) k),
  λ k. ap yes (is ∙ from_each (number_fits n) parts k),
)
  where
    is : number_fits n d ≡ all (number_fits n) true parts
    is = number_fits_cons n d (symbol h.0 (codes "and")) parts h.1 ∙ all_numbers_is true n parts

pub or_fits_numbers : OrFitsNumbers
or_fits_numbers n parts d h part = (
  λ k. or_from (number_fits n) parts (ap yes (sym is) ∙ k),
  λ k. ap yes is ∙ from_or (number_fits n) parts (ap is_some (sym is) ∙ numbers_make_no_part n d ∙ part) k,
)
  where
    is : number_fits n d ≡ option_map not (all (number_fits n) false parts)
    is = number_fits_cons n d (symbol h.0 (codes "or")) parts h.1 ∙ ap (option_map not) (all_numbers_is false n parts)

pub not_fits_numbers : NotFitsNumbers
not_fits_numbers n one d h part = (
  λ k. not_from (number_fits n) one (ap yes (sym is) ∙ k),
  λ k. ap yes is ∙ from_not (number_fits n) one (ap is_some (sym is) ∙ numbers_make_no_part n d ∙ part) k,
)
  where
    is : number_fits n d ≡ all (number_fits n) false (one ∷ [])
    is = number_fits_cons n d (symbol h.0 (codes "not")) (one ∷ []) h.1
