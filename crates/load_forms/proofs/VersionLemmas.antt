-- The answers of lists of version references.
use Rattle.std.proofs.Common.{◌≡◌, ℕ, ◌<◌, ◌≤◌, arith, Bool, true, false, List, [], ◌∷◌, length, refl, sym, ap, ◌∙◌}
use Rattle.std.specs.Prelude.{Option, Some, None, nat_eq, option_map, if◌then◌else◌}
use Rattle.base_data.specs.declared.span.Span.{Span}
use Rattle.base_data.specs.Datum.{PlainDatum, atom, symbol, pair, vector, nil, chain, is_nil, tail_of, proper_elements}
use Rattle.load_forms.specs.All.{given}
use Rattle.load_forms.specs.Name.{number}
use Rattle.load_forms.specs.Words.{connective_of}
use Rattle.load_forms.specs.Version.{both, wants, is_wanted, single, joined, by_sign, compared, otherwise, at_end, at_place, further, number_fits, all_numbers, first_fit, fits, all_fit}
use Rattle.load_forms.specs.declared.words.Connective.{Connective}
use Rattle.load_forms.specs.declared.words.Connective.TheVariants as c
use Rattle.load_forms.proofs.ListLemmas.{chain_same, proper_parts, proper_same, proper_cons, open_tail, nil_tail}

both_none : (a : Option Bool) → both a None ≡ None
both_none None = refl
both_none (Some a) = refl

given_none : (o : Option PlainDatum) → given {B = Bool} o (λ d. None) ≡ None
given_none None = refl
given_none (Some d) = refl

joined_none : (parts : PlainDatum) (w : Connective) → joined parts None w ≡ None
joined_none parts c.And = refl
joined_none parts c.Or = refl
joined_none parts c.Not = given_none (single parts)

pub single_none : (xs : List PlainDatum) → length xs < 1 → single (chain xs nil) ≡ None
single_none [] h = refl
single_none (x ∷ xs) h = absurd (omega arith)

pub single_many : (xs : List PlainDatum) → 2 ≤ length xs → single (chain xs nil) ≡ None
single_many [] h = refl
single_many (x ∷ []) h = absurd (omega arith)
single_many (x ∷ y ∷ ys) h = refl

-- Where the datum is no list that ends in the empty list there is no answer.

single_open : (d : PlainDatum) → is_nil (tail_of d) ≡ false → single d ≡ None
single_open (atom s x) h = refl
single_open (symbol s x) h = refl
single_open (pair s d e) h = go (is_nil e) refl
  where
    go : (b : Bool) → is_nil e ≡ b → (if b then Some d else None) ≡ None
    go true k = let ended : is_nil (tail_of e) ≡ true = nil_tail e k in cc
    go false k = refl
single_open (vector s d) h = refl

first_fit_open : (v : List ℕ) (d : PlainDatum) → is_nil (tail_of d) ≡ false → first_fit v d ≡ None
first_fit_open v (atom s x) h = ap at_end h
first_fit_open v (symbol s x) h = refl
first_fit_open v (pair s d e) h = ap (both (at_place v (λ n. number_fits n d))) (first_fit_open (further v) e h) ∙ both_none (at_place v (λ n. number_fits n d))
first_fit_open v (vector s d) h = refl

all_fit_open : (wanted : Bool) (v : List ℕ) (d : PlainDatum) → is_nil (tail_of d) ≡ false → all_fit wanted v d ≡ None
all_fit_open wanted v (atom s x) h = ap at_end h
all_fit_open wanted v (symbol s x) h = refl
all_fit_open wanted v (pair s d e) h = ap (both (is_wanted wanted (fits v d))) (all_fit_open wanted v e h) ∙ both_none (is_wanted wanted (fits v d))
all_fit_open wanted v (vector s d) h = refl

all_numbers_open : (wanted : Bool) (n : ℕ) (d : PlainDatum) → is_nil (tail_of d) ≡ false → all_numbers wanted n d ≡ None
all_numbers_open wanted n (atom s x) h = ap at_end h
all_numbers_open wanted n (symbol s x) h = refl
all_numbers_open wanted n (pair s d e) h = ap (both (is_wanted wanted (number_fits n d))) (all_numbers_open wanted n e h) ∙ both_none (is_wanted wanted (number_fits n d))
all_numbers_open wanted n (vector s d) h = refl

pub fits_open : (v : List ℕ) (d : PlainDatum) → proper_elements d ≡ None → fits v d ≡ None
fits_open v (atom s x) h = ap at_end (open_tail (atom s x) h)
fits_open v (symbol s x) h = refl
fits_open v (pair s d e) h = go (connective_of d)
  where
    is_open : is_nil (tail_of e) ≡ false
    is_open = open_tail (pair s d e) h

    go : (o : Option Connective) → otherwise o (first_fit v (pair s d e)) (λ w. joined e (all_fit (wants w) v e) w) ≡ None
    go None = first_fit_open v (pair s d e) is_open
    go (Some w) = ap (λ r. joined e r w) (all_fit_open (wants w) v e is_open) ∙ joined_none e w
fits_open v (vector s d) h = refl

pub number_fits_open : (n : ℕ) (d : PlainDatum) → number d ≡ None → proper_elements d ≡ None → number_fits n d ≡ None
number_fits_open n (atom s x) none h = ap (option_map (nat_eq n)) none
number_fits_open n (symbol s x) none h = refl
number_fits_open n (pair s d e) none h = go (connective_of d)
  where
    is_open : is_nil (tail_of e) ≡ false
    is_open = open_tail (pair s d e) h

    go : (o : Option Connective) → otherwise o (compared n d e) (λ w. joined e (all_numbers (wants w) n e) w) ≡ None
    go None = ap (λ o. given o (λ x. given (number x) (by_sign n d))) (single_open e is_open)
    go (Some w) = ap (λ r. joined e r w) (all_numbers_open (wants w) n e is_open) ∙ joined_none e w
number_fits_open n (vector s d) none h = refl

-- The empty list is a reference, and no part of one.

pub fits_nil : (v : List ℕ) (d : PlainDatum) → proper_elements d ≡ Some [] → fits v d ≡ Some true
fits_nil v (atom s x) h = ap at_end (proper_parts (atom s x) [] h).0
fits_nil v (symbol s x) h = let p = (proper_parts (symbol s x) [] h).0 in cc
fits_nil v (pair s d e) h = let p = (proper_parts (pair s d e) [] h).1 in cc
fits_nil v (vector s d) h = let p = (proper_parts (vector s d) [] h).0 in cc

pub number_fits_nil : (n : ℕ) (d : PlainDatum) → number d ≡ None → proper_elements d ≡ Some [] → number_fits n d ≡ None
number_fits_nil n (atom s x) none h = ap (option_map (nat_eq n)) none
number_fits_nil n (symbol s x) none h = refl
number_fits_nil n (pair s d e) none h = let p = (proper_parts (pair s d e) [] h).1 in cc
number_fits_nil n (vector s d) none h = refl

-- A list is told by its elements.

first_same : (v : List ℕ) (d : PlainDatum) (ds : List PlainDatum) → proper_elements d ≡ Some ds → first_fit v d ≡ first_fit v (chain ds nil)
first_same v d ds h =
    let f : PlainDatum → List ℕ → Option Bool = λ e w. first_fit w e in
    ap (λ g. g v) (proper_same f (chain_same f (λ e g w. both (at_place w (λ n. number_fits n e)) (g (further w))) (λ s e r. refl) (λ s. refl)) d ds h)

all_same : (wanted : Bool) (v : List ℕ) (d : PlainDatum) (ds : List PlainDatum) → proper_elements d ≡ Some ds → all_fit wanted v d ≡ all_fit wanted v (chain ds nil)
all_same wanted v = proper_same (all_fit wanted v) (chain_same (all_fit wanted v) (λ e r. both (is_wanted wanted (fits v e)) r) (λ s e r. refl) (λ s. refl))

numbers_same : (wanted : Bool) (n : ℕ) (d : PlainDatum) (ds : List PlainDatum) → proper_elements d ≡ Some ds → all_numbers wanted n d ≡ all_numbers wanted n (chain ds nil)
numbers_same wanted n = proper_same (all_numbers wanted n) (chain_same (all_numbers wanted n) (λ e r. both (is_wanted wanted (number_fits n e)) r) (λ s e r. refl) (λ s. refl))

single_same : (d : PlainDatum) (ds : List PlainDatum) → proper_elements d ≡ Some ds → single d ≡ single (chain ds nil)
single_same d ds h =
    let f : PlainDatum → Bool × Option PlainDatum = λ e. (is_nil e, single e) in
    let step : PlainDatum → Bool × Option PlainDatum → Bool × Option PlainDatum = λ e r. (false, if r.0 then Some e else None) in
    ap (λ (r : Bool × Option PlainDatum). r.1) (proper_same f (chain_same f step (λ s e r. refl) (λ s. refl)) d ds h)

joined_same : (w : Connective) (d : PlainDatum) (ds : List PlainDatum) (r : Option Bool) → proper_elements d ≡ Some ds → joined d r w ≡ joined (chain ds nil) r w
joined_same c.And d ds r h = refl
joined_same c.Or d ds r h = refl
joined_same c.Not d ds r h = ap (λ o. given o (λ x. r)) (single_same d ds h)

pub fits_cons : (v : List ℕ) (d x : PlainDatum) (xs : List PlainDatum) → proper_elements d ≡ Some (x ∷ xs)
    → fits v d ≡ otherwise (connective_of x) (first_fit v (chain (x ∷ xs) nil)) (λ w. joined (chain xs nil) (all_fit (wants w) v (chain xs nil)) w)
fits_cons v d x xs h = ap (fits v) p.2 ∙ go (connective_of x)
  where
    p : (s : Option Span) × (e : PlainDatum) × (d ≡ pair s x e) × (proper_elements e ≡ Some xs)
    p = proper_cons d x xs h

    go : (o : Option Connective) → otherwise o (first_fit v (pair p.0 x p.1)) (λ w. joined p.1 (all_fit (wants w) v p.1) w)
        ≡ otherwise o (first_fit v (chain (x ∷ xs) nil)) (λ w. joined (chain xs nil) (all_fit (wants w) v (chain xs nil)) w)
    go None = ap (first_fit v) (sym p.2) ∙ first_same v d (x ∷ xs) h
    go (Some w) = ap (λ r. joined p.1 r w) (all_same (wants w) v p.1 xs p.3) ∙ joined_same w p.1 xs (all_fit (wants w) v (chain xs nil)) p.3

pub number_fits_cons : (n : ℕ) (d x : PlainDatum) (xs : List PlainDatum) → proper_elements d ≡ Some (x ∷ xs)
    → number_fits n d ≡ otherwise (connective_of x) (compared n x (chain xs nil)) (λ w. joined (chain xs nil) (all_numbers (wants w) n (chain xs nil)) w)
number_fits_cons n d x xs h = ap (number_fits n) p.2 ∙ go (connective_of x)
  where
    p : (s : Option Span) × (e : PlainDatum) × (d ≡ pair s x e) × (proper_elements e ≡ Some xs)
    p = proper_cons d x xs h

    go : (o : Option Connective) → otherwise o (compared n x p.1) (λ w. joined p.1 (all_numbers (wants w) n p.1) w)
        ≡ otherwise o (compared n x (chain xs nil)) (λ w. joined (chain xs nil) (all_numbers (wants w) n (chain xs nil)) w)
    go None = ap (λ o. given o (λ y. given (number y) (by_sign n x))) (single_same p.1 xs p.3)
    go (Some w) = ap (λ r. joined p.1 r w) (numbers_same (wants w) n p.1 xs p.3) ∙ joined_same w p.1 xs (all_numbers (wants w) n (chain xs nil)) p.3
