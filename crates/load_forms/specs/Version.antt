-- Whether a version fits a reference to it (R6RS 7.1).
use Rattle.std.specs.Prelude.{ℕ, Bool, true, false, not, ◌&&◌, List, [], ◌∷◌, Option, Some, None, is_some, option_map, nat_eq, nat_le, if◌then◌else◌, codes}
use Rattle.base_data.specs.Datum.{PlainDatum, atom, symbol, pair, vector, is_nil}
use Rattle.load_forms.specs.All.{given}
use Rattle.load_forms.specs.Name.{number}
use Rattle.load_forms.specs.Words.{is_word, connective_of}
use Rattle.load_forms.specs.declared.words.Connective.{Connective}
use Rattle.load_forms.specs.declared.words.Connective.TheVariants as c

-- both answers, where both are some
abbrev pub both : Option Bool → Option Bool → Option Bool
both None b = None
both (Some a) None = None
both (Some a) (Some b) = Some (a && b)

-- whether an answer is the one that is wanted
abbrev pub agrees : Bool → Bool → Bool
agrees wanted a = if wanted then a else not a

abbrev pub is_wanted : Bool → Option Bool → Option Bool
is_wanted wanted a = option_map (agrees wanted) a

-- the only element of a list
abbrev pub single : PlainDatum → Option PlainDatum
single (atom s a) = None
single (symbol s x) = None
single (pair s d e) = if is_nil e then Some d else None
single (vector s d) = None

-- the answer that `and`, `or` and `not` ask of their parts
abbrev pub wants : Connective → Bool
wants c.And = true
wants c.Or = false
wants c.Not = false

-- what they make of whether all parts give the answer that they ask; `not` has one part
abbrev pub joined : PlainDatum → Option Bool → Connective → Option Bool
joined parts answer c.And = answer
joined parts answer c.Or = option_map not answer
joined parts answer c.Not = given (single parts) (λ d. answer)

-- a number is compared with the number behind `>=` or `<=`
abbrev pub by_sign : ℕ → PlainDatum → ℕ → Option Bool
by_sign n sign m = if is_word (codes ">=") sign then Some (nat_le m n)
    else if is_word (codes "<=") sign then Some (nat_le n m)
    else None

abbrev pub compared : ℕ → PlainDatum → PlainDatum → Option Bool
compared n sign parts = given (single parts) (λ d. given (number d) (by_sign n sign))

abbrev pub otherwise : Option Connective → Option Bool → (Connective → Option Bool) → Option Bool
otherwise None a f = a
otherwise (Some c) a f = f c

abbrev pub at_end : Bool → Option Bool
at_end true = Some true
at_end false = None

-- where the version has no more numbers the part doesn't fit
abbrev pub at_place : List ℕ → (ℕ → Option Bool) → Option Bool
at_place [] f = option_map (λ b. false) (f 0)
at_place (n ∷ v) f = f n

abbrev pub further : List ℕ → List ℕ
further [] = []
further (n ∷ v) = v

-- whether a number fits a part of a reference; none where the datum is no such part
abbrev mutual
  pub number_fits : ℕ → PlainDatum → Option Bool
  number_fits n (atom s a) = option_map (nat_eq n) (number (atom s a))
  number_fits n (symbol s x) = None
  number_fits n (pair s d e) = otherwise (connective_of d) (compared n d e) (λ w. joined e (all_numbers (wants w) n e) w)
  number_fits n (vector s d) = None

  pub all_numbers : Bool → ℕ → PlainDatum → Option Bool
  all_numbers wanted n (atom s a) = at_end (is_nil (atom s a))
  all_numbers wanted n (symbol s x) = None
  all_numbers wanted n (pair s d e) = both (is_wanted wanted (number_fits n d)) (all_numbers wanted n e)
  all_numbers wanted n (vector s d) = None

-- whether the first numbers of a version fit the parts of a list
abbrev pub first_fit : List ℕ → PlainDatum → Option Bool
first_fit v (atom s a) = at_end (is_nil (atom s a))
first_fit v (symbol s x) = None
first_fit v (pair s d e) = both (at_place v (λ n. number_fits n d)) (first_fit (further v) e)
first_fit v (vector s d) = None

-- whether a version fits a reference; none where the datum is no reference
abbrev mutual
  pub fits : List ℕ → PlainDatum → Option Bool
  fits v (atom s a) = at_end (is_nil (atom s a))
  fits v (symbol s x) = None
  fits v (pair s d e) = otherwise (connective_of d) (first_fit v (pair s d e)) (λ w. joined e (all_fit (wants w) v e) w)
  fits v (vector s d) = None

  pub all_fit : Bool → List ℕ → PlainDatum → Option Bool
  all_fit wanted v (atom s a) = at_end (is_nil (atom s a))
  all_fit wanted v (symbol s x) = None
  all_fit wanted v (pair s d e) = both (is_wanted wanted (fits v d)) (all_fit wanted v e)
  all_fit wanted v (vector s d) = None

abbrev pub is_reference : PlainDatum → Bool
is_reference d = is_some (fits [] d)

abbrev pub yes : Option Bool → Bool
yes None = false
yes (Some b) = b

abbrev pub version_fits : List ℕ → PlainDatum → Bool
version_fits v d = yes (fits v d)
