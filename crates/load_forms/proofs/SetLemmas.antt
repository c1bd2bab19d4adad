-- Import sets by the elements of their lists.
use Rattle.std.proofs.Common.{◌≡◌, ℕ, cond, List, [], ◌∷◌, refl, sym, ap, ◌∙◌}
use Rattle.std.specs.Prelude.{Option, Some, None}
use Rattle.base_data.specs.declared.span.Span.{Span}
use Rattle.base_data.specs.Datum.{PlainDatum, atom, symbol, pair, vector, nil, chain, elements, proper_elements}
use Rattle.load_forms.specs.All.{given}
use Rattle.load_forms.specs.Set.{import_set, inner_set, worded}
use Rattle.load_forms.specs.Words.{set_word}
use Rattle.load_forms.proofs.ListLemmas.{proper_parts, proper_cons, open_tail}

pub import_set_open : (file : List ℕ) (d : PlainDatum) → proper_elements d ≡ None → import_set file d ≡ None
import_set_open file (atom s x) h = refl
import_set_open file (symbol s x) h = refl
import_set_open file (pair s d e) h =
    ap (λ b. given (cond b (Some (elements e)) None) (λ ds. worded file (pair s d e) ds (inner_set file e) (set_word d))) (open_tail (pair s d e) h)
import_set_open file (vector s d) h = refl

pub import_set_nil : (file : List ℕ) (d : PlainDatum) → proper_elements d ≡ Some [] → import_set file d ≡ None
import_set_nil file (atom s x) h = refl
import_set_nil file (symbol s x) h = refl
import_set_nil file (pair s d e) h = let p = (proper_parts (pair s d e) [] h).1 in cc
import_set_nil file (vector s d) h = refl

inner_same : (file : List ℕ) (e : PlainDatum) (xs : List PlainDatum) → elements e ≡ xs → inner_set file e ≡ inner_set file (chain xs nil)
inner_same file (atom s x) [] h = refl
inner_same file (atom s x) (y ∷ ys) h = cc
inner_same file (symbol s x) [] h = refl
inner_same file (symbol s x) (y ∷ ys) h = cc
inner_same file (pair s d e) [] h = cc
inner_same file (pair s d e) (y ∷ ys) h = let same : d ≡ y = cc in ap (import_set file) same
inner_same file (vector s d) [] h = refl
inner_same file (vector s d) (y ∷ ys) h = cc

pub import_set_cons : (file : List ℕ) (d x : PlainDatum) (xs : List PlainDatum) → proper_elements d ≡ Some (x ∷ xs)
    → import_set file d ≡ worded file d xs (inner_set file (chain xs nil)) (set_word x)
import_set_cons file d x xs h =
    ap (import_set file) p.2
    ∙ ap (λ o. given o (λ ds. worded file (pair p.0 x p.1) ds (inner_set file p.1) (set_word x))) p.3
    ∙ ap (λ y. worded file y xs (inner_set file p.1) (set_word x)) (sym p.2)
    ∙ ap (λ i. worded file d xs i (set_word x)) (inner_same file p.1 xs (proper_parts p.1 xs p.3).1)
  where
    p : (s : Option Span) × (e : PlainDatum) × (d ≡ pair s x e) × (proper_elements e ≡ Some xs)
    p = proper_cons d x xs h
