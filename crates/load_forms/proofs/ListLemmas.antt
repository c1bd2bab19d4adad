-- Lists that end in the empty list.
use Rattle.std.proofs.Common.{◌≡◌, ℕ, zero, suc, ◌+◌, ◌<◌, ◌≤◌, Bool, true, false, List, [], ◌∷◌, length, get_or, arith, refl, sym, ap, ◌∙◌, cond}
use Rattle.std.specs.Prelude.{Option, Some, None, IsTrue, ◌&&◌, if◌then◌else◌}
use Rattle.base_data.specs.declared.span.Span.{Span}
use Rattle.base_data.specs.declared.atom.Atom.{Atom}
use Rattle.base_data.specs.declared.atom.Atom.TheVariants as a
use Rattle.base_data.specs.Datum.{PlainDatum, atom, symbol, pair, vector, nil, chain, is_nil, listed, is_tail, elements, tail_of, proper_elements, datum_size}
use Rattle.base_data.specs.DatumView.{is_some_list}

pub nil_atom : (s : Option Span) (x : Atom) → is_nil (atom s x) ≡ true → x ≡ a.Nil
nil_atom s a.Nil h = refl
nil_atom s (a.Bool b) h = cc
nil_atom s (a.Int z) h = cc
nil_atom s (a.Spelt x) h = cc
nil_atom s (a.Char c) h = cc
nil_atom s (a.Str x) h = cc
nil_atom s (a.Bytes b) h = cc

-- what goes over the elements doesn't see the spans of the rests
module _ {R : Type 0} (f : PlainDatum → R) (step : PlainDatum → R → R)
    (on : (s : Option Span) (d e : PlainDatum) → f (pair s d e) ≡ step d (f e)) (end : (s : Option Span) → f (atom s a.Nil) ≡ f nil) where
  pub chain_same : (d : PlainDatum) → is_nil (tail_of d) ≡ true → f d ≡ f (chain (elements d) nil)
  chain_same (atom s x) h = ap (λ y. f (atom s y)) (nil_atom s x h) ∙ end s
  chain_same (symbol s x) h = cc
  chain_same (pair s d e) h = on s d e ∙ ap (step d) (chain_same e h) ∙ sym (on None d (chain (elements e) nil))
  chain_same (vector s d) h = cc

pub proper_parts : (d : PlainDatum) (ds : List PlainDatum) → proper_elements d ≡ Some ds → (is_nil (tail_of d) ≡ true) × (elements d ≡ ds)
proper_parts d ds h = by (is_nil (tail_of d)) refl h
  where
    by : (b : Bool) → is_nil (tail_of d) ≡ b → (if b then Some (elements d) else None) ≡ Some ds → (is_nil (tail_of d) ≡ true) × (elements d ≡ ds)
    by true e h = (e, cc)
    by false e h = cc

pub proper_same : {R : Type 0} (f : PlainDatum → R) → ((d : PlainDatum) → is_nil (tail_of d) ≡ true → f d ≡ f (chain (elements d) nil))
    → (d : PlainDatum) (ds : List PlainDatum) → proper_elements d ≡ Some ds → f d ≡ f (chain ds nil)
proper_same f same d ds h = let p = proper_parts d ds h in same d p.0 ∙ ap (λ es. f (chain es nil)) p.1

pub size_same : (d : PlainDatum) (ds : List PlainDatum) → proper_elements d ≡ Some ds → datum_size d ≡ datum_size (chain ds nil)
size_same d ds h = proper_same datum_size (chain_same datum_size (λ d n. suc (datum_size d + n)) (λ s d e. refl) (λ s. refl)) d ds h

-- the first element of a list, and the rest
pub proper_cons : (d x : PlainDatum) (xs : List PlainDatum) → proper_elements d ≡ Some (x ∷ xs) → (s : Option Span) × (e : PlainDatum) × (d ≡ pair s x e) × (proper_elements e ≡ Some xs)
proper_cons (atom s y) x xs h = let p = (proper_parts (atom s y) (x ∷ xs) h).1 in cc
proper_cons (symbol s y) x xs h = cc
proper_cons (pair s d e) x xs h =
    let p = proper_parts (pair s d e) (x ∷ xs) h in
    let first : d ≡ x = cc in
    let rest : elements e ≡ xs = cc in
    (s, e, ap (λ y. pair s y e) first, ap (λ b. cond {A = Option (List PlainDatum)} b (Some (elements e)) None) p.0 ∙ ap Some rest)
proper_cons (vector s y) x xs h = cc

-- a datum that has no elements as a list doesn't end in the empty list
pub open_tail : (d : PlainDatum) → proper_elements d ≡ None → is_nil (tail_of d) ≡ false
open_tail d h = by (is_nil (tail_of d)) refl h
  where
    by : (b : Bool) → is_nil (tail_of d) ≡ b → (if b then Some (elements d) else None) ≡ None → is_nil (tail_of d) ≡ false
    by true e k = cc
    by false e k = e

pub nil_tail : (d : PlainDatum) → is_nil d ≡ true → is_nil (tail_of d) ≡ true
nil_tail (atom s x) h = h
nil_tail (symbol s x) h = cc
nil_tail (pair s d e) h = cc
nil_tail (vector s d) h = cc

-- Sizes.

size_some : (d : PlainDatum) → 1 ≤ datum_size d
size_some (atom s a) = omega arith
size_some (symbol s x) = omega arith
size_some (pair s d e) = omega arith
size_some (vector s d) = omega arith

chain_least : (ds : List PlainDatum) (t : PlainDatum) → datum_size (chain ds nil) ≤ datum_size (chain ds t)
chain_least [] t = size_some t
chain_least (d ∷ ds) t = omega (arith, chain_least ds t)

-- the elements of a list are no larger than it
pub listed_items : (s : Option Span) (ds : List PlainDatum) (t d : PlainDatum) → IsTrue (is_some_list ds && is_tail t) → listed s ds t ≡ d → datum_size (chain ds nil) ≤ datum_size d
listed_items s [] t d h is = absurd (cc)
listed_items s (e ∷ es) t d h is = rw (← is) (omega (arith, chain_least es t))

-- an element is smaller than all elements together
pub item_below : (ds : List PlainDatum) (i : ℕ) (d : PlainDatum) → i < length ds → datum_size (get_or ds i d) < datum_size (chain ds nil)
item_below [] i d h = absurd (omega arith)
item_below (e ∷ es) zero d h = omega (arith, size_some (chain es nil))
item_below (e ∷ es) (suc i) d h = omega (arith, item_below es i d (omega arith))

-- what stands behind the first element of a list
pub rest_below : (d x : PlainDatum) (xs : List PlainDatum) → proper_elements d ≡ Some (x ∷ xs) → datum_size (chain xs nil) < datum_size d
rest_below d x xs h = let e = size_same d (x ∷ xs) h in omega arith
