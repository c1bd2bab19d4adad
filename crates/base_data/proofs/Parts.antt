-- What the parts of a list in memory are.
use Rattle.std.proofs.Common.{◌≡◌, true, false, List, [], ◌∷◌, Option, Some, None, refl, ap}
use Rattle.std.specs.Prelude.{IsTrue, ◌&&◌, slice_get}
use Rattle.base_data.specs.declared.span.Span.{Span}
use Rattle.base_data.specs.Datum.{PlainDatum, atom, symbol, pair, vector, chain, listed, is_tail, is_nil, elements, tail_of, first_of, atom_of, symbol_text, proper_elements, span_of}
use Rattle.base_data.specs.DatumView.{is_some_list}

no_elements : (t : PlainDatum) → IsTrue (is_tail t) → elements t ≡ []
no_elements (atom s a) h = refl
no_elements (symbol s x) h = refl
no_elements (pair s d e) h = cc
no_elements (vector s d) h = refl

own_tail : (t : PlainDatum) → IsTrue (is_tail t) → tail_of t ≡ t
own_tail (atom s a) h = refl
own_tail (symbol s x) h = refl
own_tail (pair s d e) h = cc
own_tail (vector s d) h = refl

elements_chain : (ds : List PlainDatum) (t : PlainDatum) → IsTrue (is_tail t) → elements (chain ds t) ≡ ds
elements_chain [] t h = no_elements t h
elements_chain (d ∷ ds) t h = ap (λ xs. d ∷ xs) (elements_chain ds t h)

tail_chain : (ds : List PlainDatum) (t : PlainDatum) → IsTrue (is_tail t) → tail_of (chain ds t) ≡ t
tail_chain [] t h = own_tail t h
tail_chain (d ∷ ds) t h = tail_chain ds t h

pub elements-listed : (s : Option Span) (ds : List PlainDatum) (t : PlainDatum) → IsTrue (is_some_list ds && is_tail t) → elements (listed s ds t) ≡ ds
elements-listed s [] t h = cc
elements-listed s (d ∷ ds) t h = ap (λ xs. d ∷ xs) (elements_chain ds t h)

pub tail_of-listed : (s : Option Span) (ds : List PlainDatum) (t : PlainDatum) → IsTrue (is_some_list ds && is_tail t) → tail_of (listed s ds t) ≡ t
tail_of-listed s [] t h = cc
tail_of-listed s (d ∷ ds) t h = tail_chain ds t h

pub symbol_text-listed : (s : Option Span) (ds : List PlainDatum) (t : PlainDatum) → IsTrue (is_some_list ds && is_tail t) → symbol_text (listed s ds t) ≡ None
symbol_text-listed s [] t h = cc
symbol_text-listed s (d ∷ ds) t h = refl

pub span_of-listed : (s : Option Span) (ds : List PlainDatum) (t : PlainDatum) → IsTrue (is_some_list ds && is_tail t) → span_of (listed s ds t) ≡ s
span_of-listed s [] t h = cc
span_of-listed s (d ∷ ds) t h = refl

pub proper-ended : (s : Option Span) (ds : List PlainDatum) (t : PlainDatum) → IsTrue (is_some_list ds && is_tail t) → is_nil t ≡ true → proper_elements (listed s ds t) ≡ Some ds
proper-ended s ds t h e = rw (tail_of-listed s ds t h, e, elements-listed s ds t h) refl

pub proper-open : (s : Option Span) (ds : List PlainDatum) (t : PlainDatum) → IsTrue (is_some_list ds && is_tail t) → is_nil t ≡ false → proper_elements (listed s ds t) ≡ None
proper-open s ds t h e = rw (tail_of-listed s ds t h, e) refl

pub atom_of-listed : (s : Option Span) (ds : List PlainDatum) (t : PlainDatum) → IsTrue (is_some_list ds && is_tail t) → atom_of (listed s ds t) ≡ None
atom_of-listed s [] t h = cc
atom_of-listed s (d ∷ ds) t h = refl

pub first_of-listed : (s : Option Span) (ds : List PlainDatum) (t : PlainDatum) → IsTrue (is_some_list ds && is_tail t) → first_of (listed s ds t) ≡ slice_get ds 0
first_of-listed s [] t h = cc
first_of-listed s (d ∷ ds) t h = refl
