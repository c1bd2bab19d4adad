-- The text of a list in memory, which has its elements and its tail apart.
use Rattle.std.proofs.Common.{◌≡◌, ℕ, zero, suc, ◌<◌, ◌≤◌, List, [], ◌∷◌, ◌++◌, Option, length, get_or, arith, refl, sym, ap, ◌∙◌, append_assoc}
use Rattle.std.proofs.lemmas.List.{append-nil}
use Rattle.std.specs.Prelude.{IsTrue, ◌&&◌, codes}
use Rattle.base_data.specs.declared.span.Span.{Span}
use Rattle.base_data.specs.declared.atom.Atom.TheVariants as a
use Rattle.base_data.specs.Datum.{PlainDatum, atom, symbol, pair, vector, chain, listed, nil, is_tail, datum_size}
use Rattle.base_data.specs.DatumView.{is_some_list}
use Rattle.check_grammar.specs.Text.{text_of, within, behind}
use Rattle.check_grammar.specs.Elements.{tail_text, elements_text, further_elements}

-- a tail is no list
tail_rest : (t : PlainDatum) → IsTrue (is_tail t) → behind t ≡ tail_text t
tail_rest (atom s a.Nil) h = refl
tail_rest (atom s (a.Bool b)) h = refl
tail_rest (atom s (a.Int z)) h = refl
tail_rest (atom s (a.Spelt x)) h = refl
tail_rest (atom s (a.Char c)) h = refl
tail_rest (atom s (a.Str x)) h = refl
tail_rest (atom s (a.Bytes ns)) h = refl
tail_rest (symbol s x) h = refl
tail_rest (pair s d e) h = absurd (cc)
tail_rest (vector s d) h = refl

rest_chain : (ds : List PlainDatum) (t : PlainDatum) → behind (chain ds t) ≡ further_elements ds ++ behind t
rest_chain [] t = refl
rest_chain (d ∷ ds) t = ap (λ text. (codes " " ++ text_of d) ++ text) (rest_chain ds t) ∙ sym (append_assoc (codes " " ++ text_of d) (further_elements ds) (behind t))

pub text_of-listed : (s : Option Span) (ds : List PlainDatum) (t : PlainDatum) → IsTrue (is_some_list ds && is_tail t)
    → text_of (listed s ds t) ≡ codes "(" ++ (elements_text ds ++ tail_text t) ++ codes ")"
text_of-listed s [] t h = absurd (cc)
text_of-listed s (d ∷ ds) t h =
    ap (λ text. codes "(" ++ (text_of d ++ text) ++ codes ")") (rest_chain ds t ∙ ap (λ text. further_elements ds ++ text) (tail_rest t h))
    ∙ ap (λ text. codes "(" ++ text ++ codes ")") (sym (append_assoc (text_of d) (further_elements ds) (tail_text t)))

pub within-chain : (ds : List PlainDatum) → within (chain ds nil) ≡ elements_text ds
within-chain [] = refl
within-chain (d ∷ ds) = ap (λ text. text_of d ++ text) (rest_chain ds nil ∙ append-nil (further_elements ds))

size_some : (d : PlainDatum) → 1 ≤ datum_size d
size_some (atom s a) = omega arith
size_some (symbol s x) = omega arith
size_some (pair s d e) = omega arith
size_some (vector s d) = omega arith

chain_least : (ds : List PlainDatum) (t : PlainDatum) → datum_size (chain ds nil) ≤ datum_size (chain ds t)
chain_least [] t = size_some t
chain_least (d ∷ ds) t = omega (arith, chain_least ds t)

-- the elements of a list are no larger than it
pub listed-items : (s : Option Span) (ds : List PlainDatum) (t d : PlainDatum) → IsTrue (is_some_list ds && is_tail t) → listed s ds t ≡ d → datum_size (chain ds nil) ≤ datum_size d
listed-items s [] t d h is = absurd (cc)
listed-items s (e ∷ es) t d h is = rw (← is) (omega (arith, chain_least es t))

-- an element is smaller than all elements together
pub item_below : (ds : List PlainDatum) (i : ℕ) (d : PlainDatum) → i < length ds → datum_size (get_or ds i d) < datum_size (chain ds nil)
item_below [] i d h = absurd (omega arith)
item_below (e ∷ es) zero d h = omega (arith, size_some (chain es nil))
item_below (e ∷ es) (suc i) d h = omega (arith, item_below es i d (omega arith))
