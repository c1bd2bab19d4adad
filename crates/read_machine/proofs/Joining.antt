-- A list in the place of a tail is joined on.
use Rattle.std.proofs.Common.{◌≡◌, List, [], ◌∷◌, ◌++◌, Option, None, refl, sym, ap, ◌∙◌, IsTrue}
use Rattle.std.specs.Prelude.{◌&&◌}
use Rattle.base_data.specs.declared.span.Span.{Span}
use Rattle.base_data.specs.Datum.{PlainDatum, pair, spanned, chain, listed, is_tail}
use Rattle.base_data.specs.DatumView.{is_some_list}
use Rattle.read_machine.specs.Form.{as_tail, joined}

pub chain-append : (ds es : List PlainDatum) (t : PlainDatum) → chain (ds ++ es) t ≡ chain ds (chain es t)
chain-append [] es t = refl
chain-append (d ∷ ds) es t = ap (λ e. pair None d e) (chain-append ds es t)

as_tail-listed : (r : Option Span) (es : List PlainDatum) (t : PlainDatum) → IsTrue (is_some_list es && is_tail t) → as_tail (listed r es t) ≡ chain es t
as_tail-listed r [] t h = absurd (cc)
as_tail-listed r (e ∷ es) t h = refl

pub joined_list : (s r : Option Span) (ds more all : List PlainDatum) (t tail : PlainDatum) → all ≡ ds ++ more → listed r more t ≡ tail → IsTrue (is_some_list more && is_tail t)
    → spanned s (chain all t) ≡ joined s ds tail
joined_list s r ds more all t tail is seen h =
    ap (λ z. spanned s (chain z t)) is ∙ ap (spanned s) (chain-append ds more t)
    ∙ ap (λ z. spanned s (chain ds z)) (sym (as_tail-listed r more t h)) ∙ ap (λ z. joined s ds z) seen
