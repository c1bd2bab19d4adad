-- How the logic tells two data apart: as the steps that build one on a stack.
use Rattle.std.specs.Prelude.{◌≡◌, ℕ, List, [], ◌∷◌, Option, refl, ◌⊎◌}
use Rattle.std.proofs.Common.{◌∙◌, ap, inl, inr}
use Rattle.std.specs.Coded.{Coded, code_by, coded×, coded⊎, coded_ℕ, coded_list, coded_option}
use Rattle.base_data.specs.declared.atom.Atom.{Atom}
use Rattle.base_data.specs.declared.span.Span.{Span}
use Rattle.base_data.specs.contracts.atom.Atom as atoms
use Rattle.base_data.specs.contracts.span.Span as spans
use Rattle.base_data.specs.Datum.{PlainDatum, atom, symbol, pair, vector, nil}

abbrev coded_span : Coded (Option Span)
coded_span = coded_option spans.the_row.coded

-- puts an atom or a symbol on the stack, joins the two topmost, or makes a vector of the topmost
pub data DatumStep : Type 0 where
  push_atom : Option Span → Atom → DatumStep
  push_symbol : Option Span → List ℕ → DatumStep
  join : Option Span → DatumStep
  close : Option Span → DatumStep

abbrev Parts : Type 0
Parts = (Option Span × Atom) ⊎ ((Option Span × List ℕ) ⊎ (Option Span ⊎ Option Span))

abbrev to_parts : DatumStep → Parts
to_parts (push_atom s a) = inl (s, a)
to_parts (push_symbol s x) = inr (inl (s, x))
to_parts (join s) = inr (inr (inl s))
to_parts (close s) = inr (inr (inr s))

abbrev of_parts : Parts → DatumStep
of_parts (inl p) = push_atom p.0 p.1
of_parts (inr (inl p)) = push_symbol p.0 p.1
of_parts (inr (inr (inl s))) = join s
of_parts (inr (inr (inr s))) = close s

pub of_parts-to_parts : (x : DatumStep) → of_parts (to_parts x) ≡ x
of_parts-to_parts (push_atom s a) = refl
of_parts-to_parts (push_symbol s x) = refl
of_parts-to_parts (join s) = refl
of_parts-to_parts (close s) = refl

abbrev coded_step : Coded DatumStep
coded_step =
    code_by Parts
    (coded⊎ (coded× coded_span atoms.the_row.coded) (coded⊎ (coded× coded_span (coded_list coded_ℕ)) (coded⊎ coded_span coded_span)))
    to_parts of_parts of_parts-to_parts

-- the steps that put d on the stack, and then the others
abbrev steps : PlainDatum → List DatumStep → List DatumStep
steps (atom s a) r = push_atom s a ∷ r
steps (symbol s x) r = push_symbol s x ∷ r
steps (pair s d e) r = steps d (steps e (join s ∷ r))
steps (vector s d) r = steps d (close s ∷ r)

abbrev step : DatumStep → List PlainDatum → List PlainDatum
step (push_atom s a) st = atom s a ∷ st
step (push_symbol s x) st = symbol s x ∷ st
step (join s) (e ∷ (d ∷ st)) = pair s d e ∷ st
step (join s) _ = []
step (close s) (d ∷ st) = vector s d ∷ st
step (close s) _ = []

abbrev build : List DatumStep → List PlainDatum → List PlainDatum
build [] st = st
build (x ∷ xs) st = build xs (step x st)

abbrev top : List PlainDatum → PlainDatum
top [] = nil
top (d ∷ st) = d

pub build-steps : (d : PlainDatum) (r : List DatumStep) (st : List PlainDatum) → build (steps d r) st ≡ build r (d ∷ st)
build-steps (atom s a) r st = refl
build-steps (symbol s x) r st = refl
build-steps (pair s d e) r st = build-steps d (steps e (join s ∷ r)) st ∙ build-steps e (join s ∷ r) (d ∷ st)
build-steps (vector s d) r st = build-steps d (close s ∷ r) st

abbrev pub datum_code : Coded PlainDatum
datum_code = code_by (List DatumStep) (coded_list coded_step) (λ d. steps d []) (λ xs. top (build xs [])) (λ d. ap top (build-steps d [] []))
