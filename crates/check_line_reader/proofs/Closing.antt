-- A list that is an element of another one ends.
use Rattle.std.proofs.Common.{◌≡◌, ℕ, true, List, ◌∷◌, Ok, refl}
use Rattle.base_data.specs.Datum.{PlainDatum, nil}
use Rattle.check_line_reader.specs.Progress.{as_form, with_element}
use Rattle.check_line_reader.specs.declared.progress.OpenList.{OpenList}
use Rattle.read_lexer.specs.declared.token.Bracket.{Bracket}
use Rattle.read_machine.specs.Extent.{span_at, through}
use Rattle.read_machine.specs.Form.{joined}
use Rattle.read_machine.specs.Step.{state, same_bracket, closed}
use Rattle.read_machine.specs.declared.extent.Extent.{Extent}
use Rattle.read_machine.specs.declared.partial.Partial.{Partial}

closes : (file : List ℕ) (l outer : OpenList) (rest : List Partial) (done : List PlainDatum) (b : Bracket) (at : Extent) → same_bracket b l.bracket ≡ true
    → closed file (as_form l ∷ (as_form outer ∷ rest)) done b at ≡ Ok (state (as_form (with_element outer (joined (span_at file (through l.opening at)) l.items nil)) ∷ rest) done)
closes file l outer rest done b at same = rw same refl

pub closing : (file : List ℕ) (l inner outer mid after : OpenList) (f : Partial) (stack rest : List Partial) (done : List PlainDatum) (b : Bracket) (at all : Extent) (d : PlainDatum)
    → same_bracket b l.bracket ≡ true → stack ≡ f ∷ rest → f ≡ as_form outer → inner ≡ l → mid ≡ outer → all ≡ through inner.opening at → d ≡ joined (span_at file all) inner.items nil → after ≡ with_element mid d
    → closed file (as_form l ∷ stack) done b at ≡ Ok (state (as_form after ∷ rest) done)
closing file l inner outer mid after f stack rest done b at all d same s g v m t j p = rw (s, g, p, m, j, t, v) (closes file l outer rest done b at same)
