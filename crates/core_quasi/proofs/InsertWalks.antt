-- Walking along the elements of a list or vector of a `quasisyntax` template.
use Rattle.std.proofs.Common.{◌≡◌, ℕ, List, ◌∷◌, map, Ok, ap, sym, ◌∙◌}
use Rattle.std.specs.Prelude.{Result}
use Rattle.base_data.specs.Gives.{BareStops}
use Rattle.base_data.specs.declared.fault.Bare.{Bare}
use Rattle.base_data.specs.declared.fault.BareStop.{BareStop}
use Rattle.base_data.specs.declared.fault.BareStop.TheVariants as stops
use Rattle.stx_tree.specs.Tree.{Tree}
use Rattle.core_quasi.specs.QuasiSyntax.{Looked, then_insert, element, step, walked}
use Rattle.core_quasi.specs.declared.quasi_syntax.Insert.{Insert}
use Rattle.core_quasi.specs.declared.quasi_syntax.QuasiRow.{QuasiRow}

module _ (w : Looked) (n : ℕ) (row : QuasiRow) (is : List Insert) (left : List Tree) (t : Tree) (ts : List Tree) (total : Result (QuasiRow × List Insert) Bare) (first : left ≡ t ∷ ts) where
  here : walked w n row (map (element w) left) is ≡ then_insert (step w n row (element w t) is) (λ r. walked w n r (map (element w) ts))
  here = ap (λ us. walked w n row (map (element w) us) is) first

  -- an element gave forms: the rest goes on from there
  pub row_on : (more : QuasiRow) (js : List Insert) → step w n row (element w t) is ≡ Ok (more, js) → walked w n row (map (element w) left) is ≡ total
      → walked w n more (map (element w) ts) js ≡ total
  row_on more js given so_far = sym (here ∙ ap (λ r. then_insert r (λ p. walked w n p (map (element w) ts))) given) ∙ so_far

  -- an element is at fault: so is the whole
  pub row_stop : (stop : BareStop) → BareStops stop (step w n row (element w t) is) → walked w n row (map (element w) left) is ≡ total → BareStops stop total
  row_stop stops.Memory given so_far = tt
  row_stop (stops.Fault f) given so_far = sym so_far ∙ here ∙ ap (λ r. then_insert r (λ p. walked w n p (map (element w) ts))) given
