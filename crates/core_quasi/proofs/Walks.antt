-- Walking along the elements of a list or vector.
use Rattle.std.proofs.Common.{◌≡◌, ℕ, List, ◌∷◌, map, Ok, ap, sym, ◌∙◌}
use Rattle.std.specs.Prelude.{Result}
use Rattle.base_data.specs.Gives.{BareStops, ◌>>=◌}
use Rattle.base_data.specs.declared.fault.Bare.{Bare}
use Rattle.base_data.specs.declared.fault.BareStop.{BareStop}
use Rattle.base_data.specs.declared.fault.BareStop.TheVariants as stops
use Rattle.stx_tree.specs.Tree.{Tree}
use Rattle.core_quasi.specs.Words.{WordOf}
use Rattle.core_quasi.specs.Quasi.{element, step, walked}
use Rattle.core_quasi.specs.declared.quasi.Pieces.{Pieces}

module _ (w : WordOf) (n : ℕ) (pieces : Pieces) (left : List Tree) (t : Tree) (ts : List Tree) (total : Result Pieces Bare) (is : left ≡ t ∷ ts) where
  here : walked w n pieces (map (element w) left) ≡ (step w n pieces (element w t) >>= λ p. walked w n p (map (element w) ts))
  here = ap (λ us. walked w n pieces (map (element w) us)) is

  -- an element gave pieces: the rest goes on from there
  pub forms_on : (more : Pieces) → step w n pieces (element w t) ≡ Ok more → walked w n pieces (map (element w) left) ≡ total → walked w n more (map (element w) ts) ≡ total
  forms_on more given so_far = sym (here ∙ ap (λ r. r >>= λ p. walked w n p (map (element w) ts)) given) ∙ so_far

  -- an element is at fault: so is the whole
  pub forms_stop : (stop : BareStop) → BareStops stop (step w n pieces (element w t)) → walked w n pieces (map (element w) left) ≡ total → BareStops stop total
  forms_stop stops.Memory given so_far = tt
  forms_stop (stops.Fault f) given so_far = sym so_far ∙ here ∙ ap (λ r. r >>= λ p. walked w n p (map (element w) ts)) given
