-- Answers that are trees within the limits.
use Rattle.std.proofs.Common.{◌≡◌, Err, Ok, sym, ap, ◌∙◌, subst}
use Rattle.base_data.specs.Gives.{BareStops}
use Rattle.base_data.specs.declared.fault.BareStop.{BareStop}
use Rattle.base_data.specs.declared.fault.BareStop.TheVariants as stop
use Rattle.stx_tree.specs.Tree.{Tree}
use Rattle.stx_tree.specs.Measures.{Fits, within}
use Rattle.stx_tree.proofs.MeasureLaws.{within-fits, within-past}
use Rattle.stx_object.specs.Refuses.{Refuses}

pub gives_tree : (t u : Tree) → u ≡ t → Fits u → within t ≡ Ok u
gives_tree t u e h = subst (λ v. within v ≡ Ok u) e (within-fits u h)

pub gives_stop : (e : BareStop) (t : Tree) → Refuses e (Fits t) → BareStops e (within t)
gives_stop (stop.Fault f) t h = within-past t h.1 ∙ ap Err (sym h.0)
gives_stop stop.Memory t h = tt

pub refuses_more : (e : BareStop) (P Q : Type 0) → (Q → P) → Refuses e P → Refuses e Q
refuses_more (stop.Fault f) P Q w h = (h.0, λ q. h.1 (w q))
refuses_more stop.Memory P Q w h = tt
