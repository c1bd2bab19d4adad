-- A fault of a template is the fault of its form.
use Rattle.std.proofs.Common.{Err, ap, ◌∙◌}
use Rattle.std.specs.Prelude.{Result}
use Rattle.base_data.specs.Gives.{Stops, BareStops}
use Rattle.base_data.specs.declared.fault.Bare.{Bare}
use Rattle.base_data.specs.declared.fault.BareStop.{BareStop}
use Rattle.base_data.specs.declared.fault.BareStop.TheVariants as bare_stop
use Rattle.base_data.specs.declared.fault.Stop.{Stop}
use Rattle.base_data.specs.declared.fault.Stop.TheVariants as stop
use Rattle.base_data.specs.declared.span.Span.{Span}
use Rattle.stx_tree.specs.Tree.{Tree}
use Rattle.core_quasi.specs.Quasi.{StopsAt, at_form}

pub form_stops : {A : Type 0} (form : Tree) (place : Span) (s : Stop) (b : BareStop) (given : Result A Bare) → StopsAt form place s b → BareStops b given → Stops s (at_form form place given)
form_stops form place stop.Memory b given h k = tt
form_stops form place (stop.Fault f) (bare_stop.Fault g) given h k = ap (at_form form place) k ∙ ap Err h
form_stops form place (stop.Fault f) bare_stop.Memory given h k = absurd h
