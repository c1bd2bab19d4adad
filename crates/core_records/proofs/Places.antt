-- A fault of what a form comes to is the fault of the form.
use Rattle.std.proofs.Common.{Err, ap, ◌∙◌}
use Rattle.base_data.specs.Gives.{Stops, BareStops}
use Rattle.base_data.specs.declared.fault.BareStop.{BareStop}
use Rattle.base_data.specs.declared.fault.BareStop.TheVariants as bare_stop
use Rattle.base_data.specs.declared.fault.Stop.{Stop}
use Rattle.base_data.specs.declared.fault.Stop.TheVariants as stop
use Rattle.base_data.specs.declared.span.Span.{Span}
use Rattle.stx_tree.specs.Tree.{Tree}
use Rattle.core_records.specs.Forms.{StopsAt, at_form}
use Rattle.core_records.specs.Introduced.{Made}

pub form_stops : (form : Tree) (place : Span) (s : Stop) (b : BareStop) (given : Made) → StopsAt form place s b → BareStops b given → Stops s (at_form form place given)
form_stops form place stop.Memory b given h k = tt
form_stops form place (stop.Fault f) (bare_stop.Fault g) given h k = ap (at_form form place) k ∙ ap Err h
form_stops form place (stop.Fault f) bare_stop.Memory given h k = absurd h
