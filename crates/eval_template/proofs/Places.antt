-- A fault at a form is the fault of what is made of it.
use Rattle.std.proofs.Common.{Err, ap, ◌∙◌}
use Rattle.std.specs.Prelude.{Result}
use Rattle.base_data.specs.Gives.{Stops, BareStops}
use Rattle.base_data.specs.declared.fault.Bare.{Bare}
use Rattle.base_data.specs.declared.fault.BareStop.{BareStop}
use Rattle.base_data.specs.declared.fault.BareStop.TheVariants as bare_stop
use Rattle.base_data.specs.declared.fault.Stop.{Stop}
use Rattle.base_data.specs.declared.fault.Stop.TheVariants as stop
use Rattle.base_data.specs.declared.span.Span.{Span}
use Rattle.stx_tree.specs.Tree.{Tree}
use Rattle.eval_template.specs.Compile.{StopsAt, rebuilt}

pub rebuilt_stops : (place : Span) (t : Tree) (s : Stop) (b : BareStop) (given : Result Tree Bare) → StopsAt place t s b → BareStops b given → Stops s (rebuilt place t given)
rebuilt_stops place t stop.Memory b given h k = tt
rebuilt_stops place t (stop.Fault f) (bare_stop.Fault g) given h k = ap (rebuilt place t) k ∙ ap Err h
rebuilt_stops place t (stop.Fault f) bare_stop.Memory given h k = absurd h
