-- The row of a binder: what a frame answers is what the definition gives, at the binder's place.
use Rattle.std.proofs.Common.{Result, Err, ap, ◌∙◌}
use Rattle.base_data.specs.Gives.{Stops, BareStops}
use Rattle.base_data.specs.declared.fault.Bare.{Bare}
use Rattle.base_data.specs.declared.fault.BareStop.{BareStop}
use Rattle.base_data.specs.declared.fault.BareStop.TheVariants as bare_stops
use Rattle.base_data.specs.declared.fault.Stop.{Stop}
use Rattle.base_data.specs.declared.fault.Stop.TheVariants as stops
use Rattle.base_data.specs.declared.span.Span.{Span}
use Rattle.stx_tree.specs.Tree.{Tree}
use Rattle.stx_frames.specs.Scope.{Scope}
use Rattle.expand_standing.specs.State.{State}
use Rattle.expand_standing.specs.Binders.{StopsAt, row_put}

pub stops_at_row : (st : Stop) (b : BareStop) (id : Tree) (place : Span) (s : State) (given : Result Scope Bare) → StopsAt st b id place → BareStops b given → Stops st (row_put id place s given)
stops_at_row stops.Memory b id place s given h k = tt
stops_at_row (stops.Fault f) (bare_stops.Fault g) id place s given h k = ap (row_put id place s) k ∙ ap Err h
stops_at_row (stops.Fault f) bare_stops.Memory id place s given h k = absurd h
