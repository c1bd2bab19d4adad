use Rattle.std.proofs.Common.{◌≡◌, ◌++◌, [], drop, map, ℕ, List, length}
use Rattle.load_import.specs.Names.{step_names}
use Rattle.load_import.specs.Turns.{turns}
use Rattle.load_import.proofs.names.taken.Given as goal

abbrev pub invariant-loop-step : goal.invariant-loop-step
invariant-loop-step l = turns (step_names l.span) l.names (drop l.step-index l.steps) ≡ turns (step_names l.span) l.initial.names l.steps
