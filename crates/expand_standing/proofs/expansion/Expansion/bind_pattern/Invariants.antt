use Rattle.std.proofs.Common.{◌≡◌, drop, map}
use Rattle.base_data.specs.Act.{gather}
use Rattle.expand_standing.specs.Patterns.{bind_next, bind_pattern}
use Rattle.expand_standing.proofs.expansion.Expansion.bind_pattern.Given as goal

abbrev pub invariant-loop-variable : goal.invariant-loop-variable
invariant-loop-variable g l = gather (bind_next l.context.frame.now l.context.place.now l.context.level) tt (map (λ v. v) (drop l.variable-index l.variables)) l.self ≡ bind_pattern l.context.frame.now l.context.place.now l.context.level l.variables l.fn.self
