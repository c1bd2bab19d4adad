use Rattle.std.proofs.Common.{◌≡◌, drop, map}
use Rattle.base_data.specs.Act.{each}
use Rattle.expand_standing.specs.Binders.{bind_spec, bind_specs}
use Rattle.expand_standing.proofs.expansion.Expansion.bind_specs.Given as goal

abbrev pub invariant-loop-spec : goal.invariant-loop-spec
invariant-loop-spec g l = each (bind_spec l.context.frame.now l.context.place.now l.context.level) l.done (map (λ b. b) (drop l.spec-index l.specs)) l.self ≡ bind_specs l.context.frame.now l.context.place.now l.context.level l.specs l.fn.self
