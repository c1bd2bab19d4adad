use Rattle.std.proofs.Common.{◌≡◌, drop, map}
use Rattle.base_data.specs.Act.{each}
use Rattle.std.proofs.Common.{false}
use Rattle.expand_standing.specs.Binders.{bind_variable, bind_all}
use Rattle.expand_standing.proofs.expansion.Expansion.bind_all.Given as goal

abbrev pub invariant-loop-id : goal.invariant-loop-id
invariant-loop-id g l = each (bind_variable l.context.frame.now l.context.place.now l.context.level false) l.labels (map (λ t. t) (drop l.id-index l.ids)) l.self ≡ bind_all l.context.frame.now l.context.place.now l.context.level l.ids l.fn.self
