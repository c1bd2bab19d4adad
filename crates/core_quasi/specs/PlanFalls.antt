-- A part of a plan is smaller than it.
use Rattle.std.specs.Prelude.{◌+◌, ◌≤◌, max, List, [], ◌∷◌}
use Rattle.std.proofs.Common.{arith}
use denote.Param.Weighed.{most}
use Rattle.core_quasi.specs.Plan.{PlainQuasi, quasi_size, quasis_size, quasis}
use Rattle.core_quasi.specs.PlanView.{seen}
use Rattle.core_quasi.specs.declared.plan.QuasiNode.{QuasiNode}
use Rattle.core_quasi.specs.declared.plan.QuasiNode.TheVariants as node
use Rattle.core_quasi.specs.declared.plan.Quasi.TheDeep.{deep-QuasiNode}

pub most_below : (qs : List PlainQuasi) → most (λ q. quasi_size q + 1) qs ≤ quasis_size (quasis qs)
most_below [] = omega arith
most_below (q ∷ qs) = omega (arith, most_below qs)

pub seen_falls : (n : QuasiNode) → max (deep-QuasiNode n) 0 ≤ quasi_size (seen n)
seen_falls (node.Constant t) = omega arith
seen_falls (node.Expression t) = omega arith
seen_falls (node.Call m qs) = omega (arith, most_below qs.items)
