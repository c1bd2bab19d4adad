-- What a plan in memory stands for.
use Rattle.core_quasi.specs.Plan.{PlainQuasi, constant, expression, call, quasis}
use Rattle.core_quasi.specs.declared.plan.QuasiNode.{QuasiNode}
use Rattle.core_quasi.specs.declared.plan.QuasiNode.TheVariants as node

abbrev pub seen : QuasiNode → PlainQuasi
seen (node.Constant t) = constant t
seen (node.Expression t) = expression t
seen (node.Call m qs) = call m (quasis qs.items)
