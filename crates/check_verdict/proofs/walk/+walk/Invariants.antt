use Rattle.std.proofs.Common.{◌≡◌, ◌+◌, ◌*◌, drop}
use Rattle.base_data.specs.Datum.{datum_size, chain, nil}
use Rattle.check_verdict.specs.Walk.{expressions, cases, inits}
use Rattle.check_verdict.proofs.walk.+walk.Given as goal

abbrev pub invariant-expressions-loop-item : goal.invariant-expressions-loop-item
invariant-expressions-loop-item l = expressions (chain (drop l.item-index l.items) nil) l.survey ≡ expressions (chain l.items nil) l.fn.survey

abbrev pub invariant-cases-loop-item : goal.invariant-cases-loop-item
invariant-cases-loop-item l = cases (chain (drop l.item-index l.items) nil) l.survey ≡ cases (chain l.items nil) l.fn.survey

abbrev pub invariant-inits-loop-item : goal.invariant-inits-loop-item
invariant-inits-loop-item l = inits (chain (drop l.item-index l.items) nil) l.survey ≡ inits (chain l.items nil) l.fn.survey

abbrev pub decreases-expression : goal.decreases-expression
decreases-expression l = 2 * datum_size l.datum.now + 1

abbrev pub decreases-form : goal.decreases-form
decreases-form l = 2 * datum_size (chain l.items.now nil)

abbrev pub decreases-expressions : goal.decreases-expressions
decreases-expressions l = 2 * datum_size (chain l.items.now nil)

abbrev pub decreases-one : goal.decreases-one
decreases-one l = 2 * datum_size (chain l.items.now nil)

abbrev pub decreases-assigned : goal.decreases-assigned
decreases-assigned l = 2 * datum_size (chain l.items.now nil)

abbrev pub decreases-init : goal.decreases-init
decreases-init l = 2 * datum_size (chain l.items.now nil)

abbrev pub decreases-procedure : goal.decreases-procedure
decreases-procedure l = 2 * datum_size (chain l.items.now nil)

abbrev pub decreases-cases : goal.decreases-cases
decreases-cases l = 2 * datum_size (chain l.items.now nil)

abbrev pub decreases-inits : goal.decreases-inits
decreases-inits l = 2 * datum_size (chain l.items.now nil)

abbrev pub decreases-recursive : goal.decreases-recursive
decreases-recursive l = 2 * datum_size (chain l.items.now nil)

abbrev pub decreases-case : goal.decreases-case
decreases-case l = 2 * datum_size l.item.now + 1

abbrev pub decreases-binding : goal.decreases-binding
decreases-binding l = 2 * datum_size l.item.now + 1

abbrev pub decreases-bindings : goal.decreases-bindings
decreases-bindings l = 2 * datum_size l.datum.now + 1
