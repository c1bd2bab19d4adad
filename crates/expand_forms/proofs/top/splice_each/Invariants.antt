use Rattle.std.proofs.Common.{◌≡◌, length}
use Rattle.base_data.specs.Act.{gather}
use Rattle.eval_stage.specs.Libraries.{earlier_in}
use Rattle.expand_forms.specs.Body.{splice}
use Rattle.expand_forms.specs.Expression.{inside}
use Rattle.expand_forms.proofs.top.splice_each.Given as goal

abbrev pub invariant-loop-form : goal.invariant-loop-form
invariant-loop-form g l =
    gather ((inside (earlier_in l.at.means.now.earlier) l.at.room).item l.at.body.now l.at.depth) l.taken l.left.rest.items l.state
    ≡ splice (inside (earlier_in l.at.means.now.earlier) l.at.room) l.at.body.now l.at.depth l.fn.taken l.fn.forms l.fn.state

abbrev pub decreases-loop-form : goal.decreases-loop-form
decreases-loop-form g l = length l.left.rest.items
