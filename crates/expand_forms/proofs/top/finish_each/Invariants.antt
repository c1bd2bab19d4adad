use Rattle.std.proofs.Common.{◌≡◌, length}
use Rattle.base_data.specs.Act.{each}
use Rattle.eval_stage.specs.Libraries.{earlier_in}
use Rattle.expand_forms.specs.Body.{finish_one, finish_all}
use Rattle.expand_forms.specs.Expression.{inside}
use Rattle.expand_forms.proofs.top.finish_each.Given as goal

abbrev pub invariant-loop-one : goal.invariant-loop-one
invariant-loop-one g l =
    each (finish_one (inside (earlier_in l.at.means.now.earlier) l.at.room) l.at.site.now.level) l.lines.items l.left.rest.items l.state
    ≡ finish_all (inside (earlier_in l.at.means.now.earlier) l.at.room) l.at.site.now.level l.fn.waiting l.fn.state

abbrev pub decreases-loop-one : goal.decreases-loop-one
decreases-loop-one g l = length l.left.rest.items
