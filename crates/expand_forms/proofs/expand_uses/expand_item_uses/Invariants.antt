use Rattle.std.proofs.Common.{◌≡◌}
use Rattle.expand_forms.specs.ExpandUses.{expand_item_uses_to, expand_item_uses}
use Rattle.expand_forms.proofs.expand_uses.expand_item_uses.Given as goal

abbrev pub invariant-loop-body : goal.invariant-loop-body
invariant-loop-body g l = expand_item_uses_to (g.M.Transformers.records l.at.means.now) l.left l.body l.at.depth l.taken l.form l.state ≡ expand_item_uses (g.M.Transformers.records l.at.means.now) l.at.body.now l.at.depth l.fn.taken l.fn.form l.fn.state

abbrev pub decreases-loop-body : goal.decreases-loop-body
decreases-loop-body g l = l.left
