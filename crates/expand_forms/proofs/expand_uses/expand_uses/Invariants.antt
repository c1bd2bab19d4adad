use Rattle.std.proofs.Common.{◌≡◌}
use Rattle.expand_forms.specs.ExpandUses.{expand_uses_to, expand_uses}
use Rattle.expand_forms.proofs.expand_uses.expand_uses.Given as goal

abbrev pub invariant-loop-place : goal.invariant-loop-place
invariant-loop-place g l = expand_uses_to (g.M.Transformers.records l.at.means.now) l.left l.place l.at.site.now.level l.form l.state ≡ expand_uses (g.M.Transformers.records l.at.means.now) l.at.site.now.place l.at.site.now.level l.fn.form l.fn.state

abbrev pub decreases-loop-place : goal.decreases-loop-place
decreases-loop-place g l = l.left
