use Rattle.std.proofs.Common.{◌≡◌, drop}
use Rattle.core_language.specs.Template.{template_size, items_size}
use Rattle.core_language.specs.TemplateView.{items}
use Rattle.eval_template.specs.Measure.{items_see}
use Rattle.eval_template.proofs.measure.+sees.Given as goal

abbrev pub invariant-items_see-loop-item : goal.invariant-items_see-loop-item
invariant-items_see-loop-item l = items_see l.inside (items (drop l.item-index l.list)) ≡ items_see l.inside (items l.list)

abbrev pub decreases-sees : goal.decreases-sees
decreases-sees l = template_size l.template.now

abbrev pub decreases-items_see : goal.decreases-items_see
decreases-items_see l = items_size (items l.list.now)
