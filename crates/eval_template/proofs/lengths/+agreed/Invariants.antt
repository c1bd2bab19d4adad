use Rattle.std.proofs.Common.{◌≡◌, drop}
use Rattle.core_language.specs.Template.{template_size, items_size}
use Rattle.core_language.specs.TemplateView.{items}
use Rattle.eval_template.specs.Binds.{unbound}
use Rattle.eval_template.specs.Lengths.{agree, items_lengths}
use Rattle.eval_template.proofs.lengths.+agreed.Given as goal

abbrev pub invariant-all_agreed-loop-item : goal.invariant-all_agreed-loop-item
invariant-all_agreed-loop-item l =
    agree l.so_far (items_lengths unbound l.context.binds.now l.turns l.inside (items (drop l.item-index l.list))) ≡ agree l.fn.so_far (items_lengths unbound l.context.binds.now l.turns l.inside (items l.list))

abbrev pub decreases-agreed : goal.decreases-agreed
decreases-agreed l = template_size l.template.now

abbrev pub decreases-all_agreed : goal.decreases-all_agreed
decreases-all_agreed l = items_size (items l.list.now)
