use Rattle.std.proofs.Common.{◌≡◌}
use Rattle.core_language.specs.TemplateView.{items}
use Rattle.eval_template.specs.Compile.{items_of}
use Rattle.eval_template.proofs.compile.items_of.Given as goal

abbrev pub invariant-loop-made : goal.invariant-loop-made
invariant-loop-made l = items l.list.items ≡ items_of l.yielded
