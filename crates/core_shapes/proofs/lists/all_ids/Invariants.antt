use Rattle.std.proofs.Common.{◌≡◌, drop}
use Rattle.core_shapes.specs.Lists.{all_ids}
use Rattle.core_shapes.proofs.lists.all_ids.Given as goal

abbrev pub invariant-loop-form : goal.invariant-loop-form
invariant-loop-form l = all_ids (drop l.form-index l.forms) ≡ all_ids l.forms
