use Rattle.std.proofs.Common.{◌≡◌, drop, []}
use Rattle.core_shapes.specs.Lists.{all_of}
use Rattle.core_shapes.specs.Forms.{binding}
use Rattle.core_shapes.proofs.forms.all_bindings.Given as goal

abbrev pub invariant-loop-form : goal.invariant-loop-form
invariant-loop-form l = all_of binding l.all (drop l.form-index l.forms) ≡ all_of binding [] l.forms
