use Rattle.std.proofs.Common.{◌≡◌, drop, []}
use Rattle.core_shapes.specs.Lists.{all_of}
use Rattle.core_shapes.specs.Forms.{lambda_case}
use Rattle.core_shapes.proofs.forms.lambda_cases.Given as goal

abbrev pub invariant-loop-form : goal.invariant-loop-form
invariant-loop-form l = all_of lambda_case l.all (drop l.form-index l.forms) ≡ all_of lambda_case [] l.forms
