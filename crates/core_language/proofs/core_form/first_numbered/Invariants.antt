use Rattle.std.proofs.Common.{◌≡◌, drop}
use Rattle.core_language.specs.CoreForm.{first_numbered}
use Rattle.core_language.proofs.core_form.first_numbered.Given as goal

abbrev pub invariant-loop-form : goal.invariant-loop-form
invariant-loop-form l = first_numbered (drop l.form-index l.forms) l.number ≡ first_numbered l.forms l.number
