use Rattle.std.proofs.Common.{◌≡◌, [], drop}
use Rattle.load_forms.specs.Form.{import_specs}
use Rattle.load_forms.proofs.form.import_specs.Given as goal

abbrev pub invariant-loop-spec : goal.invariant-loop-spec
invariant-loop-spec l = import_specs l.file l.list (drop l.spec-index l.specs) ≡ import_specs l.file [] l.specs
