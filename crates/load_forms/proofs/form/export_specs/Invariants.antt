use Rattle.std.proofs.Common.{◌≡◌, [], drop}
use Rattle.load_forms.specs.Form.{export_specs}
use Rattle.load_forms.proofs.form.export_specs.Given as goal

abbrev pub invariant-loop-spec : goal.invariant-loop-spec
invariant-loop-spec l = export_specs l.file l.list.items (drop l.spec-index l.specs) ≡ export_specs l.file [] l.specs
