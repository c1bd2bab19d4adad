use Rattle.std.proofs.Common.{◌≡◌, drop}
use Rattle.core_records.specs.Definitions.{with_fields}
use Rattle.core_records.proofs.definitions.push_fields.Given as goal

abbrev pub invariant-loop-field : goal.invariant-loop-field
invariant-loop-field l = with_fields l.number l.forms (drop l.field-index l.fields) ≡ with_fields 0 l.initial.forms l.fields
