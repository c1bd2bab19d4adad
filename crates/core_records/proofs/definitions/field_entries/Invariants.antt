use Rattle.std.proofs.Common.{◌≡◌, drop, []}
use Rattle.core_records.specs.Definitions.{field_entries}
use Rattle.core_records.proofs.definitions.field_entries.Given as goal

abbrev pub invariant-loop-field : goal.invariant-loop-field
invariant-loop-field l = field_entries l.done (drop l.field-index l.fields) ≡ field_entries [] l.fields
