use Rattle.std.proofs.Common.{◌≡◌, drop, []}
use Rattle.core_shapes.specs.Lists.{all_of}
use Rattle.core_records.specs.Clauses.{field_of}
use Rattle.core_records.proofs.clauses.all_fields.Given as goal

abbrev pub invariant-loop-form : goal.invariant-loop-form
invariant-loop-form l = all_of (field_of l.frames l.name) l.all (drop l.form-index l.forms) ≡ all_of (field_of l.frames l.name) [] l.forms
