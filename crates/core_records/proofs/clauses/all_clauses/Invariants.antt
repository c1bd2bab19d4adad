use Rattle.std.proofs.Common.{◌≡◌, drop}
use Rattle.core_records.specs.Clauses.{no_clauses, all_clauses}
use Rattle.core_records.proofs.clauses.all_clauses.Given as goal

abbrev pub invariant-loop-form : goal.invariant-loop-form
invariant-loop-form l = all_clauses l.context.frames.now l.name l.context.place.now l.clauses (drop l.form-index l.forms) ≡ all_clauses l.context.frames.now l.name l.context.place.now no_clauses l.forms
