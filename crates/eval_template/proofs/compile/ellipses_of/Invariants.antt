use Rattle.std.proofs.Common.{◌≡◌, ◌+◌, drop}
use Rattle.eval_template.specs.Compile.{dot_count}
use Rattle.eval_template.proofs.compile.ellipses_of.Given as goal

abbrev pub invariant-loop-form : goal.invariant-loop-form
invariant-loop-form l = (l.count ≡ l.form-index) × (dot_count l.frames l.escaped l.forms ≡ l.count + dot_count l.frames l.escaped (drop l.form-index l.forms))
