use Rattle.std.proofs.Common.{◌≡◌, ◌+◌, drop}
use Rattle.eval_pattern.specs.Keywords.{leading}
use Rattle.eval_pattern.proofs.keywords.leading.Given as goal

abbrev pub invariant-loop-form : goal.invariant-loop-form
invariant-loop-form l = (l.count ≡ l.form-index) × (leading l.frames l.forms ≡ l.count + leading l.frames (drop l.form-index l.forms))
