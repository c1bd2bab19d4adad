use Rattle.std.proofs.Common.{◌≡◌, ◌++◌, length}
use Rattle.std.specs.Prelude.{reverse}
use Rattle.expand_forms.specs.Body.{inits_in, values_in}
use Rattle.expand_forms.proofs.body.body_core.Given as goal

abbrev pub invariant-loop-line : goal.invariant-loop-line
invariant-loop-line l = record {
  inits : l.inits.items ++ inits_in (reverse l.lines.items) ≡ inits_in l.fn.lines.items;
  values : l.values.items ++ values_in (reverse l.lines.items) ≡ values_in l.fn.lines.items;
}

abbrev pub decreases-loop-line : goal.decreases-loop-line
decreases-loop-line l = length l.lines.items
