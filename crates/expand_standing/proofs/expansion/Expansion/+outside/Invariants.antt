use Rattle.std.proofs.Common.{◌≡◌, ◌+◌, ◌*◌, drop}
use Rattle.stx_tree.specs.Tree.{chain, nil}
use Rattle.stx_tree.specs.Measures.{size}
use Rattle.expand_standing.specs.Patterns.{all_outside}
use Rattle.expand_standing.proofs.expansion.Expansion.+outside.Given as goal

abbrev pub invariant-all_outside-loop-form : goal.invariant-all_outside-loop-form
invariant-all_outside-loop-form g l = record {
  first : all_outside l.initial.self (drop l.form-index l.forms) ≡ all_outside l.initial.self l.forms;
  unchanged : l.self ≡ l.initial.self;
}

abbrev pub decreases-first_outside : goal.decreases-first_outside
decreases-first_outside g l = 4 * size l.form.now + 3

abbrev pub decreases-list_outside : goal.decreases-list_outside
decreases-list_outside g l = 4 * size l.form.now + 2

abbrev pub decreases-all_outside : goal.decreases-all_outside
decreases-all_outside g l = 4 * size (chain l.forms.now nil) + 1
