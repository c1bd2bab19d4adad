use Rattle.std.proofs.Common.{◌≡◌, ◌≤◌, ◌+◌, ◌*◌, map, length, false}
use Rattle.stx_tree.specs.Tree.{chain, nil}
use Rattle.stx_tree.specs.Measures.{size}
use Rattle.eval_pattern.specs.Compile.{seen, walked, with_pattern}
use Rattle.eval_pattern.proofs.compile.+pattern.Given as goal

abbrev pub invariant-add_elements-loop-form : goal.invariant-add_elements-loop-form
invariant-add_elements-loop-form l = record {
  gives : walked (seen l.context) l.elements.depth false l.parts (map (with_pattern (seen l.context)) l.left) (l.variables, l.names)
      ≡ walked (seen l.context) l.elements.depth false l.initial.parts (map (with_pattern (seen l.context)) l.elements.forms.now) (l.initial.variables, l.initial.names);
  smaller : size (chain l.left nil) ≤ size (chain l.elements.forms.now nil);
}

abbrev pub decreases-add_elements-loop-form : goal.decreases-add_elements-loop-form
decreases-add_elements-loop-form l = length l.left

abbrev pub decreases-pattern : goal.decreases-pattern
decreases-pattern l = 4 * size l.form.now + 3

abbrev pub decreases-list_pattern : goal.decreases-list_pattern
decreases-list_pattern l = 4 * size l.form.now + 2

abbrev pub decreases-vector_pattern : goal.decreases-vector_pattern
decreases-vector_pattern l = 4 * size (chain l.forms.now nil) + 2

abbrev pub decreases-elements : goal.decreases-elements
decreases-elements l = 4 * size (chain l.forms.now nil) + 1

abbrev pub decreases-add_elements : goal.decreases-add_elements
decreases-add_elements l = 4 * size (chain l.elements.now.forms.now nil)
