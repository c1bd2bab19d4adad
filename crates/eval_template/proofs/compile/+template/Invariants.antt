use Rattle.std.proofs.Common.{◌≡◌, ◌≤◌, ◌+◌, ◌*◌, map, length}
use Rattle.stx_tree.specs.Tree.{chain, nil}
use Rattle.stx_tree.specs.Measures.{size}
use Rattle.eval_template.specs.Compile.{seen, walked, with_template, forms_walked, first_label}
use Rattle.eval_template.proofs.compile.+template.Given as goal

abbrev pub invariant-elements-loop-form : goal.invariant-elements-loop-form
invariant-elements-loop-form l = record {
  gives : walked (seen l.context) l.escaped l.under 0 l.items (map (with_template (seen l.context)) l.left)
      ≡ forms_walked (seen l.context) l.escaped l.under l.forms;
  label : l.label ≡ first_label l.context.frames.now l.left;
  smaller : size (chain l.left nil) ≤ size (chain l.forms nil);
}

abbrev pub decreases-elements-loop-form : goal.decreases-elements-loop-form
decreases-elements-loop-form l = length l.left

abbrev pub decreases-template : goal.decreases-template
decreases-template l = 4 * size l.form.now + 3

abbrev pub decreases-list_template : goal.decreases-list_template
decreases-list_template l = 4 * size l.form.now + 2

abbrev pub decreases-elements : goal.decreases-elements
decreases-elements l = 4 * size (chain l.forms.now nil) + 1

abbrev pub decreases-item : goal.decreases-item
decreases-item l = 4 * size l.element.form.now + 4

abbrev pub decreases-vector_template : goal.decreases-vector_template
decreases-vector_template l = 4 * size (chain l.forms.now nil) + 2
