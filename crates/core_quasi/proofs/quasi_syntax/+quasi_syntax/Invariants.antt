use Rattle.std.proofs.Common.{◌≡◌, ◌≤◌, ◌+◌, ◌*◌, map, length}
use Rattle.stx_tree.specs.Measures.{size}
use Rattle.core_quasi.specs.QuasiSyntax.{seen, walked, element, forms_walked}
use Rattle.core_quasi.proofs.Sizes.{forms_size}
use Rattle.core_quasi.proofs.quasi_syntax.+quasi_syntax.Given as goal

abbrev pub invariant-walked-loop-form : goal.invariant-walked-loop-form
invariant-walked-loop-form l = record {
  gives : walked (seen l.context) l.level l.row (map (element (seen l.context)) l.left) l.inserts ≡ forms_walked (seen l.context) l.level l.forms l.initial.inserts;
  smaller : forms_size l.left ≤ forms_size l.forms;
}

abbrev pub decreases-walked-loop-form : goal.decreases-walked-loop-form
decreases-walked-loop-form l = length l.left

abbrev pub decreases-step : goal.decreases-step
decreases-step l = 16 * size l.form.now + 7

abbrev pub decreases-syntax_at : goal.decreases-syntax_at
decreases-syntax_at l = 16 * size l.form.now + 6

abbrev pub decreases-list_at : goal.decreases-list_at
decreases-list_at l = 16 * size l.form.now + 5

abbrev pub decreases-split_list : goal.decreases-split_list
decreases-split_list l = 16 * (forms_size l.front.now.elements.now + forms_size l.last.now.elements.now + size l.last.now.tail.now) + 4

abbrev pub decreases-flat_list : goal.decreases-flat_list
decreases-flat_list l = 16 * (forms_size l.list.now.elements.now + size l.list.now.tail.now) + 3

abbrev pub decreases-vector_at : goal.decreases-vector_at
decreases-vector_at l = 16 * forms_size l.forms.now + 10

abbrev pub decreases-open_list : goal.decreases-open_list
decreases-open_list l = 16 * forms_size l.forms.now + 9

abbrev pub decreases-walked : goal.decreases-walked
decreases-walked l = 16 * forms_size l.forms.now + 8
