use Rattle.std.proofs.Common.{◌≡◌, ◌≤◌, ◌+◌, ◌*◌, None, true}
use Rattle.base_data.specs.Datum.{chain, pair}
use Rattle.base_data.specs.DatumView.{is_some_list}
use Rattle.stx_tree.specs.Leaves.{strip}
use Rattle.stx_object.specs.Kept.{weight, IsRest, IsElements}
use Rattle.stx_object.proofs.+strip.Given as goal

abbrev pub decreases-kept::Kept::strip : goal.decreases-kept::Kept::strip
decreases-kept::Kept::strip l = 3 * weight l.self.now + 2

abbrev pub decreases-strip::strip_list : goal.decreases-strip::strip_list
decreases-strip::strip_list l = 3 * (weight l.first.now + weight l.rest.now) + 4

abbrev pub decreases-strip::strip_along : goal.decreases-strip::strip_along
decreases-strip::strip_along l = 3 * (weight l.first.now + weight l.rest.now) + 3

abbrev pub decreases-strip::strip_elements : goal.decreases-strip::strip_elements
decreases-strip::strip_elements l = 3 * weight l.elements.now + 3

abbrev pub invariant-strip::strip_along-loop-left : goal.invariant-strip::strip_along-loop-left
invariant-strip::strip_along-loop-left l = record {
  list : chain l.data.items (strip l.left) ≡ pair None (strip l.first) (strip l.rest);
  some : is_some_list l.data.items ≡ true;
  rest : IsRest l.left;
  less : weight l.left ≤ weight l.rest;
}

abbrev pub decreases-strip::strip_along-loop-left : goal.decreases-strip::strip_along-loop-left
decreases-strip::strip_along-loop-left l = weight l.left

abbrev pub invariant-strip::strip_elements-loop-left : goal.invariant-strip::strip_elements-loop-left
invariant-strip::strip_elements-loop-left l = record {
  list : chain l.data.items (strip l.left) ≡ strip l.elements;
  elements : IsElements l.left;
  less : weight l.left ≤ weight l.elements;
}

abbrev pub decreases-strip::strip_elements-loop-left : goal.decreases-strip::strip_elements-loop-left
decreases-strip::strip_elements-loop-left l = weight l.left
