use Rattle.std.proofs.Common.{◌≡◌, ◌≤◌, ◌+◌, ◌-◌, ◌*◌, map, drop, length}
use Rattle.base_data.specs.Datum.{datum_size, nil}
use Rattle.base_data.specs.Datum as datum
use Rattle.stx_tree.specs.Tree.{chain}
use Rattle.stx_object.specs.Kept.{IsRest}
use Rattle.stx_object.specs.Leaves.{grown_tree}
use Rattle.stx_object.proofs.leaves.+from_datum.Given as goal

abbrev pub decreases-from_datum : goal.decreases-from_datum
decreases-from_datum l = 3 * datum_size l.datum.now

abbrev pub decreases-from_list : goal.decreases-from_list
decreases-from_list l = 3 * datum_size (datum.chain l.items.now l.tail.now) - 1

abbrev pub decreases-from_vector : goal.decreases-from_vector
decreases-from_vector l = 3 * datum_size (datum.chain l.items.now nil)

abbrev pub decreases-from_end : goal.decreases-from_end
decreases-from_end l = 3 * datum_size l.tail.now + 1

abbrev pub decreases-data_before : goal.decreases-data_before
decreases-data_before l = 3 * datum_size (datum.chain l.items.now nil) - 2

abbrev pub invariant-data_before-loop-at : goal.invariant-data_before-loop-at
invariant-data_before-loop-at l = record {
  within : l.at ≤ length l.items;
  list : l.list ≡ chain (map (grown_tree l.growth.spans l.growth.sample.now) (drop l.at l.items)) l.fn.rest;
  rest : IsRest l.list;
}

abbrev pub decreases-data_before-loop-at : goal.decreases-data_before-loop-at
decreases-data_before-loop-at l = l.at
