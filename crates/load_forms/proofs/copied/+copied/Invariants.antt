use Rattle.std.proofs.Common.{◌≡◌, ◌++◌, ◌+◌, ◌*◌, drop}
use Rattle.base_data.specs.Datum.{datum_size, chain, nil}
use Rattle.load_forms.proofs.copied.+copied.Given as goal

abbrev pub invariant-copied_each-loop-item : goal.invariant-copied_each-loop-item
invariant-copied_each-loop-item l = l.copies.items ++ drop l.item-index l.items ≡ l.items

abbrev pub decreases-copied : goal.decreases-copied
decreases-copied l = 2 * datum_size l.datum.now + 1

abbrev pub decreases-copied_each : goal.decreases-copied_each
decreases-copied_each l = 2 * datum_size (chain l.items.now nil)
