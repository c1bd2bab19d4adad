use Rattle.std.proofs.Common.{◌≡◌, ◌++◌, ◌+◌, ◌*◌, drop}
use Rattle.std.specs.String.{string_bytes}
use Rattle.base_data.specs.Datum.{datum_size, chain, nil}
use Rattle.read_printer.specs.DatumText.{further_items}
use Rattle.read_printer.proofs.datum_text.+put.Given as goal

abbrev pub invariant-put_further_items-loop-item : goal.invariant-put_further_items-loop-item
invariant-put_further_items-loop-item l = string_bytes l.out ++ further_items (drop l.item-index l.items) ≡ string_bytes l.initial.out ++ further_items l.items

abbrev pub decreases-put_datum : goal.decreases-put_datum
decreases-put_datum l = 2 * datum_size l.datum.now + 1

abbrev pub decreases-put_items : goal.decreases-put_items
decreases-put_items l = 2 * datum_size (chain l.items.now nil)

abbrev pub decreases-put_further_items : goal.decreases-put_further_items
decreases-put_further_items l = 2 * datum_size (chain l.items.now nil)

abbrev pub decreases-put_tail : goal.decreases-put_tail
decreases-put_tail l = 2 * datum_size l.tail.now + 2
