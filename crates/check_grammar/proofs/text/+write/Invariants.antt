use Rattle.std.proofs.Common.{◌≡◌, ◌++◌, ◌+◌, ◌*◌, drop}
use Rattle.std.specs.String.{string_bytes}
use Rattle.base_data.specs.Datum.{datum_size, chain, nil}
use Rattle.check_grammar.specs.Elements.{further_elements}
use Rattle.check_grammar.proofs.text.+write.Given as goal

abbrev pub invariant-write_further_elements-loop-item : goal.invariant-write_further_elements-loop-item
invariant-write_further_elements-loop-item l = string_bytes l.out ++ further_elements (drop l.item-index l.items) ≡ string_bytes l.initial.out ++ further_elements l.items

abbrev pub decreases-write_datum : goal.decreases-write_datum
decreases-write_datum l = 2 * datum_size l.datum.now + 1

abbrev pub decreases-write_elements : goal.decreases-write_elements
decreases-write_elements l = 2 * datum_size (chain l.items.now nil)

abbrev pub decreases-write_tail : goal.decreases-write_tail
decreases-write_tail l = 2 * datum_size l.tail.now + 2

abbrev pub decreases-write_further_elements : goal.decreases-write_further_elements
decreases-write_further_elements l = 2 * datum_size (chain l.items.now nil)
