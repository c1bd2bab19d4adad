use Rattle.std.proofs.Common.{◌≡◌, arith}
use Rattle.base_data.specs.Datum.{listed}
use Rattle.load_forms.proofs.ListLemmas.{listed_items, item_below}
use Rattle.load_forms.proofs.copied.+copied.Goals as goal

pub copied-copied_each-requires : goal.copied-copied_each-requires
copied-copied_each-requires t c =
    let proper = rw c.in-List.is at c.datum.invariant in
    let is : listed c.datum.inside.span c.in-List.items.items c.in-List.tail.value ≡ c.args.datum.now = rw c.in-List.is at c.datum.view_is in
    let below = listed_items c.datum.inside.span c.in-List.items.items c.in-List.tail.value c.args.datum.now proper is in
    rw c.deref.ensures.value (grind (arith, below))

pub copied_each-copied-requires : goal.copied_each-copied-requires
copied_each-copied-requires t c = rw c.item-item.is (grind (arith, item_below))
