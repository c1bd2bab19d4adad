use Rattle.std.proofs.Common.{◌≡◌, ◌++◌, ap, sym, ◌∙◌, arith}
use Rattle.std.proofs.lemmas.Grind.{common_steps}
use Rattle.std.specs.Prelude.{codes}
use Rattle.base_data.specs.Datum.{chain, nil, listed, vector}
use Rattle.read_printer.specs.DatumText.{datum_text}
use Rattle.read_printer.proofs.Lists.{datum_text-listed, elements_text-chain, listed-items, item_below}
use Rattle.read_printer.proofs.datum_text.+put.Goals as goal

pub put_datum-put_items-requires : goal.put_datum-put_items-requires
put_datum-put_items-requires t c =
    let proper = rw c.in-List.is at c.datum.invariant in
    let is : listed c.datum.inside.span c.in-List.items.items c.in-List.tail.value ≡ c.args.datum.now = rw c.in-List.is at c.datum.view_is in
    let below = listed-items c.datum.inside.span c.in-List.items.items c.in-List.tail.value c.args.datum.now proper is in
    rw c.deref.ensures.value (grind (arith, below))

pub put_datum-returns-in_ok-put_tail-in-List : goal.put_datum-returns-in_ok-put_tail-in-List
put_datum-returns-in_ok-put_tail-in-List t c =
    let proper = rw c.in-List.is at c.datum.invariant in
    let is : listed c.datum.inside.span c.in-List.items.items c.in-List.tail.value ≡ c.args.datum.now = rw c.in-List.is at c.datum.view_is in
    let text = sym (ap datum_text is) ∙ datum_text-listed c.datum.inside.span c.in-List.items.items c.in-List.tail.value proper in
    rw text (grind (arith, common_steps))

pub put_datum-returns-in_ok-put_items-in-Vector : goal.put_datum-returns-in_ok-put_items-in-Vector
put_datum-returns-in_ok-put_items-in-Vector t c =
    let is : vector c.datum.inside.span (chain c.in-Vector.items.items nil) ≡ c.args.datum.now = rw c.in-Vector.is at c.datum.view_is in
    let text = sym (ap datum_text is) ∙ ap (λ t. codes "#(" ++ t ++ codes ")") (elements_text-chain c.in-Vector.items.items) in
    rw text (grind (arith, common_steps))

pub put_further_items-put_datum-requires : goal.put_further_items-put_datum-requires
put_further_items-put_datum-requires t c = rw c.item-item.is (grind (arith, item_below))
