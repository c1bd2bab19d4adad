use Rattle.std.proofs.Common.{◌≡◌, ◌++◌, ap, sym, ◌∙◌, arith}
use Rattle.std.proofs.lemmas.Grind.{common_steps}
use Rattle.std.specs.Prelude.{codes}
use Rattle.base_data.specs.Datum.{chain, nil, listed, vector}
use Rattle.check_grammar.specs.Text.{text_of}
use Rattle.check_grammar.proofs.Lists.{text_of-listed, within-chain, listed-items, item_below}
use Rattle.check_grammar.proofs.text.+write.Goals as goal

pub write_datum-write_elements-requires : goal.write_datum-write_elements-requires
write_datum-write_elements-requires t c =
    let proper = rw c.in-List.is at c.datum.invariant in
    let is : listed c.datum.inside.span c.in-List.items.items c.in-List.tail.value ≡ c.args.datum.now = rw c.in-List.is at c.datum.view_is in
    let below = listed-items c.datum.inside.span c.in-List.items.items c.in-List.tail.value c.args.datum.now proper is in
    rw c.deref.ensures.value (grind (arith, below))

pub write_datum-returns-in_ok-write_tail-in-List : goal.write_datum-returns-in_ok-write_tail-in-List
write_datum-returns-in_ok-write_tail-in-List t c =
    let proper = rw c.in-List.is at c.datum.invariant in
    let is : listed c.datum.inside.span c.in-List.items.items c.in-List.tail.value ≡ c.args.datum.now = rw c.in-List.is at c.datum.view_is in
    let text = sym (ap text_of is) ∙ text_of-listed c.datum.inside.span c.in-List.items.items c.in-List.tail.value proper in
    rw text (grind (arith, common_steps))

pub write_datum-returns-in_ok-write_elements-in-Vector : goal.write_datum-returns-in_ok-write_elements-in-Vector
write_datum-returns-in_ok-write_elements-in-Vector t c =
    let is : vector c.datum.inside.span (chain c.in-Vector.items.items nil) ≡ c.args.datum.now = rw c.in-Vector.is at c.datum.view_is in
    let text = sym (ap text_of is) ∙ ap (λ t. codes "#(" ++ t ++ codes ")") (within-chain c.in-Vector.items.items) in
    rw text (grind (arith, common_steps))

pub write_further_elements-write_datum-requires : goal.write_further_elements-write_datum-requires
write_further_elements-write_datum-requires t c = rw c.item-item.is (grind (arith, item_below))
