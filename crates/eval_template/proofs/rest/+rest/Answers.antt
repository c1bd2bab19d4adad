use Rattle.std.proofs.Common.{arith}
use Rattle.std.proofs.lemmas.Option.{IfSome_then}
use Rattle.std.proofs.lemmas.Result.{IfOk-weaker}
use Rattle.core_language.specs.TemplateView.{items}
use Rattle.eval_template.specs.Rests.{with_rest}
use Rattle.eval_template.proofs.RestParts.{goes_on, on_rest, list_made, vector_made, one_added, rest_smaller}
use Rattle.eval_template.proofs.Sizes.{item_smaller}
use Rattle.eval_template.proofs.rest.+rest.Goals as goal

pub items_with_rest-item_with_rest-requires : goal.items_with_rest-item_with_rest-requires
items_with_rest-item_with_rest-requires t c = rw c.part-item.is (grind (arith, item_smaller))

pub items_with_rest-loop-part-preserved : goal.items_with_rest-loop-part-preserved
items_with_rest-loop-part-preserved t c xs size is =
    goes_on c.args.list.now c.loop-part.part-index c.loop-part.done (items c.args.list.now) (with_rest c.args.context.now xs) (c.loop-part.invariant xs size is) c.part-item.result c.in-Some.more c.loop-part-test.true c.part-item.is
    ((rw c.in-Some.is at c.in_ok-more.ensures) xs size is)

pub list_with_rest-items_with_rest-requires : goal.list_with_rest-items_with_rest-requires
list_with_rest-items_with_rest-requires t c =
    let ends = rw c.in-Some.is at c.in_ok-before.ensures in
    let smaller = rest_smaller c.args.context.now c.in-Some.before.now c.args.list.now ends.1 in
    grind (arith, smaller)

pub list_with_rest-returns : goal.list_with_rest-returns
list_with_rest-returns t c =
    let ends = rw c.in-Some.is at c.in_ok-before.ensures in
    let made = rw c.in-Some-2.is at c.in_ok-items.ensures in
    IfOk-weaker c.before_the_rest.result _ _ (λ o h. IfSome_then o h (λ v p. on_rest c.args.context.now c.in-Some-2.items c.in-Some.before.now c.args.list.now c.args.tail.now v made p.0 p.1 ends.0 ends.1))
    c.before_the_rest.ensures

pub list_of_items-returns : goal.list_of_items-returns
list_of_items-returns t c =
    let made = rw c.in-Some.is at c.in_ok-items.ensures in
    let end = rw c.in-Some-2.is at c.in_ok-end.ensures in
    IfOk-weaker c.before_end.result _ _ (λ o h. IfSome_then o h (λ v p. list_made c.args.context.now c.in-Some.items (items c.args.list.now) v made c.in-Some-2.end c.args.tail.now end p.0 p.1)) c.before_end.ensures

pub vector_with_rest-returns : goal.vector_with_rest-returns
vector_with_rest-returns t c =
    let made = rw c.in-Some.is at c.in_ok-items.ensures in
    IfOk-weaker c.as_vector.result _ _ (λ o h. IfSome_then o h (λ v p. vector_made c.args.context.now c.in-Some.items (items c.args.list.now) v made p.0 p.1)) c.as_vector.ensures

pub item_with_rest-returns : goal.item_with_rest-returns
item_with_rest-returns t c =
    let made = rw c.in-Some.is at c.in_ok-one.ensures in
    IfOk-weaker c.with_one.result _ _ (λ o h. IfSome_then o h (λ k p. one_added c.args.context.now c.args.part.now c.args.done k c.in-Some.one (omega arith) made p.0 p.1)) c.with_one.ensures
