use Rattle.std.proofs.Common.{◌+◌, ap, sym, ◌∙◌, arith}
use Rattle.law_core.specs.Templates.{has_depths, suits}
use Rattle.core_well_made.specs.Reach.{reach, number_if}
use Rattle.core_well_made.proofs.Reach.{depths_by_reach, item_by_reach}
use Rattle.core_well_made.proofs.Sizes.{item_smaller}
use Rattle.core_well_made.proofs.templates.+suits.Goals as goal

pub items_suit-item_suits-requires : goal.items_suit-item_suits-requires
items_suit-item_suits-requires t c = rw c.item-item.is (grind (arith, item_smaller))

pub item_suits-returns : goal.item_suits-returns
item_suits-returns t c =
    let vs = c.args.variables.now in
    let e = c.args.item.now.ellipses in
    let template = c.args.item.now.template in
    c.shortened.ensures
    ∙ item_by_reach (has_depths e template) (suits vs (c.args.ellipses + e) template) e (reach template) c.in-Some.reach (depths_by_reach e template)
    (ap (λ k. number_if (suits vs k template) (reach template)) (sym c.in_ok-inner.ensures) ∙ sym c.in_ok-reach.ensures ∙ c.in-Some.is)
