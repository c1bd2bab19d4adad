use Rattle.std.proofs.Common.{arith}
use Rattle.core_language.specs.PatternView.{repeated_on}
use Rattle.core_language.specs.PatternFalls.{rest_below}
use Rattle.core_language.proofs.SizeLemmas.{pattern_below, before_below}
use Rattle.core_well_made.proofs.parts.+leaves.Goals as goal

pub patterns_have_leaves-has_leaves-requires : goal.patterns_have_leaves-has_leaves-requires
patterns_have_leaves-has_leaves-requires t c = rw c.pattern-item.is (grind (arith, pattern_below))

pub elements_have_leaves-patterns_have_leaves-requires : goal.elements_have_leaves-patterns_have_leaves-requires
elements_have_leaves-patterns_have_leaves-requires t c = rw c.deref.ensures.value (grind (arith, before_below))

pub elements_have_leaves-repeated_has_leaves-requires : goal.elements_have_leaves-repeated_has_leaves-requires
elements_have_leaves-repeated_has_leaves-requires t c =
    let b = rest_below c.args.elements.now.before.items (repeated_on c.args.elements.now.repeated) in
    grind (arith, b)
