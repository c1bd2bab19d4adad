use Rattle.std.proofs.Common.{arith, refl}
use Rattle.core_language.specs.Pattern.{patterns}
use Rattle.core_language.specs.PatternView.{repeated_on}
use Rattle.core_language.specs.PatternFalls.{rest_below}
use Rattle.core_language.specs.References.{variables, all_variables}
use Rattle.core_language.proofs.SizeLemmas.{pattern_below, before_below}
use Rattle.core_well_made.proofs.Lists.{joined_on}
use Rattle.core_well_made.proofs.scan.+pattern.Goals as goal

pub add_patterns-add_variables-requires : goal.add_patterns-add_variables-requires
add_patterns-add_variables-requires t c = rw c.pattern-item.is (grind (arith, pattern_below))

pub add_elements-add_patterns-requires : goal.add_elements-add_patterns-requires
add_elements-add_patterns-requires t c = rw c.deref.ensures.value (grind (arith, before_below))

pub add_elements-add_repeated-requires : goal.add_elements-add_repeated-requires
add_elements-add_repeated-requires t c =
    let b = rest_below c.args.elements.now.before.items (repeated_on c.args.elements.now.repeated) in
    grind (arith, b)

pub add_patterns-loop-pattern-preserved : goal.add_patterns-loop-pattern-preserved
add_patterns-loop-pattern-preserved t c =
    joined_on (λ ps. all_variables (patterns ps)) variables (λ p ps. refl) c.args.list.now c.loop-pattern.pattern-index c.pattern-item.result
    c.loop-pattern.all c.add_variables.new.all _ c.loop-pattern-test.true c.pattern-item.is c.in_ok-add_variables.ensures c.loop-pattern.invariant
