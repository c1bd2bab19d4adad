use Rattle.std.proofs.Common.{arith, refl}
use Rattle.core_language.specs.Pattern.{patterns}
use Rattle.core_language.specs.PatternView.{repeated_on}
use Rattle.core_language.specs.PatternFalls.{rest_below}
use Rattle.core_language.specs.References.{variables, all_variables}
use Rattle.core_language.proofs.SizeLemmas.{pattern_below, before_below}
use Rattle.core_language.proofs.LabelLemmas.{labels_on}
use Rattle.core_language.proofs.references.+pattern.Goals as goal

pub scan_patterns-scan_pattern-requires : goal.scan_patterns-scan_pattern-requires
scan_patterns-scan_pattern-requires t c = rw c.pattern-item.is (grind (arith, pattern_below))

pub scan_elements-scan_patterns-requires : goal.scan_elements-scan_patterns-requires
scan_elements-scan_patterns-requires t c = rw c.deref.ensures.value (grind (arith, before_below))

pub scan_elements-scan_repeated-requires : goal.scan_elements-scan_repeated-requires
scan_elements-scan_repeated-requires t c =
    let b = rest_below c.args.elements.now.before.items (repeated_on c.args.elements.now.repeated) in
    grind (arith, b)

pub scan_patterns-loop-pattern-preserved : goal.scan_patterns-loop-pattern-preserved
scan_patterns-loop-pattern-preserved t c =
    labels_on (λ ps. all_variables (patterns ps)) variables (λ p ps. refl) c.args.list.now c.loop-pattern.pattern-index c.pattern-item.result
    c.loop-pattern.bound c.scan_pattern.new.bound _ c.loop-pattern-test.true c.pattern-item.is c.in_ok-scan_pattern.ensures c.loop-pattern.invariant
