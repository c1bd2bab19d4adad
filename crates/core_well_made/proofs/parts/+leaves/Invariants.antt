use Rattle.std.proofs.Common.{◌≡◌, ◌+◌, ◌*◌, drop}
use Rattle.core_language.specs.Pattern.{patterns, pattern_size, patterns_size}
use Rattle.core_language.specs.PatternView.{elements_of, repeated_on}
use Rattle.law_core.specs.Parts.{all_literals}
use Rattle.law_core.specs.WellMade.{is_leaf}
use Rattle.law_core.specs.Words.{each}
use Rattle.core_well_made.proofs.parts.+leaves.Given as goal

abbrev pub invariant-patterns_have_leaves-loop-pattern : goal.invariant-patterns_have_leaves-loop-pattern
invariant-patterns_have_leaves-loop-pattern l = each is_leaf (all_literals (patterns (drop l.pattern-index l.list))) ≡ each is_leaf (all_literals (patterns l.list))

abbrev pub decreases-has_leaves : goal.decreases-has_leaves
decreases-has_leaves l = 3 * pattern_size l.pattern.now

abbrev pub decreases-elements_have_leaves : goal.decreases-elements_have_leaves
decreases-elements_have_leaves l = 3 * patterns_size (elements_of l.elements.now) + 2

abbrev pub decreases-repeated_has_leaves : goal.decreases-repeated_has_leaves
decreases-repeated_has_leaves l = 3 * patterns_size (repeated_on l.repeated.now) + 1

abbrev pub decreases-patterns_have_leaves : goal.decreases-patterns_have_leaves
decreases-patterns_have_leaves l = 3 * patterns_size (patterns l.list.now)
