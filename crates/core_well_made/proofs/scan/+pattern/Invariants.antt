use Rattle.std.proofs.Common.{◌≡◌, ◌++◌, ◌+◌, ◌*◌, drop}
use Rattle.core_language.specs.Pattern.{patterns, pattern_size, patterns_size}
use Rattle.core_language.specs.PatternView.{elements_of, repeated_on}
use Rattle.core_language.specs.References.{all_variables}
use Rattle.core_well_made.proofs.scan.+pattern.Given as goal

abbrev pub invariant-add_patterns-loop-pattern : goal.invariant-add_patterns-loop-pattern
invariant-add_patterns-loop-pattern l = l.all ++ all_variables (patterns (drop l.pattern-index l.list)) ≡ l.initial.all ++ all_variables (patterns l.list)

abbrev pub decreases-add_variables : goal.decreases-add_variables
decreases-add_variables l = 3 * pattern_size l.pattern.now

abbrev pub decreases-add_elements : goal.decreases-add_elements
decreases-add_elements l = 3 * patterns_size (elements_of l.elements.now) + 2

abbrev pub decreases-add_repeated : goal.decreases-add_repeated
decreases-add_repeated l = 3 * patterns_size (repeated_on l.repeated.now) + 1

abbrev pub decreases-add_patterns : goal.decreases-add_patterns
decreases-add_patterns l = 3 * patterns_size (patterns l.list.now)
