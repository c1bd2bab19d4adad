use Rattle.std.proofs.Common.{◌≡◌, ◌+◌, ◌*◌, drop}
use Rattle.core_language.specs.Labels.{with_labels}
use Rattle.core_language.specs.Pattern.{patterns, pattern_size, patterns_size}
use Rattle.core_language.specs.PatternView.{elements_of, repeated_on}
use Rattle.core_language.specs.References.{all_variables}
use Rattle.core_language.proofs.references.+pattern.Given as goal

abbrev pub invariant-scan_patterns-loop-pattern : goal.invariant-scan_patterns-loop-pattern
invariant-scan_patterns-loop-pattern l = with_labels l.bound (all_variables (patterns (drop l.pattern-index l.list))) ≡ with_labels l.initial.bound (all_variables (patterns l.list))

abbrev pub decreases-scan_pattern : goal.decreases-scan_pattern
decreases-scan_pattern l = 3 * pattern_size l.pattern.now

abbrev pub decreases-scan_elements : goal.decreases-scan_elements
decreases-scan_elements l = 3 * patterns_size (elements_of l.elements.now) + 2

abbrev pub decreases-scan_repeated : goal.decreases-scan_repeated
decreases-scan_repeated l = 3 * patterns_size (repeated_on l.repeated.now) + 1

abbrev pub decreases-scan_patterns : goal.decreases-scan_patterns
decreases-scan_patterns l = 3 * patterns_size (patterns l.list.now)
