use Rattle.std.proofs.Common.{◌≡◌, ◌+◌, ◌*◌, drop}
use Rattle.core_language.specs.Core.{cores, core_size, cores_size, inits_size, cases_size}
use Rattle.core_language.specs.CoreView.{inits, cases}
use Rattle.core_output.specs.Syntax.{all_checked, inits_checked, cases_checked}
use Rattle.core_output.proofs.check.+check.Given as goal

abbrev pub invariant-check_all-loop-part : goal.invariant-check_all-loop-part
invariant-check_all-loop-part l = all_checked (cores (drop l.part-index l.parts)) ≡ all_checked (cores l.parts)

abbrev pub invariant-check_inits-loop-init : goal.invariant-check_inits-loop-init
invariant-check_inits-loop-init l = inits_checked (inits (drop l.init-index l.list)) ≡ inits_checked (inits l.list)

abbrev pub invariant-check_cases-loop-case : goal.invariant-check_cases-loop-case
invariant-check_cases-loop-case l = cases_checked (cases (drop l.case-index l.list)) ≡ cases_checked (cases l.list)

abbrev pub decreases-check : goal.decreases-check
decreases-check l = 2 * core_size l.core.now

abbrev pub decreases-check_all : goal.decreases-check_all
decreases-check_all l = 2 * cores_size (cores l.parts.now)

abbrev pub decreases-check_inits : goal.decreases-check_inits
decreases-check_inits l = 2 * inits_size (inits l.list.now)

abbrev pub decreases-check_code : goal.decreases-check_code
decreases-check_code l = 2 * cases_size l.code.now.cases + 1

abbrev pub decreases-check_cases : goal.decreases-check_cases
decreases-check_cases l = 2 * cases_size (cases l.list.now)
