use Rattle.std.proofs.Common.{◌≡◌, ◌++◌, ◌+◌, ◌*◌, drop}
use Rattle.std.specs.String.{string_bytes}
use Rattle.core_language.specs.Core.{cores, core_size, cores_size, inits_size, cases_size}
use Rattle.core_language.specs.CoreView.{inits, cases}
use Rattle.core_output.specs.CoreText.{further_text, further_inits, cases_text}
use Rattle.core_output.proofs.text.+put.Given as goal

abbrev pub invariant-put_further-loop-part : goal.invariant-put_further-loop-part
invariant-put_further-loop-part l = string_bytes l.out ++ further_text l.names (cores (drop l.part-index l.parts)) ≡ string_bytes l.initial.out ++ further_text l.names (cores l.parts)

abbrev pub invariant-put_further_inits-loop-init : goal.invariant-put_further_inits-loop-init
invariant-put_further_inits-loop-init l = string_bytes l.out ++ further_inits l.names (inits (drop l.init-index l.list)) ≡ string_bytes l.initial.out ++ further_inits l.names (inits l.list)

abbrev pub invariant-put_cases-loop-case : goal.invariant-put_cases-loop-case
invariant-put_cases-loop-case l = string_bytes l.out ++ cases_text l.names l.plain (cases (drop l.case-index l.list)) ≡ string_bytes l.initial.out ++ cases_text l.names l.plain (cases l.list)

abbrev pub decreases-put : goal.decreases-put
decreases-put l = 2 * core_size l.core.now

abbrev pub decreases-put_further : goal.decreases-put_further
decreases-put_further l = 2 * cores_size (cores l.parts.now)

abbrev pub decreases-put_code : goal.decreases-put_code
decreases-put_code l = 2 * cases_size l.code.now.cases + 1

abbrev pub decreases-put_cases : goal.decreases-put_cases
decreases-put_cases l = 2 * cases_size (cases l.list.now)

abbrev pub decreases-put_inits : goal.decreases-put_inits
decreases-put_inits l = 2 * inits_size (inits l.list.now)

abbrev pub decreases-put_further_inits : goal.decreases-put_further_inits
decreases-put_further_inits l = 2 * inits_size (inits l.list.now)
