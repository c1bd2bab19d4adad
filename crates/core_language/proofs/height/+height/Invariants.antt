use Rattle.std.proofs.Common.{◌≡◌, ◌+◌, ◌*◌, ◌∷◌, [], drop, max}
use Rattle.core_language.specs.Core.{cores, core_size, cores_size, inits_size, cases_size, clauses_size}
use Rattle.core_language.specs.CoreView.{inits, cases, clauses}
use Rattle.core_language.specs.Height.{highest, highest_init, highest_case, highest_clause}
use Rattle.core_language.proofs.height.+height.Given as goal

abbrev pub invariant-highest-loop-part : goal.invariant-highest-loop-part
invariant-highest-loop-part l = max l.greatest (highest (cores (drop l.part-index l.parts))) ≡ highest (cores l.parts)

abbrev pub invariant-highest_init-loop-init : goal.invariant-highest_init-loop-init
invariant-highest_init-loop-init l = max l.greatest (highest_init (inits (drop l.init-index l.list))) ≡ highest_init (inits l.list)

abbrev pub invariant-highest_case-loop-case : goal.invariant-highest_case-loop-case
invariant-highest_case-loop-case l = max l.greatest (highest_case (cases (drop l.case-index l.list))) ≡ highest_case (cases l.list)

abbrev pub invariant-highest_clause-loop-clause : goal.invariant-highest_clause-loop-clause
invariant-highest_clause-loop-clause l = max l.greatest (highest_clause (clauses (drop l.clause-index l.list))) ≡ highest_clause (clauses l.list)

abbrev pub decreases-height : goal.decreases-height
decreases-height l = 2 * core_size l.core.now

abbrev pub decreases-highest : goal.decreases-highest
decreases-highest l = 2 * cores_size (cores l.parts.now)

abbrev pub decreases-highest_init : goal.decreases-highest_init
decreases-highest_init l = 2 * inits_size (inits l.list.now)

abbrev pub decreases-highest_in : goal.decreases-highest_in
decreases-highest_in l = 2 * cases_size l.code.now.cases + 1

abbrev pub decreases-highest_case : goal.decreases-highest_case
decreases-highest_case l = 2 * cases_size (cases l.list.now)

abbrev pub decreases-highest_clause : goal.decreases-highest_clause
decreases-highest_clause l = 2 * clauses_size (clauses l.list.now) + 1

abbrev pub decreases-height_of_clause : goal.decreases-height_of_clause
decreases-height_of_clause l = 2 * clauses_size (clauses (l.clause.now ∷ []))
