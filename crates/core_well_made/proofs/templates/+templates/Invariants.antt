use Rattle.std.proofs.Common.{◌≡◌, ◌+◌, ◌*◌, ◌∷◌, [], drop}
use Rattle.core_language.specs.Core.{cores, core_size, cores_size, inits_size, cases_size, clauses_size}
use Rattle.core_language.specs.CoreView.{inits, cases, clauses}
use Rattle.law_core.specs.Templates.{all_suit, inits_suit, cases_suit, clauses_suit}
use Rattle.core_well_made.proofs.templates.+templates.Given as goal

abbrev pub invariant-all_suit-loop-part : goal.invariant-all_suit-loop-part
invariant-all_suit-loop-part l = record {
  suit : all_suit l.initial.variables (cores (drop l.part-index l.parts)) ≡ all_suit l.initial.variables (cores l.parts);
  kept : l.variables ≡ l.initial.variables;
}

abbrev pub invariant-inits_suit-loop-init : goal.invariant-inits_suit-loop-init
invariant-inits_suit-loop-init l = record {
  suit : inits_suit l.initial.variables (inits (drop l.init-index l.list)) ≡ inits_suit l.initial.variables (inits l.list);
  kept : l.variables ≡ l.initial.variables;
}

abbrev pub invariant-cases_suit-loop-case : goal.invariant-cases_suit-loop-case
invariant-cases_suit-loop-case l = record {
  suit : cases_suit l.initial.variables (cases (drop l.case-index l.list)) ≡ cases_suit l.initial.variables (cases l.list);
  kept : l.variables ≡ l.initial.variables;
}

abbrev pub invariant-clauses_suit-loop-clause : goal.invariant-clauses_suit-loop-clause
invariant-clauses_suit-loop-clause l = record {
  suit : clauses_suit l.initial.variables (clauses (drop l.clause-index l.list)) ≡ clauses_suit l.initial.variables (clauses l.list);
  kept : l.variables ≡ l.initial.variables;
}

abbrev pub decreases-templates_suit : goal.decreases-templates_suit
decreases-templates_suit l = 4 * core_size l.core.now

abbrev pub decreases-all_suit : goal.decreases-all_suit
decreases-all_suit l = 4 * cores_size (cores l.parts.now)

abbrev pub decreases-inits_suit : goal.decreases-inits_suit
decreases-inits_suit l = 4 * inits_size (inits l.list.now)

abbrev pub decreases-code_suits : goal.decreases-code_suits
decreases-code_suits l = 4 * cases_size l.code.now.cases + 1

abbrev pub decreases-cases_suit : goal.decreases-cases_suit
decreases-cases_suit l = 4 * cases_size (cases l.list.now)

abbrev pub decreases-clauses_suit : goal.decreases-clauses_suit
decreases-clauses_suit l = 4 * clauses_size (clauses l.list.now) + 2

abbrev pub decreases-clause_suits : goal.decreases-clause_suits
decreases-clause_suits l = 4 * clauses_size (clauses (l.clause.now ∷ [])) + 1

abbrev pub decreases-output_suits : goal.decreases-output_suits
decreases-output_suits l = 4 * clauses_size (clauses (l.clause.now ∷ []))
