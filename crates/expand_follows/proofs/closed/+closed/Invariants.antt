use Rattle.std.proofs.Common.{◌≡◌, ◌+◌, ◌*◌, ◌∷◌, [], drop}
use Rattle.core_language.specs.Core.{cores, core_size, cores_size, inits_size, cases_size, clauses_size}
use Rattle.core_language.specs.CoreView.{inits, cases, clauses}
use Rattle.law_core.specs.Scope.{all_closed, inits_closed, cases_closed, clauses_closed}
use Rattle.expand_follows.specs.Scope.{under}
use Rattle.expand_follows.proofs.closed.+closed.Given as goal

abbrev pub invariant-are_closed-loop-part : goal.invariant-are_closed-loop-part
invariant-are_closed-loop-part l = record {
  closed : all_closed (under l.initial.scope l.top.earlier.now l.top.own.now) (cores (drop l.part-index l.parts)) ≡ all_closed (under l.initial.scope l.top.earlier.now l.top.own.now) (cores l.parts);
  kept : l.scope ≡ l.initial.scope;
}

abbrev pub invariant-are_inits_closed-loop-init : goal.invariant-are_inits_closed-loop-init
invariant-are_inits_closed-loop-init l = record {
  closed : inits_closed (under l.initial.scope l.top.earlier.now l.top.own.now) (inits (drop l.init-index l.list)) ≡ inits_closed (under l.initial.scope l.top.earlier.now l.top.own.now) (inits l.list);
  kept : l.scope ≡ l.initial.scope;
}

abbrev pub invariant-are_cases_closed-loop-case : goal.invariant-are_cases_closed-loop-case
invariant-are_cases_closed-loop-case l = record {
  closed : cases_closed (under l.initial.scope l.top.earlier.now l.top.own.now) (cases (drop l.case-index l.list)) ≡ cases_closed (under l.initial.scope l.top.earlier.now l.top.own.now) (cases l.list);
  kept : l.scope ≡ l.initial.scope;
}

abbrev pub invariant-are_clauses_closed-loop-clause : goal.invariant-are_clauses_closed-loop-clause
invariant-are_clauses_closed-loop-clause l = record {
  closed : clauses_closed (under l.initial.scope l.top.earlier.now l.top.own.now) (clauses (drop l.clause-index l.list)) ≡ clauses_closed (under l.initial.scope l.top.earlier.now l.top.own.now) (clauses l.list);
  kept : l.scope ≡ l.initial.scope;
}

abbrev pub decreases-is_closed : goal.decreases-is_closed
decreases-is_closed l = 4 * core_size l.core.now

abbrev pub decreases-are_closed : goal.decreases-are_closed
decreases-are_closed l = 4 * cores_size (cores l.parts.now)

abbrev pub decreases-is_code_closed : goal.decreases-is_code_closed
decreases-is_code_closed l = 4 * cases_size l.code.now.cases + 1

abbrev pub decreases-are_cases_closed : goal.decreases-are_cases_closed
decreases-are_cases_closed l = 4 * cases_size (cases l.list.now)

abbrev pub decreases-is_case_closed : goal.decreases-is_case_closed
decreases-is_case_closed l = 4 * core_size l.case.now.body + 1

abbrev pub decreases-is_letrec_closed : goal.decreases-is_letrec_closed
decreases-is_letrec_closed l = 4 * (inits_size (inits l.list.now) + core_size l.body.now) + 2

abbrev pub decreases-are_parts_closed : goal.decreases-are_parts_closed
decreases-are_parts_closed l = 4 * (inits_size (inits l.list.now) + core_size l.body.now) + 1

abbrev pub decreases-are_inits_closed : goal.decreases-are_inits_closed
decreases-are_inits_closed l = 4 * inits_size (inits l.list.now)

abbrev pub decreases-are_clauses_closed : goal.decreases-are_clauses_closed
decreases-are_clauses_closed l = 4 * clauses_size (clauses l.list.now) + 2

abbrev pub decreases-is_clause_closed : goal.decreases-is_clause_closed
decreases-is_clause_closed l = 4 * clauses_size (clauses (l.clause.now ∷ [])) + 1

abbrev pub decreases-is_output_closed : goal.decreases-is_output_closed
decreases-is_output_closed l = 4 * clauses_size (clauses (l.clause.now ∷ []))
