use Rattle.std.proofs.Common.{◌≡◌, ◌+◌, ◌*◌, ◌∷◌, [], drop}
use Rattle.core_language.specs.Labels.{with_labels}
use Rattle.core_language.specs.Core.{cores, core_size, cores_size, inits_size, cases_size, clauses_size}
use Rattle.core_language.specs.CoreView.{inits, cases, clauses}
use Rattle.core_language.specs.References.{all_binders, init_binders, case_binders, clause_binders, all_mentions, init_mentions, case_mentions, clause_mentions}
use Rattle.core_language.proofs.references.+scan.Given as goal

abbrev pub invariant-scan_all-loop-part : goal.invariant-scan_all-loop-part
invariant-scan_all-loop-part l = record {
  bound : with_labels l.bound (all_binders (cores (drop l.part-index l.parts))) ≡ with_labels l.initial.bound (all_binders (cores l.parts));
  mentioned : with_labels l.mentioned (all_mentions (cores (drop l.part-index l.parts))) ≡ with_labels l.initial.mentioned (all_mentions (cores l.parts));
}

abbrev pub invariant-scan_inits-loop-init : goal.invariant-scan_inits-loop-init
invariant-scan_inits-loop-init l = record {
  bound : with_labels l.bound (init_binders (inits (drop l.init-index l.list))) ≡ with_labels l.initial.bound (init_binders (inits l.list));
  mentioned : with_labels l.mentioned (init_mentions (inits (drop l.init-index l.list))) ≡ with_labels l.initial.mentioned (init_mentions (inits l.list));
}

abbrev pub invariant-scan_cases-loop-case : goal.invariant-scan_cases-loop-case
invariant-scan_cases-loop-case l = record {
  bound : with_labels l.bound (case_binders (cases (drop l.case-index l.list))) ≡ with_labels l.initial.bound (case_binders (cases l.list));
  mentioned : with_labels l.mentioned (case_mentions (cases (drop l.case-index l.list))) ≡ with_labels l.initial.mentioned (case_mentions (cases l.list));
}

abbrev pub invariant-scan_clauses-loop-clause : goal.invariant-scan_clauses-loop-clause
invariant-scan_clauses-loop-clause l = record {
  bound : with_labels l.bound (clause_binders (clauses (drop l.clause-index l.list))) ≡ with_labels l.initial.bound (clause_binders (clauses l.list));
  mentioned : with_labels l.mentioned (clause_mentions (clauses (drop l.clause-index l.list))) ≡ with_labels l.initial.mentioned (clause_mentions (clauses l.list));
}

abbrev pub decreases-scan : goal.decreases-scan
decreases-scan l = 2 * core_size l.core.now

abbrev pub decreases-scan_all : goal.decreases-scan_all
decreases-scan_all l = 2 * cores_size (cores l.parts.now)

abbrev pub decreases-scan_inits : goal.decreases-scan_inits
decreases-scan_inits l = 2 * inits_size (inits l.list.now)

abbrev pub decreases-scan_code : goal.decreases-scan_code
decreases-scan_code l = 2 * cases_size l.code.now.cases + 1

abbrev pub decreases-scan_cases : goal.decreases-scan_cases
decreases-scan_cases l = 2 * cases_size (cases l.list.now)

abbrev pub decreases-scan_clauses : goal.decreases-scan_clauses
decreases-scan_clauses l = 2 * clauses_size (clauses l.list.now) + 1

abbrev pub decreases-scan_clause : goal.decreases-scan_clause
decreases-scan_clause l = 2 * clauses_size (clauses (l.clause.now ∷ []))
