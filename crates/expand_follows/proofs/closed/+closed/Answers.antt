use Rattle.std.proofs.Common.{arith}
use Rattle.core_language.proofs.SizeLemmas.{core_below, init_below, case_below, clause_below}
use Rattle.expand_follows.proofs.closed.+closed.Goals as goal

pub are_closed-is_closed-requires : goal.are_closed-is_closed-requires
are_closed-is_closed-requires t c = rw c.part-item.is (grind (arith, core_below))

pub are_inits_closed-is_closed-requires : goal.are_inits_closed-is_closed-requires
are_inits_closed-is_closed-requires t c = rw c.init-item.is (grind (arith, init_below))

pub are_cases_closed-is_case_closed-requires : goal.are_cases_closed-is_case_closed-requires
are_cases_closed-is_case_closed-requires t c = rw c.case-item.is (grind (arith, case_below))

pub are_clauses_closed-is_clause_closed-requires : goal.are_clauses_closed-is_clause_closed-requires
are_clauses_closed-is_clause_closed-requires t c = rw c.clause-item.is (grind (arith, clause_below))
