use Rattle.std.proofs.Common.{arith}
use Rattle.core_language.proofs.SizeLemmas.{core_below, init_below, case_below, clause_below}
use Rattle.core_well_made.proofs.templates.+templates.Goals as goal

pub all_suit-templates_suit-requires : goal.all_suit-templates_suit-requires
all_suit-templates_suit-requires t c = rw c.part-item.is (grind (arith, core_below))

pub inits_suit-templates_suit-requires : goal.inits_suit-templates_suit-requires
inits_suit-templates_suit-requires t c = rw c.init-item.is (grind (arith, init_below))

pub cases_suit-templates_suit-requires : goal.cases_suit-templates_suit-requires
cases_suit-templates_suit-requires t c = rw c.case-item.is (grind (arith, case_below))

pub clauses_suit-clause_suits-requires : goal.clauses_suit-clause_suits-requires
clauses_suit-clause_suits-requires t c = rw c.clause-item.is (grind (arith, clause_below))
