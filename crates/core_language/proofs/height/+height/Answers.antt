use Rattle.std.proofs.Common.{arith}
use Rattle.core_language.proofs.SizeLemmas.{core_below, init_below, case_below, clause_below, height_at, height_at_init, height_at_case, height_at_clause}
use Rattle.core_language.proofs.height.+height.Goals as goal

pub highest-height-requires : goal.highest-height-requires
highest-height-requires t c = rw c.part-item.is (grind (arith, core_below, height_at))

pub highest_init-height-requires : goal.highest_init-height-requires
highest_init-height-requires t c = rw c.init-item.is (grind (arith, init_below, height_at_init))

pub highest_case-height-requires : goal.highest_case-height-requires
highest_case-height-requires t c = rw c.case-item.is (grind (arith, case_below, height_at_case))

pub highest_clause-height_of_clause-requires : goal.highest_clause-height_of_clause-requires
highest_clause-height_of_clause-requires t c = rw c.clause-item.is (grind (arith, clause_below, height_at_clause))
