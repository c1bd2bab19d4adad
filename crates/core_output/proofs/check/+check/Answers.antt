use Rattle.std.proofs.Common.{arith}
use Rattle.core_language.proofs.SizeLemmas.{core_below, init_below, case_below}
use Rattle.core_output.proofs.check.+check.Goals as goal

pub check_all-check-requires : goal.check_all-check-requires
check_all-check-requires t c = rw c.part-item.is (grind (arith, core_below))

pub check_inits-check-requires : goal.check_inits-check-requires
check_inits-check-requires t c = rw c.init-item.is (grind (arith, init_below))

pub check_cases-check-requires : goal.check_cases-check-requires
check_cases-check-requires t c = rw c.case-item.is (grind (arith, case_below))
