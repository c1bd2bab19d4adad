use Rattle.std.proofs.Common.{arith}
use Rattle.core_language.proofs.SizeLemmas.{core_below, init_below, case_below}
use Rattle.core_output.proofs.text.+put.Goals as goal

pub put_further-put-requires : goal.put_further-put-requires
put_further-put-requires t c = rw c.part-item.is (grind (arith, core_below))

pub put_further_inits-put-requires : goal.put_further_inits-put-requires
put_further_inits-put-requires t c = rw c.init-item.is (grind (arith, init_below))

pub put_cases-put-requires : goal.put_cases-put-requires
put_cases-put-requires t c = rw c.case-item.is (grind (arith, case_below))
