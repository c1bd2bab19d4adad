use Rattle.std.proofs.Common.{◌≡◌, [], drop, map}
use Rattle.eval_code.specs.Codes.{seen}
use Rattle.run_prelude.specs.Prelude.{filled}
use Rattle.run_prelude.proofs.prelude.filled.Given as goal

abbrev pub invariant-loop-code : goal.invariant-loop-code
invariant-loop-code l = filled (seen l.table.entries) (map (λ c. c.value) (drop l.code-index l.codes)) ≡ filled [] (map (λ c. c.value) l.codes)
