use Rattle.std.proofs.Common.{arith}
use Rattle.std.proofs.lemmas.Grind.{common_steps}
use Rattle.std.proofs.lemmas.List.{take_rest}
use Rattle.base_outside.proofs.Streams.{gains_more}
use Rattle.base_outside.proofs.host.write_some.Goals as goal

pub loop-preserved : goal.loop-preserved
loop-preserved g c = record {
  within = grind (arith, common_steps);
  gains = gains_more _ _ _ _ _ _ c.loop.invariant.gains (simp take_rest at c.in-Some.ensures.gains);
}
