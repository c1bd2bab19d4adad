use Rattle.eval_code.proofs.Fuel.{eval_of_is}
use Rattle.law_eval.proofs.Carried.{any_depth}
use Rattle.law_eval.proofs.laws.depth_does_not_show.Goals as goal

pub returns : goal.returns
returns c = record { parts = eval_of_is; depth = any_depth }
