use Rattle.eval_stage.proofs.Ruling.{rules_are_evaluation}
use Rattle.law_rules.proofs.laws.rules_are_evaluation.Goals as goal

pub returns : goal.returns
returns c = λ place number parent code t r s at e l. rules_are_evaluation place t r s number parent code at e l
