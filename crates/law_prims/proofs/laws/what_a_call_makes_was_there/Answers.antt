use Rattle.law_prims.specs.Holds.{Passes}
use Rattle.law_prims.proofs.Calls.{call_holds}
use Rattle.law_prims.proofs.laws.what_a_call_makes_was_there.Goals as goal

pub returns : goal.returns
returns c = λ test op args cells fs m h r e. call_holds (Passes test) op args cells fs m h r e
