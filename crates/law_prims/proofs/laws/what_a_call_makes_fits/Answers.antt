use Rattle.law_prims.proofs.Calls.{call_fits}
use Rattle.law_prims.proofs.laws.what_a_call_makes_fits.Goals as goal

pub returns : goal.returns
returns c = λ op args cells fs m w h e. call_fits op args cells fs m w h e
