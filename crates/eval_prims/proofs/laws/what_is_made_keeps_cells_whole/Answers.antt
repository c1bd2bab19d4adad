use Rattle.eval_prims.proofs.Performed.{made_good}
use Rattle.eval_prims.proofs.laws.what_is_made_keeps_cells_whole.Goals as goal

pub returns : goal.returns
returns c = record { cells = λ m name cells w h. (made_good m name cells w h).0; value = λ m name cells w h. (made_good m name cells w h).1 }
