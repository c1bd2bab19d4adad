use Rattle.law_stage.proofs.Calling.{uses_drop, kept_counts}
use Rattle.law_stage.proofs.laws.uses_drop_their_cells.Goals as goal

pub returns : goal.returns
returns c = record {
  cells = λ place rs form l e frame s new t h. uses_drop place rs form l e frame s new t h;
  kept = λ place rs form l e x v frame s new t k h. kept_counts place rs form l e frame s new t x v k h;
}
