use Rattle.law_shapes.proofs.Complete.{written-have-shapes, one-shape}
use Rattle.law_shapes.proofs.Sound.{shapes-are-written, others-are-bad}
use Rattle.law_shapes.proofs.laws.shapes_are_the_grammar.Goals as goal

pub returns : goal.returns
returns c = record { written = written-have-shapes; found = shapes-are-written; one = one-shape; others = others-are-bad }
