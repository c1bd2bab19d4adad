use Rattle.law_codec.specs.Layout.{bindings_laid_out}
use Rattle.law_codec.proofs.layout_of_bindings.Goals as goal

pub returns : goal.returns
returns c = bindings_laid_out
