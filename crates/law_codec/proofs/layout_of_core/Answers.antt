use Rattle.law_codec.specs.Layout.{core_laid_out}
use Rattle.law_codec.proofs.layout_of_core.Goals as goal

pub returns : goal.returns
returns c = core_laid_out
