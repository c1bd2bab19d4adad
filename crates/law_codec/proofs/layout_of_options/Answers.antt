use Rattle.law_codec.specs.Layout.{options_laid_out}
use Rattle.law_codec.proofs.layout_of_options.Goals as goal

pub returns : goal.returns
returns c = options_laid_out
