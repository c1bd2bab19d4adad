use Rattle.law_codec.specs.Layout.{data_laid_out}
use Rattle.law_codec.proofs.layout_of_data.Goals as goal

pub returns : goal.returns
returns c = data_laid_out
