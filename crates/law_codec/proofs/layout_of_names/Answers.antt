use Rattle.law_codec.specs.Layout.{names_laid_out}
use Rattle.law_codec.proofs.layout_of_names.Goals as goal

pub returns : goal.returns
returns c = names_laid_out
