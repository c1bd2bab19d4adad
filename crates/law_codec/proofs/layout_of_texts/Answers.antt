use Rattle.law_codec.specs.Layout.{texts_laid_out}
use Rattle.law_codec.proofs.layout_of_texts.Goals as goal

pub returns : goal.returns
returns c = texts_laid_out
