use Rattle.law_codec.specs.Layout.{numbers_laid_out}
use Rattle.law_codec.proofs.layout_of_numbers.Goals as goal

pub returns : goal.returns
returns c = numbers_laid_out
