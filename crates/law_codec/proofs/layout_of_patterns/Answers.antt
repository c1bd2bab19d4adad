use Rattle.law_codec.specs.Layout.{patterns_laid_out}
use Rattle.law_codec.proofs.layout_of_patterns.Goals as goal

pub returns : goal.returns
returns c = patterns_laid_out
