use Rattle.law_codec.specs.Layout.{templates_laid_out}
use Rattle.law_codec.proofs.layout_of_templates.Goals as goal

pub returns : goal.returns
returns c = templates_laid_out
