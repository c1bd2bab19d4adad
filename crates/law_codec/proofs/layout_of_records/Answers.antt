use Rattle.law_codec.specs.Layout.{records_laid_out}
use Rattle.law_codec.proofs.layout_of_records.Goals as goal

pub returns : goal.returns
returns c = records_laid_out
