use Rattle.law_run.proofs.TextsNest.{texts-nest}
use Rattle.law_run.proofs.Records.{runs-nest}
use Rattle.law_run.proofs.nesting.texts_of_runs_nest.Goals as goal

pub returns : goal.returns
returns c = record { runs = runs-nest; texts = texts-nest c.core_text_is_read_back.ensures.spellings }
