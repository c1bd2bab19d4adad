use Rattle.law_load.proofs.ChainLemmas.{needs_all, chains_lead, imports_lead}
use Rattle.law_load.proofs.all_is_needed.Goals as goal

pub returns : goal.returns
returns c = record { needed = needs_all; chains = chains_lead; all = imports_lead }
