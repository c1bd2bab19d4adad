use Rattle.run_top.proofs.Sinks.{complete}
use Rattle.run_top.proofs.top.run.Goals as goal

pub returns-clause-complete : goal.returns-clause-complete
returns-clause-complete g c = complete _ _ _ _ _ _ _ _ c.run_words.ensures.headline
