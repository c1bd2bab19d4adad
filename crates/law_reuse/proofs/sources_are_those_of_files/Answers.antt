use Rattle.law_reuse.proofs.Sources.{of_loaded, of_stopped, there_loaded}
use Rattle.law_reuse.proofs.sources_are_those_of_files.Goals as goal

pub returns : goal.returns
returns c = record { loaded = of_loaded; stopped = of_stopped; there = there_loaded }
