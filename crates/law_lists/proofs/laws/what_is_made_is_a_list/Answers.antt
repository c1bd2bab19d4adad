use Rattle.law_lists.proofs.RunLemmas.{stored_runs, runs_stored}
use Rattle.law_lists.proofs.laws.what_is_made_is_a_list.Goals as goal

pub returns : goal.returns
returns c = record { runs = λ xs rest name cells. stored_runs xs rest cells; still = λ xs ys rest end y name cells r. runs_stored xs rest cells r }
