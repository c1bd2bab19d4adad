use Rattle.eval_value.proofs.Wholes.{none_whole, stored_good}
use Rattle.eval_value.proofs.laws.data_keep_cells_whole.Goals as goal

pub returns : goal.returns
returns c = record { none = none_whole; cells = λ d cells w. (stored_good d cells w).0; value = λ d cells w. (stored_good d cells w).1 }
