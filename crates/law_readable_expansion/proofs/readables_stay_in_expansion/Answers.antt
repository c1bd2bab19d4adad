use Rattle.law_readable_expansion.proofs.Around.{stay-in}
use Rattle.law_readable_expansion.proofs.readables_stay_in_expansion.Goals as goal

pub returns : goal.returns
returns c = stay-in
