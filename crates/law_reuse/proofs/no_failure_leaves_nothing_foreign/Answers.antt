use Rattle.law_reuse.proofs.QuietLemmas.{writes_quiet, leaves_quiet}
use Rattle.law_reuse.proofs.no_failure_leaves_nothing_foreign.Goals as goal

pub returns : goal.returns
returns c = λ k prelude. record { writes = writes_quiet k prelude; leaves = leaves_quiet k prelude }
