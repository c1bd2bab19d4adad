use Rattle.std.proofs.Common.{sym}
use Rattle.run_prelude.proofs.Names.{past_last}
use Rattle.run_prelude.proofs.codes.name_of.Goals as goal

pub returns-else-op-lt-NAME_COUNT : goal.returns-else-op-lt-NAME_COUNT
returns-else-op-lt-NAME_COUNT c = sym (past_last c.args.op.now.0 c.if-op-lt-NAME_COUNT.false)
