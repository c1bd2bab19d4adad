use Rattle.std.proofs.Common.{sym}
use Rattle.run_prelude.proofs.Names.{past_last}
use Rattle.run_derived.proofs.names.name_text.Goals as goal

pub returns-else-number-lt-NAME_COUNT : goal.returns-else-number-lt-NAME_COUNT
returns-else-number-lt-NAME_COUNT c = sym (past_last c.args.number c.if-number-lt-NAME_COUNT.false)
