use Rattle.std.proofs.Common.{sym}
use Rattle.check_verdict.proofs.Same.{long_quotation}
use Rattle.check_verdict.proofs.walk.is_quotation.Goals as goal

pub returns-in-len2-up : goal.returns-in-len2-up
returns-in-len2-up c = sym (long_quotation c.args.items.now c.in-len2-up.len_at_least)
