use Rattle.law_grammar.proofs.Failures.{one_failure, reads_or_fails}
use Rattle.law_grammar.proofs.sources_read_or_fail.Goals as goal

pub returns-clause-one : goal.returns-clause-one
returns-clause-one c = one_failure c.failures_are_told_by_bytes.ensures

pub returns-clause-other : goal.returns-clause-other
returns-clause-other c = reads_or_fails c.spellings_are_read_by_the_grammar.ensures c.failures_are_told_by_bytes.ensures
