use Rattle.check_verdict.proofs.VerdictLaw.{verdicts_are}
use Rattle.check_verdict.proofs.lines.verdicts_are_by_cases.Goals as goal

pub returns : goal.returns
returns c = verdicts_are c.names_are_scanned.ensures c.spellings_are_read_by_the_grammar.ensures
