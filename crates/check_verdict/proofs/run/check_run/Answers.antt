use Rattle.check_verdict.proofs.RunLaw.{headline, complete}
use Rattle.check_verdict.proofs.run.check_run.Goals as goal

pub returns-clause-headline : goal.returns-clause-headline
returns-clause-headline g c = headline _ _ _ _ _ _ c.verdicts_are_by_cases.ensures _ c.run_words.ensures

pub returns-clause-complete : goal.returns-clause-complete
returns-clause-complete g c = complete _ _ _ _ _ _ _ c.run_words.ensures
