use Rattle.check_verdict.proofs.VerdictLaw.{sound_of, complete_of}
use Rattle.check_verdict.proofs.lines.check_core.Goals as goal

pub returns-clause-sound : goal.returns-clause-sound
returns-clause-sound c = sound_of c.verdicts_are_by_cases.ensures c.args.bytes.now c.check_text.result c.check_text.ensures

pub returns-clause-complete : goal.returns-clause-complete
returns-clause-complete c = complete_of c.verdicts_are_by_cases.ensures c.args.bytes.now c.check_text.result c.check_text.ensures
