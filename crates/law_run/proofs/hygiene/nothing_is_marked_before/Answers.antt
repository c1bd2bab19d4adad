use Rattle.law_run.proofs.HygienicForms.{codes-without, forms-read}
use Rattle.law_run.proofs.hygiene.nothing_is_marked_before.Goals as goal

pub returns : goal.returns
returns c = record { codes = codes-without; forms = forms-read }
