use Rattle.law_run.proofs.NestedForms.{forms-begin-whole, procedures-begin-whole, bodies-begin-whole, items-begin-whole}
use Rattle.law_run.proofs.memory.nested_forms_begin_whole.Goals as goal

pub returns : goal.returns
returns c = record { forms = forms-begin-whole; procedures = procedures-begin-whole; bodies = bodies-begin-whole; items = items-begin-whole }
