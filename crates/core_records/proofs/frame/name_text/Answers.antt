use Rattle.std.proofs.Common.{[], sym}
use Rattle.std.proofs.lemmas.List.{get_or_past}
use Rattle.base_data.specs.OpNames.{op_names}
use Rattle.core_records.proofs.frame.name_text.Goals as goal

pub returns-else-number-lt-NAME_COUNT : goal.returns-else-number-lt-NAME_COUNT
returns-else-number-lt-NAME_COUNT c = sym (get_or_past op_names c.args.number [] c.if-number-lt-NAME_COUNT.false)
