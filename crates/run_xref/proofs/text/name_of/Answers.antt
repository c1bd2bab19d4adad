use Rattle.std.proofs.Common.{◌≡◌, ◌≤◌, length, [], arith, refl, sym}
use Rattle.std.proofs.lemmas.List.{get_or_past}
use Rattle.base_data.specs.Op.{name_count}
use Rattle.base_data.specs.OpNames.{op_names}
use Rattle.run_xref.proofs.text.name_of.Goals as goal

pub returns-else-op-lt-NAME_COUNT : goal.returns-else-op-lt-NAME_COUNT
returns-else-op-lt-NAME_COUNT c =
    let count : length op_names ≡ name_count = refl in
    let past : length op_names ≤ c.args.op.0 = grind (arith, count, c.if-op-lt-NAME_COUNT.false) in
    sym (get_or_past op_names c.args.op.0 [] past)
