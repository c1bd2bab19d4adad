use Rattle.stx_scope.proofs.SameLaws.{one_row, one_binding, same_binder_equiv}
use Rattle.stx_scope.proofs.laws.one_binder_is_one_row.Goals as goal

pub returns : goal.returns
returns c = record { rows = one_row; binding = one_binding; equivalence = same_binder_equiv }
