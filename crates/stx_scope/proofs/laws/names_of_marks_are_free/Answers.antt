use Rattle.stx_scope.proofs.SameLaws.{stands-renamed, same_binding-renamed, same_binder-renamed}
use Rattle.stx_scope.proofs.laws.names_of_marks_are_free.Goals as goal

pub returns : goal.returns
returns c = record { stands = stands-renamed; binding = same_binding-renamed; binder = same_binder-renamed }
