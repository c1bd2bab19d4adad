use Rattle.std.proofs.lemmas.Result.{err_from_is_err_and}
use Rattle.expand_forms.proofs.expander.begun.Goals as goal

pub returns-in_err-frame : goal.returns-in_err-frame
returns-in_err-frame g c =
    let p = err_from_is_err_and c.from_residual-in_err-frame.result c.from_residual-in_err-frame.ensures.1 in
    rw p.1 tt
