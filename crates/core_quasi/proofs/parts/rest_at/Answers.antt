use Rattle.std.proofs.Common.{◌∙◌, sym}
use Rattle.core_quasi.specs.Parts.{rest_at}
use Rattle.core_quasi.proofs.Rests.{rest_none}
use Rattle.core_quasi.proofs.parts.rest_at.Goals as goal

pub returns-in_default : goal.returns-in_default
returns-in_default c =
    rest_none c.loop-left.left c.loop-left.rest (rest_at c.args.count c.args.form.now) (sym c.in_ok-next.ensures ∙ c.in_default.is) c.loop-left.invariant
