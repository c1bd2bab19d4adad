-- The text of a run is closed, and bound once.
use Rattle.law_text.specs.Text.{TextIsClosedOnce}
use Rattle.law_text.proofs.Closed.{text-closed}
use Rattle.law_text.proofs.BoundOnce.{binders-once, names-once}

pub text-is-closed-once : TextIsClosedOnce
text-is-closed-once rs p h = record { closed = text-closed rs p h; bound_once = binders-once rs p h; named_once = names-once rs p h }
