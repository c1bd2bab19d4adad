-- The changes before the last one are fewer.
use Rattle.std.specs.Prelude.{◌≤◌, [], ◌∷◌, length, None, Some}
use Rattle.std.proofs.Common.{arith, length-append}
use Rattle.stx_object.specs.declared.wrap.ChangeLink.{ChangeLink}
use Rattle.stx_object.specs.declared.wrap.Wrap.TheDeep.{deep-ChangeLink}
use Rattle.stx_object.specs.declared.wrap.Wrap.TheShapes.{weighed-Wrap-last}
use Rattle.stx_object.specs.Wrap.{pending}

pub pending_falls : (o : _) → weighed-Wrap-last.weight ChangeLink deep-ChangeLink o ≤ length (pending o)
pending_falls None = omega arith
pending_falls (Some l) = omega (arith, length-append l.value.before (l.value.change ∷ []))
