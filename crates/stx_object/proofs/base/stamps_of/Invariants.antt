use Rattle.std.proofs.Common.{◌≡◌, map, take}
use Rattle.stx_object.proofs.base.stamps_of.Given as goal

abbrev pub invariant-loop-one : goal.invariant-loop-one
invariant-loop-one l = l.stamps.items ≡ map (λ h. h.now) (take l.one-index l.held)
