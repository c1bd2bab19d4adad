use Rattle.std.proofs.Common.{◌≡◌, take}
use Rattle.core_shapes.proofs.lists.share_all.Given as goal

abbrev pub invariant-loop-form : goal.invariant-loop-form
invariant-loop-form l = l.all ≡ take l.form-index l.forms
