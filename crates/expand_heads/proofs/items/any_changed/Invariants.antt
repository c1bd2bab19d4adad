use Rattle.std.proofs.Common.{◌≡◌, drop}
use Rattle.expand_heads.specs.Items.{any_changed}
use Rattle.expand_heads.proofs.items.any_changed.Given as goal

abbrev pub invariant-loop-one : goal.invariant-loop-one
invariant-loop-one g l = (any_changed l.keyword l.fn.state (drop l.one-index l.kept) ≡ any_changed l.keyword l.fn.state l.kept) × (l.state ≡ l.fn.state)
