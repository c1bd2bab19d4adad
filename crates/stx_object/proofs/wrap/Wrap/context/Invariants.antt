use Rattle.std.proofs.Common.{◌≡◌, map, reverse}
use Rattle.std.specs.Prelude.{vec_len}
use Rattle.stx_tree.specs.Context.{acts}
use Rattle.stx_object.proofs.wrap.Wrap.context.Given as goal

abbrev pub invariant-loop-change : goal.invariant-loop-change
invariant-loop-change l = acts (reverse (map (λ x. x.now) l.changes.items)) l.context ≡ acts l.self l.base

abbrev pub decreases-loop-change : goal.decreases-loop-change
decreases-loop-change l = vec_len l.changes
