use Rattle.std.proofs.Common.{◌≡◌, map, reverse}
use Rattle.std.specs.Prelude.{vec_len}
use Rattle.stx_tree.specs.Context.{LeafContext, acts}
use Rattle.stx_object.proofs.wrap.Wrap.then.Given as goal

abbrev pub invariant-loop-change : goal.invariant-loop-change
invariant-loop-change l = (c : LeafContext) → acts (reverse (map (λ x. x.now) l.changes.items)) (acts l.wrap c) ≡ acts l.outer (acts l.self c)

abbrev pub decreases-loop-change : goal.decreases-loop-change
decreases-loop-change l = vec_len l.changes
