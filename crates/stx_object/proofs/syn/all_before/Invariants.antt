use Rattle.std.proofs.Common.{◌≡◌}
use Rattle.std.specs.Prelude.{vec_len}
use Rattle.stx_tree.specs.Tree.{chain}
use Rattle.stx_object.specs.Kept.{IsRest}
use Rattle.stx_object.proofs.syn.all_before.Given as goal

abbrev pub invariant-loop-item : goal.invariant-loop-item
invariant-loop-item l = record {
  list : chain l.items.items l.list ≡ chain l.fn.items.items l.fn.rest;
  rest : IsRest l.list;
}

abbrev pub decreases-loop-item : goal.decreases-loop-item
decreases-loop-item l = vec_len l.items
