-- Forms, and what was taken of a body so far, in which all leaves may be met.
use Rattle.std.specs.Prelude.{List}
use Rattle.base_data.specs.Elements.{Each}
use Rattle.stx_tree.specs.Context.{LeafContext}
use Rattle.stx_tree.specs.Tree.{Tree}
use Rattle.core_shapes.specs.declared.shape.FormalIds.{FormalIds}
use Rattle.expand_heads.specs.declared.taken.Taken.{Taken}
use Rattle.expand_heads.specs.declared.taken.Waiting.{Waiting}
use Rattle.expand_heads.specs.declared.taken.Waits.{Waits}
use Rattle.expand_heads.specs.declared.taken.Waits.TheVariants as waits
use Rattle.law_fresh.specs.Leaves.{OptionHolds, TreeHolds}

module _ (P : LeafContext → Type 0) where
  abbrev pub TreesHold : List Tree → Type 0
  TreesHold ts = Each (TreeHolds P) ts

  abbrev pub FormalsHold : FormalIds → Type 0
  FormalsHold ids = TreesHold ids.required × OptionHolds (TreeHolds P) ids.rest

  -- the forms that wait for the second pass over a body
  abbrev pub WaitsHold : Waits → Type 0
  WaitsHold (waits.Variable l value) = OptionHolds (TreeHolds P) value
  WaitsHold (waits.Procedure l t ids forms) = TreeHolds P t × (FormalsHold ids × TreesHold forms)
  WaitsHold (waits.Expression t) = TreeHolds P t

  abbrev pub TakenHolds : Taken → Type 0
  TakenHolds d = Each (λ (w : Waiting). WaitsHold w.what) d.waiting
