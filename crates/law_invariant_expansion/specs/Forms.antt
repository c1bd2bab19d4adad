-- Forms, and what was taken of a body so far, of which an invariant holds.
use Rattle.std.specs.Prelude.{List}
use Rattle.base_data.specs.Elements.{Each}
use Rattle.stx_tree.specs.Tree.{Tree}
use Rattle.core_shapes.specs.declared.shape.FormalIds.{FormalIds}
use Rattle.expand_heads.specs.declared.taken.Taken.{Taken}
use Rattle.expand_heads.specs.declared.taken.Waiting.{Waiting}
use Rattle.expand_heads.specs.declared.taken.Waits.{Waits}
use Rattle.expand_heads.specs.declared.taken.Waits.TheVariants as waits
use Rattle.law_invariants.specs.Invariant.{Invariant, OptionHolds}

module _ (I : Invariant) where
  abbrev pub TreesHold : List Tree → Type 0
  TreesHold ts = Each I.trees ts

  abbrev pub FormalsHold : FormalIds → Type 0
  FormalsHold ids = TreesHold ids.required × OptionHolds I.trees ids.rest

  -- the forms that wait for the second pass over a body
  abbrev pub WaitsHold : Waits → Type 0
  WaitsHold (waits.Variable l value) = OptionHolds I.trees value
  WaitsHold (waits.Procedure l t ids forms) = I.trees t × (FormalsHold ids × TreesHold forms)
  WaitsHold (waits.Expression t) = I.trees t

  abbrev pub TakenHolds : Taken → Type 0
  TakenHolds d = Each (λ (w : Waiting). WaitsHold w.what) d.waiting
