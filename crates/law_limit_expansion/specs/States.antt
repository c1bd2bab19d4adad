-- States of an expansion of whose trees such a law holds.
use Rattle.std.specs.Prelude.{List}
use Rattle.base_data.specs.declared.name.Label.{Label}
use Rattle.core_language.specs.declared.binding.Binding.{Binding}
use Rattle.expand_standing.specs.State.{State}
use Rattle.stx_tree.specs.Tree.{Tree}
use Rattle.law_invariant_expansion.specs.States as states
use Rattle.law_limits.specs.Holds.{trees}

module _ (T : Tree → Type 0) where
  abbrev pub BindingHolds : Binding → Type 0
  BindingHolds = states.BindingHolds (trees T)

  abbrev pub BindingsHold : List (Label × Binding) → Type 0
  BindingsHold = states.BindingsHold (trees T)

  abbrev pub HoldsIn : State → Type 0
  HoldsIn = states.StateHoldsIn (trees T)
