-- States of an expansion in which all can be written and read back.
use Rattle.std.specs.Prelude.{List}
use Rattle.base_data.specs.declared.name.Label.{Label}
use Rattle.core_language.specs.declared.binding.Binding.{Binding}
use Rattle.expand_standing.specs.State.{State}
use Rattle.law_invariant_expansion.specs.States as states
use Rattle.law_readable.specs.Readable.{readable}

-- the symbol of a variable, and the expression of a keyword
abbrev pub ReadableBinding : Binding → Type 0
ReadableBinding = states.BindingHolds readable

abbrev pub ReadableBindings : List (Label × Binding) → Type 0
ReadableBindings = states.BindingsHold readable

abbrev pub ReadableIn : State → Type 0
ReadableIn = states.StateHoldsIn readable
