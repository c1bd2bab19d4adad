-- States of an expansion in which an invariant holds.
use Rattle.std.specs.Prelude.{List}
use Rattle.base_data.specs.Elements.{Each}
use Rattle.base_data.specs.declared.name.Label.{Label}
use Rattle.core_language.specs.declared.binding.Binding.{Binding}
use Rattle.core_language.specs.declared.binding.Binding.TheVariants as binding
use Rattle.expand_standing.specs.State.{State, stage_of}
use Rattle.law_invariants.specs.Stages.{ExpressionHolds}
use Rattle.law_invariants.specs.Steady.{SteadyStage}
use Rattle.law_invariants.specs.Invariant.{Invariant}

module _ (I : Invariant) where
  abbrev pub BindingHolds : Binding → Type 0
  BindingHolds (binding.Variable v) = I.symbols v.symbol
  BindingHolds (binding.PatternVariable level depth) = Unit {0}
  BindingHolds (binding.Macro level e) = ExpressionHolds I e
  BindingHolds (binding.Core f) = Unit {0}
  BindingHolds (binding.Primitive op) = Unit {0}

  abbrev pub BindingsHold : List (Label × Binding) → Type 0
  BindingsHold bs = Each (λ (b : Label × Binding). BindingHolds b.1) bs

  pub record StateHoldsIn (s : State) : Type 0 where
    pub stage : SteadyStage I (stage_of s)
    pub bindings : BindingsHold s.bindings
