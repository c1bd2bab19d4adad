-- Stages and states in which all leaves and rows may be met.
use Rattle.std.specs.Prelude.{ℕ, List, Option}
use Rattle.base_data.specs.Elements.{Each}
use Rattle.base_data.specs.declared.library.LibName.{LibName}
use Rattle.base_data.specs.declared.name.Label.{Label}
use Rattle.base_data.specs.declared.name.Mark.{Mark}
use Rattle.stx_tree.specs.Context.{LeafContext}
use Rattle.core_language.specs.Core.{PlainCore}
use Rattle.core_language.specs.declared.binding.Binding.{Binding}
use Rattle.core_language.specs.declared.binding.Binding.TheVariants as binding
use Rattle.core_language.specs.declared.record.CompiledLibrary.{CompiledLibrary}
use Rattle.eval_stage.specs.Stage.{PlainStage}
use Rattle.eval_stage.specs.declared.keyword.Keyword.{Keyword}
use Rattle.expand_standing.specs.State.{State, stage_of}
use Rattle.law_invariants.specs.Stages as stages
use Rattle.law_fresh.specs.Leaves.{leaves}

module _ (P : LeafContext → Type 0) where
  abbrev pub ExpressionHolds : Option PlainCore → Type 0
  ExpressionHolds = stages.ExpressionHolds (leaves P)

  -- the expression and the transformer of a keyword
  abbrev pub KeywordHolds : Keyword → Type 0
  KeywordHolds = stages.KeywordHolds (leaves P)

  abbrev pub KeywordsHold : List (Label × Keyword) → Type 0
  KeywordsHold = stages.KeywordsHold (leaves P)

  abbrev pub BindingHolds : Binding → Type 0
  BindingHolds (binding.Variable v) = Unit {0}
  BindingHolds (binding.PatternVariable level depth) = Unit {0}
  BindingHolds (binding.Macro level e) = ExpressionHolds e
  BindingHolds (binding.Core f) = Unit {0}
  BindingHolds (binding.Primitive op) = Unit {0}

  abbrev pub BindingsHold : List (Label × Binding) → Type 0
  BindingsHold bs = Each (λ (b : Label × Binding). BindingHolds b.1) bs

  -- the lines of libraries, which are evaluated on demand
  abbrev pub RecordsHold : List CompiledLibrary → Type 0
  RecordsHold = stages.RecordsHold (leaves P)

-- All that is kept on a stage, from when this was the next name.
abbrev pub StageHolds : (own : LibName) (K : ℕ → Mark → Type 0) (P : ℕ → LeafContext → Type 0) (m : ℕ) → PlainStage → Type 0
StageHolds own K P m = stages.StageHolds own K (λ n. leaves (P n)) m

-- And all that is kept in an expansion.
pub record FreshStateHolds (own : LibName) (K : ℕ → Mark → Type 0) (P : ℕ → LeafContext → Type 0) (m : ℕ) (s : State) : Type 0 where
  pub stage : StageHolds own K P m (stage_of s)
  pub bindings : BindingsHold (P s.names.number) s.bindings
