-- States of an expansion in which nothing gets stuck.
use Rattle.std.specs.Prelude.{◌≡◌, ◌<◌, ℕ, List, Option, Some}
use Rattle.std.specs.List.{flat_map}
use Rattle.base_data.specs.declared.library.LibName.{LibName}
use Rattle.base_data.specs.declared.name.CodeNo.{CodeNo}
use Rattle.base_data.specs.declared.name.Label.{Label}
use Rattle.core_language.specs.Core.{PlainCore}
use Rattle.core_language.specs.declared.record.CompiledLibrary.{CompiledLibrary}
use Rattle.law_core.specs.Records.{defined}
use Rattle.eval_value.specs.declared.value.Value.{Value}
use Rattle.eval_stage.specs.Stage.{PlainStage, keyword_at}
use Rattle.eval_stage.specs.declared.keyword.Keyword.{Keyword}
use Rattle.eval_stage.specs.declared.keyword.Keyword.TheVariants as keyword
use Rattle.expand_standing.specs.State.{State, stage_of}
use Rattle.law_expand.specs.Kept.{IsGoodState}
use Rattle.law_expand.specs.States.{IsOwn, IsMacro}
use Rattle.law_stuck.specs.Behind.{IsKeywordOf}
use Rattle.law_stuck.specs.Steady.{Steady}
use Rattle.law_stuck.specs.Uses.{Around}

-- the transformer of the keyword is kept
abbrev pub KeptAt : List (Label × Keyword) → Label → Option PlainCore → Value → Type 0
KeptAt ks l e v = keyword_at ks l ≡ Some (keyword.Kept e v)

-- of the library: those that are kept have labels that were made
abbrev pub OwnMade : LibName → PlainStage → Type 0
OwnMade own g = (l : Label) (e : Option PlainCore) (v : Value) → KeptAt g.keywords l e v → IsOwn own l.0 → l.0.number < g.names.number

-- With the codes of these texts and behind these records: the stage is steady, so its world is whole and what is kept is ready. Each keyword that has its
-- expression in its binding is one of these records.
pub record IsSteadyState (own : LibName) (texts : List CodeNo) (records : List CompiledLibrary) (s : State) : Type 0 where
  pub stage : Steady own texts records (stage_of s)
  pub imported : (l : Label) (level : ℕ) (c : PlainCore) → IsMacro s l level (Some c) → IsKeywordOf records l c
  pub made : OwnMade own (stage_of s)

-- A state of the expansion of a library behind records that stand behind one another. Of the library's own keywords that are kept the labels and all names in
-- their expressions were made, and no two share a name.
pub record IsWholeState (own : LibName) (texts : List CodeNo) (records : List CompiledLibrary) (s : State) : Type 0 where
  pub around : Around own texts records
  pub good : IsGoodState own (flat_map defined records) s
  pub steady : IsSteadyState own texts records s
