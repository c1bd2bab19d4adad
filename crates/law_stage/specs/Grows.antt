-- What a stage keeps.
use Rattle.std.specs.Prelude.{◌≡◌, ◌≤◌, true, List, Option, None, Some, Result, Ok, Err}
use Rattle.base_data.specs.declared.fault.Fault.{Fault}
use Rattle.base_data.specs.declared.library.LibName.{LibName}
use Rattle.base_data.specs.declared.name.FrameNo.{FrameNo}
use Rattle.base_data.specs.declared.name.Label.{Label}
use Rattle.base_data.specs.declared.span.Span.{Span}
use Rattle.stx_tree.specs.Tree.{Tree}
use Rattle.core_language.specs.Core.{PlainCore}
use Rattle.core_language.specs.declared.record.CompiledLibrary.{CompiledLibrary}
use Rattle.eval_value.specs.FromDatum.{Keeps}
use Rattle.eval_value.specs.declared.value.Value.{Value}
use Rattle.eval_stage.specs.Libraries.{has_library}
use Rattle.eval_stage.specs.Stage.{PlainStage, keyword_at}
use Rattle.eval_stage.specs.Transformers.{begin_keyword, evaluate_transformer, keyword_value, is_variable_transformer}
use Rattle.eval_stage.specs.Uses.{used}
use Rattle.eval_stage.specs.declared.keyword.Keyword.{Keyword}
use Rattle.eval_stage.specs.declared.keyword.Keyword.TheVariants as keyword

-- A stage that comes after another: the cells that were there are there still, each in its place; the frames are the same; no name that
-- was taken is free again; what was evaluated was evaluated, and what was kept is kept.
pub record StageGrowth (s t : PlainStage) : Type 0 where
  pub cells : Keeps s.cells t.cells
  pub frames : t.frames ≡ s.frames
  pub library : t.names.library ≡ s.names.library
  pub names : s.names.number ≤ t.names.number
  pub evaluated : (k : LibName) → has_library s.evaluated k ≡ true → has_library t.evaluated k ≡ true
  pub kept : (l : Label) (e : Option PlainCore) (v : Value) → keyword_at s.keywords l ≡ Some (keyword.Kept e v)
      → keyword_at t.keywords l ≡ Some (keyword.Kept e v)
  pub spent : s.spent ≤ t.spent

-- what holds of the stage that is left, unless there is a fault
abbrev pub By : {A : Type 0} → (PlainStage → PlainStage → Type 0) → PlainStage → Result (A × PlainStage) Fault → Type 0
By R s (Ok p) = R s p.1
By R s (Err f) = Unit {0}

abbrev pub GrowsBy : {A : Type 0} → PlainStage → Result (A × PlainStage) Fault → Type 0
GrowsBy s r = By StageGrowth s r

-- a keyword whose transformer isn't kept
abbrev pub IsNotKept : Option Keyword → Type 0
IsNotKept None = Unit {0}
IsNotKept (Some (keyword.Waiting place)) = Unit {0}
IsNotKept (Some (keyword.Kept e v)) = ⊥

-- Keywords begin and are finished once each; asking for one, and using it, may be done at any time.
abbrev pub BeginGrows : Type 0
BeginGrows = (l : Label) (place : Span) (s : PlainStage) → IsNotKept (keyword_at s.keywords l) → GrowsBy s (begin_keyword l place s)

abbrev pub FinishGrows : Type 0
FinishGrows = (place : Span) (rs : List CompiledLibrary) (l : Label) (c : PlainCore) (s : PlainStage) → IsNotKept (keyword_at s.keywords l)
    → GrowsBy s (evaluate_transformer place rs l c s)

abbrev pub ValueGrows : Type 0
ValueGrows = (place : Span) (rs : List CompiledLibrary) (l : Label) (e : Option PlainCore) (s : PlainStage) → GrowsBy s (keyword_value place rs l e s)

abbrev pub VariableGrows : Type 0
VariableGrows = (place : Span) (rs : List CompiledLibrary) (l : Label) (e : Option PlainCore) (s : PlainStage)
    → GrowsBy s (is_variable_transformer place rs l e s)

abbrev pub UseGrows : Type 0
UseGrows = (place : Span) (rs : List CompiledLibrary) (form : Tree) (l : Label) (e : Option PlainCore) (frame : Option FrameNo) (s : PlainStage)
    → GrowsBy s (used place rs form l e frame s)
