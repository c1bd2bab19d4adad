-- What a stage keeps while keywords are used and defined.
use Rattle.std.specs.Prelude.{◌≡◌, ◌≤◌, List, Option, Some, Result, Ok, Err}
use Rattle.base_data.specs.declared.fault.Fault.{Fault}
use Rattle.base_data.specs.declared.name.FrameNo.{FrameNo}
use Rattle.base_data.specs.declared.name.Label.{Label}
use Rattle.base_data.specs.declared.span.Span.{Span}
use Rattle.stx_tree.specs.Tree.{Tree}
use Rattle.core_language.specs.Core.{PlainCore}
use Rattle.core_language.specs.declared.record.CompiledLibrary.{CompiledLibrary}
use Rattle.eval_stage.specs.Stage.{PlainStage, expression_of}
use Rattle.eval_stage.specs.Transformers.{is_variable_transformer, evaluate_transformer}
use Rattle.eval_stage.specs.Uses.{used}

-- the expression of a keyword is kept
abbrev pub IsKeptOn : Label → PlainStage → Type 0
IsKeptOn l s = (c : PlainCore) × (expression_of l s ≡ Some c)

-- a later stage: it has the same frames, no name that was taken is free again, and what was kept is kept
pub record StageLater (s t : PlainStage) : Type 0 where
  pub frames : t.frames ≡ s.frames
  pub library : t.names.library ≡ s.names.library
  pub up : s.names.number ≤ t.names.number
  pub kept : (l : Label) → IsKeptOn l s → IsKeptOn l t

abbrev pub EndsLater : {A : Type 0} → PlainStage → Result (A × PlainStage) Fault → Type 0
EndsLater s (Ok p) = StageLater s p.1
EndsLater s (Err f) = Unit {0}

abbrev pub EndsKept : {A : Type 0} → Label → Result (A × PlainStage) Fault → Type 0
EndsKept l (Ok p) = IsKeptOn l p.1
EndsKept l (Err f) = Unit {0}

-- so it is where a keyword is used, where it is asked for its kind, and where its expression is evaluated
pub record StageGrows : Type 0 where
  pub uses : (place : Span) (rs : List CompiledLibrary) (t : Tree) (l : Label) (e : Option PlainCore) (frame : Option FrameNo) (s : PlainStage) → EndsLater s (used place rs t l e frame s)
  pub asks : (place : Span) (rs : List CompiledLibrary) (l : Label) (e : Option PlainCore) (s : PlainStage)
      → EndsLater s (is_variable_transformer place rs l e s)
  pub finishes : (place : Span) (rs : List CompiledLibrary) (l : Label) (c : PlainCore) (s : PlainStage) → EndsLater s (evaluate_transformer place rs l c s)
  -- and it is kept
  pub keeps : (place : Span) (rs : List CompiledLibrary) (l : Label) (c : PlainCore) (s : PlainStage) → EndsKept l (evaluate_transformer place rs l c s)
