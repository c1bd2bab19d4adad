-- Trees stay within their limits.
use Rattle.std.specs.Prelude.{◌≡◌, List, Option, Ok}
use Rattle.base_data.specs.declared.name.FrameNo.{FrameNo}
use Rattle.base_data.specs.declared.name.Label.{Label}
use Rattle.base_data.specs.declared.span.Span.{Span}
use Rattle.stx_tree.specs.Measures.{Fits}
use Rattle.stx_tree.specs.Tree.{Tree}
use Rattle.core_language.specs.Core.{PlainCore}
use Rattle.core_language.specs.declared.record.CompiledLibrary.{CompiledLibrary}
use Rattle.eval_stage.specs.Stage.{PlainStage}
use Rattle.eval_stage.specs.Transformers.{evaluate_transformer}
use Rattle.eval_stage.specs.Uses.{used}
use Rattle.law_limits.specs.Holds.{CoreHolds}
use Rattle.law_limits.specs.Stages.{ExpressionHolds, RecordsHold, StageHolds}

-- Where each tree on a stage, in records and in core code is at most 1,000 high and has at most 16,777,216 parts, so is the form that a use of
-- a keyword gives, and so are all on the stage then; and so they are when a keyword's expression was evaluated.
pub record UsesStayWithin : Type 0 where
  pub uses : (place : Span) (rs : List CompiledLibrary) (t : Tree) (l : Label) (e : Option PlainCore) (f : Option FrameNo) (g h : PlainStage) (u : Tree) → StageHolds Fits g → RecordsHold Fits rs → ExpressionHolds Fits e → Fits t
      → used place rs t l e f g ≡ Ok (u, h) → Fits u × StageHolds Fits h
  pub definitions : (place : Span) (rs : List CompiledLibrary) (l : Label) (c : PlainCore) (g h : PlainStage) → StageHolds Fits g
      → RecordsHold Fits rs → CoreHolds Fits c → evaluate_transformer place rs l c g ≡ Ok (tt, h) → StageHolds Fits h
