-- Stages on which all can be written and read back, and uses of keywords there.
use Rattle.std.specs.Prelude.{◌≡◌, List, Option, Ok}
use Rattle.base_data.specs.declared.name.FrameNo.{FrameNo}
use Rattle.base_data.specs.declared.name.Label.{Label}
use Rattle.base_data.specs.declared.span.Span.{Span}
use Rattle.stx_tree.specs.Tree.{Tree}
use Rattle.core_language.specs.Core.{PlainCore}
use Rattle.core_language.specs.declared.record.CompiledLibrary.{CompiledLibrary}
use Rattle.eval_stage.specs.Stage.{PlainStage}
use Rattle.eval_stage.specs.Transformers.{evaluate_transformer}
use Rattle.eval_stage.specs.Uses.{used}
use Rattle.eval_stage.specs.declared.keyword.Keyword.{Keyword}
use Rattle.law_invariants.specs.Stages as stages
use Rattle.law_invariants.specs.Steady.{SteadyStage}
use Rattle.law_readable.specs.Readable.{ReadableTree, ReadableCore, readable}

-- the expression of a keyword, where it is there
abbrev pub ReadableExpression : Option PlainCore → Type 0
ReadableExpression = stages.ExpressionHolds readable

abbrev pub ReadableKeyword : Keyword → Type 0
ReadableKeyword = stages.KeywordHolds readable

-- the lines of libraries, which are evaluated on demand
abbrev pub ReadableRecords : List CompiledLibrary → Type 0
ReadableRecords = stages.RecordsHold readable

-- all cells, codes, variables and keywords of a stage
abbrev pub ReadableStage : PlainStage → Type 0
ReadableStage = SteadyStage readable

-- So it is when a keyword was used, and the form that its transformer gives can be read; and so it is when a keyword's expression was
-- evaluated.
pub record UsesMakeReadables : Type 0 where
  pub uses : (place : Span) (rs : List CompiledLibrary) (t : Tree) (l : Label) (e : Option PlainCore) (f : Option FrameNo) (g h : PlainStage) (u : Tree) → ReadableStage g → ReadableRecords rs → ReadableExpression e → ReadableTree t
      → used place rs t l e f g ≡ Ok (u, h) → ReadableTree u × ReadableStage h
  pub definitions : (place : Span) (rs : List CompiledLibrary) (l : Label) (c : PlainCore) (g h : PlainStage) → ReadableStage g
      → ReadableRecords rs → ReadableCore c → evaluate_transformer place rs l c g ≡ Ok (tt, h) → ReadableStage h
