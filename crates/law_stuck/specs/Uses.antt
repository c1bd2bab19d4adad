-- What is done on a steady stage never gets stuck, and leaves a steady stage.
use Rattle.std.specs.Prelude.{◌≡◌, List, [], Option}
use Rattle.base_data.specs.Elements.{Each, Among}
use Rattle.base_data.specs.declared.library.LibName.{LibName}
use Rattle.base_data.specs.declared.name.CodeNo.{CodeNo}
use Rattle.base_data.specs.declared.name.FrameNo.{FrameNo}
use Rattle.base_data.specs.declared.name.Label.{Label}
use Rattle.base_data.specs.declared.span.Span.{Span}
use Rattle.stx_tree.specs.Tree.{Tree}
use Rattle.core_language.specs.Core.{PlainCore}
use Rattle.core_language.specs.declared.record.CompiledLibrary.{CompiledLibrary}
use Rattle.law_core.specs.Parts.{code_numbers}
use Rattle.law_core.specs.Follows.{names_of}
use Rattle.eval_stage.specs.Stage.{PlainStage, keyword_at}
use Rattle.eval_stage.specs.Transformers.{begin_keyword, evaluate_transformer, keyword_value, is_variable_transformer}
use Rattle.eval_stage.specs.Uses.{used}
use Rattle.law_stage.specs.Grows.{IsNotKept}
use Rattle.law_stuck.specs.Behind.{IsOfTexts, AllBehind, IsImported, IsKeywordExpression}
use Rattle.law_stuck.specs.Steady.{OwnHasCode, Steady, EndsSteady, EndsReady}

-- A library with a new name, behind records that stand behind one another. The texts have names of their own.
pub record Around (own : LibName) (texts : List CodeNo) (rs : List CompiledLibrary) : Type 0 where
  pub new : Among (names_of rs) own → ⊥
  pub no_text : IsOfTexts own → ⊥
  pub texts_only : Each (λ (n : CodeNo). IsOfTexts n.0.library) texts
  pub behind : AllBehind [] rs

-- its stage, which is steady
pub record OnSteady (own : LibName) (texts : List CodeNo) (rs : List CompiledLibrary) (s : PlainStage) : Type 0 where
  pub around : Around own texts rs
  pub steady : Steady own texts rs s

-- a use of a keyword, an imported one included, whose libraries and transformer are evaluated first
abbrev pub UsesNeverStuck : Type 0
UsesNeverStuck = (own : LibName) (texts : List CodeNo) (place : Span) (rs : List CompiledLibrary) (form : Tree) (l : Label)
    (e : Option PlainCore) (frame : Option FrameNo) (s : PlainStage)
    → OnSteady own texts rs s → IsImported rs l e → EndsSteady own texts rs (used place rs form l e frame s)

-- the transformer that it is used by
abbrev pub TransformersNeverStuck : Type 0
TransformersNeverStuck = (own : LibName) (texts : List CodeNo) (place : Span) (rs : List CompiledLibrary) (l : Label) (e : Option PlainCore) (s : PlainStage)
    → OnSteady own texts rs s → IsImported rs l e → EndsReady own texts rs (keyword_value place rs l e s)

-- whether assignments are uses of it
abbrev pub AsksNeverStuck : Type 0
AsksNeverStuck = (own : LibName) (texts : List CodeNo) (place : Span) (rs : List CompiledLibrary) (l : Label) (e : Option PlainCore) (s : PlainStage)
    → OnSteady own texts rs s → IsImported rs l e → EndsSteady own texts rs (is_variable_transformer place rs l e s)

-- a keyword that waits for its expression
abbrev pub BeginsNeverStuck : Type 0
BeginsNeverStuck = (own : LibName) (texts : List CodeNo) (place : Span) (rs : List CompiledLibrary) (l : Label) (s : PlainStage)
    → OnSteady own texts rs s → IsNotKept (keyword_at s.keywords l) → EndsSteady own texts rs (begin_keyword l place s)

-- an own keyword whose transformer is evaluated: its expression has codes of the library, none of them in that of another keyword that is kept
abbrev pub FinishesNeverStuck : Type 0
FinishesNeverStuck = (own : LibName) (texts : List CodeNo) (place : Span) (rs : List CompiledLibrary) (l : Label) (c : PlainCore) (s : PlainStage)
    → OnSteady own texts rs s → l.0.library ≡ own → IsNotKept (keyword_at s.keywords l) → IsKeywordExpression rs c
    → Each (λ (n : CodeNo). n.0.library ≡ own) (code_numbers c)
    → Each (λ n. OwnHasCode own s.keywords n → ⊥) (code_numbers c) → EndsSteady own texts rs (evaluate_transformer place rs l c s)
