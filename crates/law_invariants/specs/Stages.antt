-- Stages on which an invariant holds.
use Rattle.std.specs.Prelude.{◌≡◌, ◌≤◌, ℕ, List, Option, None, Some}
use Rattle.base_data.specs.Elements.{Each}
use Rattle.base_data.specs.declared.library.LibName.{LibName}
use Rattle.base_data.specs.declared.name.FrameNo.{FrameNo}
use Rattle.base_data.specs.declared.name.Label.{Label}
use Rattle.base_data.specs.declared.name.Mark.{Mark}
use Rattle.stx_frames.specs.Rows.{Row}
use Rattle.stx_frames.specs.Scope.{Scope}
use Rattle.core_language.specs.Core.{PlainCore}
use Rattle.core_language.specs.declared.record.CompiledLibrary.{CompiledLibrary}
use Rattle.eval_stage.specs.Stage.{PlainStage}
use Rattle.eval_stage.specs.declared.keyword.Keyword.{Keyword}
use Rattle.eval_stage.specs.declared.keyword.Keyword.TheVariants as keyword
use Rattle.law_invariants.specs.Holds.{ValueHolds, CellsHold, CoreHolds, CodesHold, GlobalsHold, LinesHold}
use Rattle.law_invariants.specs.Invariant.{Invariant}

abbrev pub mark_of : LibName → ℕ → Mark
mark_of own n = record { 0 = record { library = own; number = n } }

-- K holds of the marks in the rows of frames
abbrev pub RowsHold : (Mark → Type 0) → Scope → Type 0
RowsHold K fs = Each (λ (e : FrameNo × List Row). Each (λ (r : Row). Each K r.marks) e.1) fs

module _ (I : Invariant) where
  -- the expression of a keyword, where it is there
  abbrev pub ExpressionHolds : Option PlainCore → Type 0
  ExpressionHolds None = Unit {0}
  ExpressionHolds (Some c) = CoreHolds I c

  -- the expression and the transformer of a keyword
  abbrev pub KeywordHolds : Keyword → Type 0
  KeywordHolds (keyword.Waiting place) = Unit {0}
  KeywordHolds (keyword.Kept e v) = ExpressionHolds e × ValueHolds I v

  abbrev pub KeywordsHold : List (Label × Keyword) → Type 0
  KeywordsHold ks = Each (λ (k : Label × Keyword). KeywordHolds k.1) ks

  -- the lines of libraries, which are evaluated on demand
  abbrev pub RecordsHold : List CompiledLibrary → Type 0
  RecordsHold rs = Each (λ (r : CompiledLibrary). LinesHold I r.run) rs

-- All that is kept on a stage, from when this was the next name.
pub record StageHolds (own : LibName) (K : ℕ → Mark → Type 0) (I : ℕ → Invariant) (m : ℕ) (g : PlainStage) : Type 0 where
  pub up : m ≤ g.names.number
  pub library : g.names.library ≡ own
  pub frames : RowsHold (K g.names.number) g.frames
  pub cells : CellsHold (I g.names.number) g.cells
  pub codes : CodesHold (I g.names.number) g.codes
  pub globals : GlobalsHold (I g.names.number) g.globals
  pub keywords : KeywordsHold (I g.names.number) g.keywords
