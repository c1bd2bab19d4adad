-- Stages and records of whose trees such a law holds.
use Rattle.std.specs.Prelude.{List, Option}
use Rattle.stx_tree.specs.Tree.{Tree}
use Rattle.core_language.specs.Core.{PlainCore}
use Rattle.core_language.specs.declared.record.CompiledLibrary.{CompiledLibrary}
use Rattle.eval_stage.specs.Stage.{PlainStage}
use Rattle.eval_stage.specs.declared.keyword.Keyword.{Keyword}
use Rattle.law_invariants.specs.Stages as stages
use Rattle.law_invariants.specs.Steady.{SteadyStage}
use Rattle.law_limits.specs.Holds.{trees}

module _ (T : Tree → Type 0) where
  -- the expression of a keyword, where it is there
  abbrev pub ExpressionHolds : Option PlainCore → Type 0
  ExpressionHolds = stages.ExpressionHolds (trees T)

  abbrev pub KeywordHolds : Keyword → Type 0
  KeywordHolds = stages.KeywordHolds (trees T)

  -- the lines of libraries, which are evaluated on demand
  abbrev pub RecordsHold : List CompiledLibrary → Type 0
  RecordsHold = stages.RecordsHold (trees T)

  -- all cells, codes, variables and keywords of a stage
  abbrev pub StageHolds : PlainStage → Type 0
  StageHolds = SteadyStage (trees T)
