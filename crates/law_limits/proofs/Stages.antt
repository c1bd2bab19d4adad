-- What is done on a stage, uses among it, keeps such a law of all trees on it.
use Rattle.std.proofs.Common.{Bool, List, Option, Result}
use Rattle.base_data.specs.declared.fault.Fault.{Fault}
use Rattle.base_data.specs.declared.name.FrameNo.{FrameNo}
use Rattle.base_data.specs.declared.name.Label.{Label}
use Rattle.base_data.specs.declared.span.Span.{Span}
use Rattle.stx_tree.specs.Changes.{changed}
use Rattle.stx_tree.specs.Tree.{Tree}
use Rattle.stx_tree.specs.declared.change.Change.{Change}
use Rattle.core_language.specs.Core.{PlainCore}
use Rattle.core_language.specs.declared.record.CompiledLibrary.{CompiledLibrary}
use Rattle.eval_stage.specs.Stage.{PlainStage}
use Rattle.eval_stage.specs.Transformers.{begin_keyword, evaluate_transformer, is_variable_transformer}
use Rattle.eval_stage.specs.Uses.{used}
use Rattle.law_invariants.proofs.Steady as steady
use Rattle.law_limits.specs.Holds.{CoreHolds, trees}
use Rattle.law_limits.specs.Lawful.{IsLawful}
use Rattle.law_limits.specs.Stages.{ExpressionHolds, RecordsHold, StageHolds}
use Rattle.law_limits.proofs.Steady.{trees-steady}

module _ (T : Tree → Type 0) (lawful : IsLawful T) where
  pub changed-holds : (xs : List Change) (t : Tree) → T t → T (changed xs t)
  changed-holds xs t h = lawful.changed xs t h

  -- Where it gives a value and a stage, the law holds of all on the stage, and this holds of the value.
  abbrev pub GaveStage : {A : Type 0} → (A → Type 0) → Result (A × PlainStage) Fault → Type 0
  GaveStage = steady.GaveStage (trees T) (trees-steady T lawful)

  abbrev pub Done : Unit {0} → Type 0
  Done x = Unit {0}

  abbrev pub Told : Bool → Type 0
  Told x = Unit {0}

  pub begin-holds : (l : Label) (place : Span) (g : PlainStage) → StageHolds T g → GaveStage Done (begin_keyword l place g)
  begin-holds l place g h = steady.begin-holds (trees T) (trees-steady T lawful) l place g h

  pub finish-holds : (place : Span) (rs : List CompiledLibrary) (l : Label) (c : PlainCore) (g : PlainStage) → StageHolds T g → RecordsHold T rs → CoreHolds T c → GaveStage Done (evaluate_transformer place rs l c g)
  finish-holds place rs l c g h k j = steady.finish-holds (trees T) (trees-steady T lawful) place rs l c g h k j

  pub asks-holds : (place : Span) (rs : List CompiledLibrary) (l : Label) (e : Option PlainCore) (g : PlainStage) → StageHolds T g → RecordsHold T rs → ExpressionHolds T e → GaveStage Told (is_variable_transformer place rs l e g)
  asks-holds place rs l e g h k j = steady.asks-holds (trees T) (trees-steady T lawful) place rs l e g h k j

  pub used-holds : (place : Span) (rs : List CompiledLibrary) (t : Tree) (l : Label) (e : Option PlainCore) (f : Option FrameNo) (g : PlainStage) → StageHolds T g → RecordsHold T rs → ExpressionHolds T e → T t
      → GaveStage T (used place rs t l e f g)
  used-holds place rs t l e f g h k j i = steady.used-holds (trees T) (trees-steady T lawful) place rs t l e f g h k j i
