-- What is done on a stage, uses among it, keeps that all on it can be written and read back.
use Rattle.std.proofs.Common.{Bool, List, Option, Result, subst}
use Rattle.base_data.specs.declared.fault.Fault.{Fault}
use Rattle.base_data.specs.declared.name.FrameNo.{FrameNo}
use Rattle.base_data.specs.declared.name.Label.{Label}
use Rattle.base_data.specs.declared.span.Span.{Span}
use Rattle.stx_tree.specs.Tree.{Tree}
use Rattle.core_language.specs.Core.{PlainCore}
use Rattle.core_language.specs.declared.record.CompiledLibrary.{CompiledLibrary}
use Rattle.eval_stage.specs.Stage.{PlainStage}
use Rattle.eval_stage.specs.Transformers.{begin_keyword, evaluate_transformer, is_variable_transformer}
use Rattle.eval_stage.specs.Uses.{used}
use Rattle.law_invariants.proofs.Steady as steady
use Rattle.law_readable.specs.Readable.{ReadableTree, ReadableCore, readable}
use Rattle.law_readable.specs.Stages.{ReadableExpression, ReadableRecords, ReadableStage, UsesMakeReadables}
use Rattle.law_readable.proofs.Steady.{readable-steady}
pub use Rattle.law_readable.proofs.Steady.{changed-holds}

-- Where it gives a value and a stage, all on the stage can be read, and this holds of the value.
abbrev pub GaveStage : {A : Type 0} → (A → Type 0) → Result (A × PlainStage) Fault → Type 0
GaveStage = steady.GaveStage readable readable-steady

abbrev pub Done : Unit {0} → Type 0
Done x = Unit {0}

abbrev pub Told : Bool → Type 0
Told x = Unit {0}

pub begin-holds : (l : Label) (place : Span) (g : PlainStage) → ReadableStage g → GaveStage Done (begin_keyword l place g)
begin-holds l place g h = steady.begin-holds readable readable-steady l place g h

pub finish-holds : (place : Span) (rs : List CompiledLibrary) (l : Label) (c : PlainCore) (g : PlainStage) → ReadableStage g → ReadableRecords rs → ReadableCore c → GaveStage Done (evaluate_transformer place rs l c g)
finish-holds place rs l c g h k j = steady.finish-holds readable readable-steady place rs l c g h k j

pub asks-holds : (place : Span) (rs : List CompiledLibrary) (l : Label) (e : Option PlainCore) (g : PlainStage) → ReadableStage g → ReadableRecords rs → ReadableExpression e → GaveStage Told (is_variable_transformer place rs l e g)
asks-holds place rs l e g h k j = steady.asks-holds readable readable-steady place rs l e g h k j

pub used-holds : (place : Span) (rs : List CompiledLibrary) (t : Tree) (l : Label) (e : Option PlainCore) (f : Option FrameNo) (g : PlainStage) → ReadableStage g → ReadableRecords rs → ReadableExpression e → ReadableTree t
    → GaveStage ReadableTree (used place rs t l e f g)
used-holds place rs t l e f g h k j i = steady.used-holds readable readable-steady place rs t l e f g h k j i

pub uses-make : UsesMakeReadables
uses-make = record {
  uses = λ place rs t l e f g h u stage records expression tree is. let k = subst (GaveStage ReadableTree) is (used-holds place rs t l e f g stage records expression tree) in (k.1, k.0);
  definitions = λ place rs l c g h stage records code is. (subst (GaveStage Done) is (finish-holds place rs l c g stage records code)).0;
}
