-- Evaluation keeps what passes tests that primitives keep.
use Rattle.std.specs.Prelude.{◌≡◌, ℕ, Bool, List, Option, Ok, IsTrue}
use Rattle.base_data.specs.Datum.{PlainDatum}
use Rattle.base_data.specs.Named.{Named}
use Rattle.base_data.specs.declared.atom.Atom.{Atom}
use Rattle.base_data.specs.declared.name.FrameNo.{FrameNo}
use Rattle.base_data.specs.declared.name.Label.{Label}
use Rattle.base_data.specs.declared.span.Span.{Span}
use Rattle.base_region.specs.declared.region.Place.{Place}
use Rattle.stx_tree.specs.Changes.{changed}
use Rattle.stx_tree.specs.Tree.{Tree}
use Rattle.stx_tree.specs.declared.change.Change.{Change}
use Rattle.core_language.specs.Core.{PlainCore}
use Rattle.core_language.specs.declared.record.CompiledLibrary.{CompiledLibrary}
use Rattle.core_language.specs.declared.record.Line.{Line}
use Rattle.eval_value.specs.declared.value.Value.{Value}
use Rattle.eval_prims.specs.Perform.{temporary}
use Rattle.eval_code.specs.Lines.{lines_from}
use Rattle.eval_code.specs.Meaning.{eval_of, applied}
use Rattle.eval_code.specs.Setting.{PlainSetting}
use Rattle.eval_code.specs.State.{WorldState}
use Rattle.eval_stage.specs.Stage.{PlainStage}
use Rattle.eval_stage.specs.Uses.{used}
use Rattle.law_invariants.specs.Closed.{IsClosed}
use Rattle.law_invariants.specs.Holds.{ValuesHold, CoreHolds, LinesHold}
use Rattle.law_invariants.specs.Invariant.{Invariant}
use Rattle.law_invariants.specs.Outcome.{SettingHolds}
use Rattle.law_invariants.specs.Stages.{ExpressionHolds, RecordsHold}
use Rattle.law_invariants.specs.Steady.{SteadyState, SteadyOutcome, SteadyStage}

-- of atoms, of the texts of symbols and of strings, of trees and of the data of constants
pub record Tests : Type 0 where
  pub atoms : Atom → Bool
  pub symbols : List ℕ → Bool
  pub texts : List ℕ → Bool
  pub trees : Tree → Bool
  pub constants : PlainDatum → Bool

-- what passes them
abbrev pub passing : Tests → Invariant
passing t = record {
  atoms = λ x. IsTrue (t.atoms x);
  symbols = λ s. IsTrue (t.symbols s);
  texts = λ s. IsTrue (t.texts s);
  trees = λ u. IsTrue (t.trees u);
  constants = λ d. IsTrue (t.constants d);
  clauses = λ p A. A;
  templates = λ x A. A;
}

-- Primitives make what passes of what passes; temporaries pass, and so do trees with other marks and stamps.
pub record AreKept (t : Tests) : Type 0 where
  pub closed : IsClosed (passing t)
  pub temporaries : (n : Named) → IsTrue (t.trees (temporary n))
  pub changed : (cs : List Change) (u : Tree) → IsTrue (t.trees u) → IsTrue (t.trees (changed cs u))

pub record EvaluationKeeps : Type 0 where
  pub expressions : (t : Tests) (w : PlainSetting) (c : PlainCore) (scope : Place) (s : WorldState) (n : ℕ) → AreKept t
      → SettingHolds (passing t) w → SteadyState (passing t) s
      → CoreHolds (passing t) c → SteadyOutcome (passing t) (eval_of w c scope s n)
  pub calls : (t : Tests) (w : PlainSetting) (vs : List Value) (s : WorldState) (n : ℕ) → AreKept t → SettingHolds (passing t) w → SteadyState (passing t) s
      → ValuesHold (passing t) vs → SteadyOutcome (passing t) (applied w (eval_of w) vs s n)
  pub libraries : (t : Tests) (w : PlainSetting) (ls : List Line) (scope : Place) (s : WorldState) (n : ℕ) → AreKept t
      → SettingHolds (passing t) w → SteadyState (passing t) s
      → LinesHold (passing t) ls → SteadyOutcome (passing t) (lines_from (eval_of w) ls scope s n)
  pub uses : (t : Tests) (place : Span) (rs : List CompiledLibrary) (u v : Tree) (l : Label) (e : Option PlainCore) (f : Option FrameNo) (g h : PlainStage) → AreKept t → SteadyStage (passing t) g
      → RecordsHold (passing t) rs → ExpressionHolds (passing t) e → IsTrue (t.trees u) → used place rs u l e f g ≡ Ok (v, h)
      → IsTrue (t.trees v) × SteadyStage (passing t) h
