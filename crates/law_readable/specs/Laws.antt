-- What an evaluation makes can be written and read back, where what it is made of can.
use Rattle.std.specs.Prelude.{◌≡◌, ℕ, List, Ok}
use Rattle.base_data.specs.Datum.{PlainDatum}
use Rattle.base_data.specs.Named.{Named}
use Rattle.base_region.specs.declared.region.Place.{Place}
use Rattle.stx_tree.specs.Tree.{Tree}
use Rattle.stx_frames.specs.Scope.{Scope}
use Rattle.core_language.specs.Core.{PlainCore}
use Rattle.core_language.specs.declared.record.Line.{Line}
use Rattle.law_round.specs.Readable.{IsReadable}
use Rattle.eval_value.specs.ToSyntax.{to_syntax}
use Rattle.eval_value.specs.declared.cell.Cell.{Cell}
use Rattle.eval_value.specs.declared.value.Value.{Value}
use Rattle.eval_prims.specs.Delta.{delta}
use Rattle.eval_prims.specs.Perform.{performed}
use Rattle.eval_prims.specs.declared.made.PrimResult.{PrimResult}
use Rattle.eval_code.specs.Lines.{lines_from}
use Rattle.eval_code.specs.Meaning.{eval_of, applied}
use Rattle.eval_code.specs.Setting.{PlainSetting}
use Rattle.eval_code.specs.State.{WorldState}
use Rattle.law_readable.specs.Outcome.{ReadableSetting, ReadableState, ReadableOutcome}
use Rattle.law_readable.specs.Readable.{ReadableDatum, ReadableTree, ReadableValue, ReadableValues, ReadableCells, ReadableCore, ReadableLines}

-- what a primitive makes
abbrev pub PrimitivesMakeReadables : Type 0
PrimitivesMakeReadables = (op : ℕ) (args : List Value) (cells : List Cell) (frames : Scope) (name : Named) (m : PrimResult)
    → ReadableCells cells → ReadableValues args → delta op args cells frames ≡ Ok m
    → ReadableValue (performed m name cells).0 × ReadableCells (performed m name cells).1

-- what expressions, calls and the lines of libraries come to
pub record ReadablesStay : Type 0 where
  pub expressions : (w : PlainSetting) (c : PlainCore) (scope : Place) (s : WorldState) (n : ℕ) → ReadableSetting w → ReadableState s
      → ReadableCore c → ReadableOutcome (eval_of w c scope s n)
  pub calls : (w : PlainSetting) (vs : List Value) (s : WorldState) (n : ℕ) → ReadableSetting w → ReadableState s → ReadableValues vs
      → ReadableOutcome (applied w (eval_of w) vs s n)
  pub libraries : (w : PlainSetting) (ls : List Line) (scope : Place) (s : WorldState) (n : ℕ) → ReadableSetting w → ReadableState s
      → ReadableLines ls → ReadableOutcome (lines_from (eval_of w) ls scope s n)
  -- and the trees that values are read as
  pub trees : (cells : List Cell) (v : Value) (fuel left : ℕ) (t : Tree) → ReadableCells cells → ReadableValue v
      → to_syntax cells v fuel ≡ Ok (t, left) → ReadableTree t

-- Such a datum is read back from its text, where some number of forms may be nested.
abbrev pub ReadablesAreRead : Type 0
ReadablesAreRead = (d : PlainDatum) → ReadableDatum d → (n : ℕ) × IsReadable n d
