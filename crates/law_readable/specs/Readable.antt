-- What of a tree, a value, a cell and core code can be written and read back: integers have at most 128 bits, texts are UTF-8, characters are
-- scalar values, bytes are bytes, symbols have one character or more, and a vector has its elements as a list.
use Rattle.std.specs.Prelude.{List}
use Rattle.std.specs.Str.{IsUtf8}
use Rattle.base_data.specs.Datum as datum
use Rattle.base_data.specs.Datum.{PlainDatum}
use Rattle.base_data.specs.declared.atom.Atom.{Atom}
use Rattle.base_data.specs.declared.atom.Atom.TheVariants as a
use Rattle.base_data.specs.declared.name.CodeNo.{CodeNo}
use Rattle.base_data.specs.declared.name.Label.{Label}
use Rattle.stx_tree.specs.Tree as tree
use Rattle.stx_tree.specs.Tree.{Tree}
use Rattle.core_language.specs.Core.{PlainCore, PlainCores, PlainInits, PlainCases, PlainClauses, PlainCode}
use Rattle.core_language.specs.Template.{PlainTemplate, PlainItems}
use Rattle.core_language.specs.declared.record.Line.{Line}
use Rattle.law_round.specs.Readable.{IsReadableAtom, IsName}
use Rattle.eval_value.specs.declared.value.Value.{Value}
use Rattle.eval_value.specs.declared.cell.Cell.{Cell}
use Rattle.law_invariants.specs.Holds as holds
use Rattle.law_invariants.specs.Invariant.{Invariant}

-- an atom, as the reader gives it where a form may be nested
abbrev pub ReadableAtom : Atom → Type 0
ReadableAtom x = IsReadableAtom 1 x

abbrev pub IsNil : Atom → Type 0
IsNil a.Nil = Unit {0}
IsNil x = ⊥

-- a list that ends with the empty list
abbrev pub IsProper : Tree → Type 0
IsProper (tree.atom s x) = IsNil x
IsProper (tree.leaf s x c) = ⊥
IsProper (tree.pair s a d) = IsProper d
IsProper (tree.vector s d) = ⊥

abbrev pub ReadableTree : Tree → Type 0
ReadableTree (tree.atom s x) = ReadableAtom x
ReadableTree (tree.leaf s x c) = IsName x
ReadableTree (tree.pair s a d) = ReadableTree a × ReadableTree d
ReadableTree (tree.vector s d) = ReadableTree d × IsProper d

-- so it is of data
abbrev pub IsProperDatum : PlainDatum → Type 0
IsProperDatum (datum.atom s x) = IsNil x
IsProperDatum (datum.symbol s x) = ⊥
IsProperDatum (datum.pair s d e) = IsProperDatum e
IsProperDatum (datum.vector s d) = ⊥

abbrev pub ReadableDatum : PlainDatum → Type 0
ReadableDatum (datum.atom s x) = ReadableAtom x
ReadableDatum (datum.symbol s x) = IsName x
ReadableDatum (datum.pair s d e) = ReadableDatum d × ReadableDatum e
ReadableDatum (datum.vector s d) = ReadableDatum d × IsProperDatum d

-- The invariant: so it is of all atoms, symbols, strings, trees and constants.
abbrev pub readable : Invariant
readable = record {
  atoms = ReadableAtom;
  symbols = IsName;
  texts = IsUtf8;
  trees = ReadableTree;
  constants = ReadableDatum;
  clauses = λ p A. A;
  templates = λ x A. A;
}

abbrev pub ReadableValue : Value → Type 0
ReadableValue = holds.ValueHolds readable

abbrev pub ReadableValues : List Value → Type 0
ReadableValues = holds.ValuesHold readable

abbrev pub ReadableCells : List Cell → Type 0
ReadableCells = holds.CellsHold readable

abbrev pub ReadableTemplate : PlainTemplate → Type 0
ReadableTemplate = holds.TemplateHolds readable

abbrev pub ReadableItems : PlainItems → Type 0
ReadableItems = holds.ItemsHold readable

abbrev pub ReadableCore : PlainCore → Type 0
ReadableCore = holds.CoreHolds readable

abbrev pub ReadableCores : PlainCores → Type 0
ReadableCores = holds.CoresHold readable

abbrev pub ReadableInits : PlainInits → Type 0
ReadableInits = holds.InitsHold readable

abbrev pub ReadableCases : PlainCases → Type 0
ReadableCases = holds.CasesHold readable

abbrev pub ReadableClauses : PlainClauses → Type 0
ReadableClauses = holds.ClausesHold readable

abbrev pub ReadableCode : PlainCode → Type 0
ReadableCode = holds.CodeHolds readable

abbrev pub ReadableCodes : List (CodeNo × PlainCode) → Type 0
ReadableCodes = holds.CodesHold readable

abbrev pub ReadableGlobals : List (Label × Value) → Type 0
ReadableGlobals = holds.GlobalsHold readable

abbrev pub ReadableLine : Line → Type 0
ReadableLine = holds.LineHolds readable

abbrev pub ReadableLines : List Line → Type 0
ReadableLines = holds.LinesHold readable
