-- What holds of each leaf of a tree, by its marks and stamps; and so of each leaf in a value, in cells, in core code.
use Rattle.std.specs.Prelude.{List, Option}
use Rattle.base_data.specs.declared.name.CodeNo.{CodeNo}
use Rattle.base_data.specs.declared.name.Label.{Label}
use Rattle.stx_tree.specs.Context.{LeafContext}
use Rattle.stx_tree.specs.Tree as tree
use Rattle.stx_tree.specs.Tree.{Tree}
use Rattle.core_language.specs.Core.{PlainCore, PlainCores, PlainInits, PlainCases, PlainClauses, PlainCode}
use Rattle.core_language.specs.Pattern as pattern
use Rattle.core_language.specs.Pattern.{PlainPattern, PlainPatterns}
use Rattle.core_language.specs.Template.{PlainTemplate, PlainItems}
use Rattle.core_language.specs.declared.record.Line.{Line}
use Rattle.eval_value.specs.declared.value.Value.{Value}
use Rattle.eval_value.specs.declared.cell.Cell.{Cell}
use Rattle.law_invariants.specs.Holds as holds
use Rattle.law_invariants.specs.Invariant.{Invariant}
pub use Rattle.law_invariants.specs.Invariant.{OptionHolds}

module _ (P : LeafContext → Type 0) where
  abbrev pub TreeHolds : Tree → Type 0
  TreeHolds (tree.atom s a) = Unit {0}
  TreeHolds (tree.leaf s x c) = P c
  TreeHolds (tree.pair s a d) = TreeHolds a × TreeHolds d
  TreeHolds (tree.vector s d) = TreeHolds d

  -- The literals of patterns.
  abbrev mutual
    pub PatternHolds : PlainPattern → Type 0
    PatternHolds pattern.any = Unit {0}
    PatternHolds (pattern.variable l) = Unit {0}
    PatternHolds (pattern.literal t) = TreeHolds t
    PatternHolds (pattern.atom a) = Unit {0}
    PatternHolds (pattern.list ps t) = PatternsHold ps × PatternHolds t
    PatternHolds (pattern.vector ps) = PatternsHold ps

    pub PatternsHold : PlainPatterns → Type 0
    PatternsHold pattern.none = Unit {0}
    PatternsHold (pattern.more p ps) = PatternHolds p × PatternsHold ps
    PatternsHold (pattern.dots p ps) = PatternHolds p × PatternsHold ps

  -- The invariant: of atoms, symbols, strings and constants nothing is asked.
  abbrev pub leaves : Invariant
  leaves = record {
    atoms = λ x. Unit {0};
    symbols = λ s. Unit {0};
    texts = λ s. Unit {0};
    trees = TreeHolds;
    constants = λ d. Unit {0};
    clauses = λ p A. PatternHolds p × A;
    templates = λ x A. A;
  }

  abbrev pub ValueHolds : Value → Type 0
  ValueHolds = holds.ValueHolds leaves

  abbrev pub ValuesHold : List Value → Type 0
  ValuesHold = holds.ValuesHold leaves

  abbrev pub VariableHolds : Option Value → Type 0
  VariableHolds = holds.VariableHolds leaves

  abbrev pub CellHolds : Cell → Type 0
  CellHolds = holds.CellHolds leaves

  abbrev pub CellsHold : List Cell → Type 0
  CellsHold = holds.CellsHold leaves

  abbrev pub TemplateHolds : PlainTemplate → Type 0
  TemplateHolds = holds.TemplateHolds leaves

  abbrev pub ItemsHold : PlainItems → Type 0
  ItemsHold = holds.ItemsHold leaves

  abbrev pub CoreHolds : PlainCore → Type 0
  CoreHolds = holds.CoreHolds leaves

  abbrev pub CoresHold : PlainCores → Type 0
  CoresHold = holds.CoresHold leaves

  abbrev pub InitsHold : PlainInits → Type 0
  InitsHold = holds.InitsHold leaves

  abbrev pub CasesHold : PlainCases → Type 0
  CasesHold = holds.CasesHold leaves

  abbrev pub ClausesHold : PlainClauses → Type 0
  ClausesHold = holds.ClausesHold leaves

  abbrev pub CodeHolds : PlainCode → Type 0
  CodeHolds = holds.CodeHolds leaves

  abbrev pub CodesHold : List (CodeNo × PlainCode) → Type 0
  CodesHold = holds.CodesHold leaves

  abbrev pub GlobalsHold : List (Label × Value) → Type 0
  GlobalsHold = holds.GlobalsHold leaves

  abbrev pub LineHolds : Line → Type 0
  LineHolds = holds.LineHolds leaves

  abbrev pub LinesHold : List Line → Type 0
  LinesHold = holds.LinesHold leaves
