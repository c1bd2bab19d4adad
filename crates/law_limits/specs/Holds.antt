-- What holds of each tree in a value, in cells, in core code, and of the trees whose data are its constants.
use Rattle.std.specs.Prelude.{◌≡◌, List}
use Rattle.base_data.specs.Datum.{PlainDatum}
use Rattle.base_data.specs.declared.name.CodeNo.{CodeNo}
use Rattle.core_language.specs.Core.{PlainCore, PlainCores, PlainInits, PlainCases, PlainClauses, PlainCode}
use Rattle.core_language.specs.Template.{PlainTemplate, PlainItems}
use Rattle.core_language.specs.declared.record.Line.{Line}
use Rattle.stx_tree.specs.Leaves.{strip}
use Rattle.stx_tree.specs.Tree.{Tree}
use Rattle.law_invariants.specs.Holds as holds
use Rattle.law_invariants.specs.Invariant.{Invariant}

module _ (T : Tree → Type 0) where
  -- the datum of such a tree
  abbrev pub DatumHolds : PlainDatum → Type 0
  DatumHolds d = (t : Tree) × (T t × (strip t ≡ d))

  -- The invariant: of atoms, symbols and strings nothing is asked.
  abbrev pub trees : Invariant
  trees = record {
    atoms = λ x. Unit {0};
    symbols = λ s. Unit {0};
    texts = λ s. Unit {0};
    trees = T;
    constants = DatumHolds;
    clauses = λ p A. A;
    templates = λ x A. A;
  }

  abbrev pub TemplateHolds : PlainTemplate → Type 0
  TemplateHolds = holds.TemplateHolds trees

  abbrev pub ItemsHold : PlainItems → Type 0
  ItemsHold = holds.ItemsHold trees

  abbrev pub CoreHolds : PlainCore → Type 0
  CoreHolds = holds.CoreHolds trees

  abbrev pub CoresHold : PlainCores → Type 0
  CoresHold = holds.CoresHold trees

  abbrev pub InitsHold : PlainInits → Type 0
  InitsHold = holds.InitsHold trees

  abbrev pub CasesHold : PlainCases → Type 0
  CasesHold = holds.CasesHold trees

  abbrev pub ClausesHold : PlainClauses → Type 0
  ClausesHold = holds.ClausesHold trees

  abbrev pub CodeHolds : PlainCode → Type 0
  CodeHolds = holds.CodeHolds trees

  abbrev pub CodesHold : List (CodeNo × PlainCode) → Type 0
  CodesHold = holds.CodesHold trees

  abbrev pub LineHolds : Line → Type 0
  LineHolds = holds.LineHolds trees

  abbrev pub LinesHold : List Line → Type 0
  LinesHold = holds.LinesHold trees
