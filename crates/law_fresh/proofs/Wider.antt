-- What holds of each leaf holds where more may be met.
use Rattle.std.proofs.Common.{List}
use Rattle.base_data.specs.declared.name.CodeNo.{CodeNo}
use Rattle.base_data.specs.declared.name.Label.{Label}
use Rattle.stx_tree.specs.Context.{LeafContext}
use Rattle.stx_tree.specs.Tree as tree
use Rattle.stx_tree.specs.Tree.{Tree}
use Rattle.core_language.specs.Core.{PlainCore, PlainCode}
use Rattle.core_language.specs.Pattern as pattern
use Rattle.core_language.specs.Pattern.{PlainPattern, PlainPatterns}
use Rattle.core_language.specs.Template.{PlainTemplate}
use Rattle.core_language.specs.declared.record.Line.{Line}
use Rattle.eval_value.specs.declared.value.Value.{Value}
use Rattle.eval_value.specs.declared.cell.Cell.{Cell}
use Rattle.law_invariants.specs.Closed.{Wider}
use Rattle.law_invariants.proofs.Wider as invariants
use Rattle.law_fresh.specs.Leaves.{TreeHolds, ValueHolds, ValuesHold, CellsHold, TemplateHolds, PatternHolds, PatternsHold, CoreHolds, CodesHold, GlobalsHold, LinesHold, leaves}

module _ (P Q : LeafContext → Type 0) (more_met : (c : LeafContext) → P c → Q c) where
  pub tree_wider : (t : Tree) → TreeHolds P t → TreeHolds Q t
  tree_wider (tree.atom s a) h = tt
  tree_wider (tree.leaf s x c) h = more_met c h
  tree_wider (tree.pair s a d) h = (tree_wider a h.0, tree_wider d h.1)
  tree_wider (tree.vector s d) h = tree_wider d h

  mutual
    pub pattern_wider : (p : PlainPattern) → PatternHolds P p → PatternHolds Q p
    pattern_wider pattern.any h = tt
    pattern_wider (pattern.variable l) h = tt
    pattern_wider (pattern.literal t) h = tree_wider t h
    pattern_wider (pattern.atom a) h = tt
    pattern_wider (pattern.list ps t) h = (patterns_wider ps h.0, pattern_wider t h.1)
    pattern_wider (pattern.vector ps) h = patterns_wider ps h

    pub patterns_wider : (ps : PlainPatterns) → PatternsHold P ps → PatternsHold Q ps
    patterns_wider pattern.none h = tt
    patterns_wider (pattern.more p ps) h = (pattern_wider p h.0, patterns_wider ps h.1)
    patterns_wider (pattern.dots p ps) h = (pattern_wider p h.0, patterns_wider ps h.1)

  pub leaves_wider : Wider (leaves P) (leaves Q)
  leaves_wider = record { atoms = λ x h. h; symbols = λ s h. h; texts = λ s h. h; trees = tree_wider; constants = λ d h. h; clauses = λ p A B f h. (pattern_wider p h.0, f h.1); templates = λ x A B f h. f h }

  pub value_wider : (v : Value) → ValueHolds P v → ValueHolds Q v
  value_wider v h = invariants.value_wider (leaves P) (leaves Q) leaves_wider v h

  pub values_wider : (vs : List Value) → ValuesHold P vs → ValuesHold Q vs
  values_wider vs h = invariants.values_wider (leaves P) (leaves Q) leaves_wider vs h

  pub cells_wider : (cs : List Cell) → CellsHold P cs → CellsHold Q cs
  cells_wider cs h = invariants.cells_wider (leaves P) (leaves Q) leaves_wider cs h

  pub template_wider : (t : PlainTemplate) → TemplateHolds P t → TemplateHolds Q t
  template_wider t h = invariants.template_wider (leaves P) (leaves Q) leaves_wider t h

  pub core_wider : (c : PlainCore) → CoreHolds P c → CoreHolds Q c
  core_wider c h = invariants.core_wider (leaves P) (leaves Q) leaves_wider c h

  pub codes_wider : (cs : List (CodeNo × PlainCode)) → CodesHold P cs → CodesHold Q cs
  codes_wider cs h = invariants.codes_wider (leaves P) (leaves Q) leaves_wider cs h

  pub globals_wider : (gs : List (Label × Value)) → GlobalsHold P gs → GlobalsHold Q gs
  globals_wider gs h = invariants.globals_wider (leaves P) (leaves Q) leaves_wider gs h

  pub lines_wider : (ls : List Line) → LinesHold P ls → LinesHold Q ls
  lines_wider ls h = invariants.lines_wider (leaves P) (leaves Q) leaves_wider ls h
