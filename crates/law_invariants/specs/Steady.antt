-- An invariant that is the same whatever names were taken.
use Rattle.std.specs.Prelude.{List}
use Rattle.base_data.specs.Elements.{Each}
use Rattle.base_data.specs.Named.{Named}
use Rattle.base_data.specs.declared.name.Label.{Label}
use Rattle.stx_tree.specs.Changes.{changed}
use Rattle.stx_tree.specs.Tree.{Tree}
use Rattle.stx_tree.specs.declared.change.Change.{Change}
use Rattle.core_language.specs.Pattern.{PlainPattern}
use Rattle.core_language.specs.Template.{PlainTemplate}
use Rattle.eval_prims.specs.Perform.{temporary}
use Rattle.eval_code.specs.State.{WorldState, Outcome, done, faulted, unfit}
use Rattle.eval_stage.specs.Stage.{PlainStage}
use Rattle.eval_stage.specs.declared.keyword.Keyword.{Keyword}
use Rattle.law_invariants.specs.Closed.{IsClosed}
use Rattle.law_invariants.specs.Holds.{ValueHolds, CellsHold, CodesHold, GlobalsHold}
use Rattle.law_invariants.specs.Invariant.{Invariant}
use Rattle.law_invariants.specs.Stages.{KeywordHolds}

-- It holds of temporaries and, whatever marks and stamps a tree has, of the tree with others.
pub record IsSteady (I : Invariant) : Type 1 where
  pub closed : IsClosed I
  pub temporaries : (n : Named) → I.trees (temporary n)
  pub changed : (cs : List Change) (t : Tree) → I.trees t → I.trees (changed cs t)
  pub code : (p : PlainPattern) (A : Type 0) → I.clauses p A → A
  pub clauses : (p : PlainPattern) (A B : Type 0) → (A → B) → I.clauses p A → I.clauses p B
  pub template : (x : PlainTemplate) (A : Type 0) → I.templates x A → A
  pub templates : (x : PlainTemplate) (A B : Type 0) → (A → B) → I.templates x A → I.templates x B

module _ (I : Invariant) where
  abbrev pub SteadyState : WorldState → Type 0
  SteadyState s = CellsHold I s.cells

  -- a value and the cells then
  abbrev pub SteadyOutcome : Outcome → Type 0
  SteadyOutcome (done v s n) = SteadyState s × ValueHolds I v
  SteadyOutcome (faulted f s n) = SteadyState s
  SteadyOutcome unfit = Unit {0}

  pub record SteadyStage (g : PlainStage) : Type 0 where
    pub cells : CellsHold I g.cells
    pub codes : CodesHold I g.codes
    pub globals : GlobalsHold I g.globals
    pub keywords : Each (λ (k : Label × Keyword). KeywordHolds I k.1) g.keywords
