-- Evaluating the code of a template (R6RS 11.17).
use Rattle.std.specs.Prelude.{◌≡◌, Bool, true, false, List, [], ◌∷◌, Some, Ok}
use Rattle.base_data.specs.declared.span.Span.{Span}
use Rattle.base_region.specs.declared.region.Place.{Place}
use Rattle.stx_tree.specs.Tree.{Tree, nil, chain}
use Rattle.core_shapes.specs.Lists.{elements}
use Rattle.core_language.specs.Core.{PlainCore}
use Rattle.eval_value.specs.declared.value.Value.{Value}
use Rattle.eval_value.specs.declared.cell.Cell.{Cell}
use Rattle.eval_prims.specs.Chains.{list_elements}
use Rattle.eval_code.specs.Meaning.{eval_of}
use Rattle.eval_code.specs.Setting.{PlainSetting}
use Rattle.eval_code.specs.State.{WorldState}
use Rattle.law_eval.specs.Kept.{LaterWorld}
use Rattle.law_given.specs.Calls.{Gives}
use Rattle.core_quasi.specs.Plan.{PlainQuasi}
use Rattle.core_quasi.specs.Quasi.{quasi}
use Rattle.core_quasi.specs.Words.{WordOf}
use Rattle.expand_quasi.specs.Filled as code
use Rattle.law_quasi.specs.Filled as template
use Rattle.law_quasi.specs.Makes.{FilledBy}
use Rattle.law_quasi_code.specs.Shows.{Shows, ShowsEach}
use Rattle.law_quasi_code.specs.Wants.{Want, wants}

-- a list whose elements show these
pub record ShowsList (given : List (Tree × Value)) (cells : List Cell) (ts : List Tree) (v : Value) : Type 0 where
  pub values : List Value
  pub are : list_elements cells v ≡ Some values
  pub shown : ShowsEach given cells (chain ts nil) values

-- The value of an expression shows the tree that is given for it; where it is spliced, it is a list that shows the elements of that tree.
abbrev pub SuitsAs : Bool → List (Tree × Value) → List Cell → Tree → Value → Type 0
SuitsAs true given cells t v = ShowsList given cells (elements t) v
SuitsAs false given cells t v = Shows given cells t v

module _ (w : PlainSetting) (scope : Place) (given : List (Tree × Value)) where
  -- The code of each expression gives a value that suits, whatever cells were added before it.
  abbrev pub AllGive : FilledBy → List Want → List PlainCore → WorldState → Type 0
  AllGive f [] cs s = Unit {0}
  AllGive f (x ∷ xs) [] s = ⊥
  AllGive f (x ∷ xs) (c ∷ cs) s =
      (t : WorldState) → LaterWorld s t → (v : Value) × (u : WorldState) × Gives (eval_of w c scope t) v u
      × SuitsAs x.spliced given u.cells (f x.expression) v × AllGive f xs cs u

  -- Evaluation gives a value that shows this.
  pub record GivesShown (c : PlainCore) (s : WorldState) (t : Tree) : Type 0 where
    pub value : Value
    pub state : WorldState
    pub evaluated : Gives (eval_of w c scope s) value state
    pub shown : Shows given state.cells t value

-- Where the code of each expression of a `quasiquote` form gives a value that suits, so does the code of the form: its value shows the template with these in
-- their places.
abbrev pub CodeGivesTheTemplate : Type 0
CodeGivesTheTemplate = (w : PlainSetting) (words : WordOf) (t form : Tree) (place : Span) (q : PlainQuasi) (scope : Place)
    (given : List (Tree × Value)) (f : FilledBy) (cs : List PlainCore) (s : WorldState)
    → quasi words t form place ≡ Ok q → AllGive w scope given f (wants q) cs s → GivesShown w scope given (code.filled q cs).0 s (template.filled words f t 0)
