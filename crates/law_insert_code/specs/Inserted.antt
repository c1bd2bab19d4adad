-- What the code of a `quasisyntax` form comes to (R6RS libraries 12.8).
use Rattle.std.specs.Prelude.{◌≡◌, List, [], ◌∷◌, map, Option, Some}
use Rattle.base_data.specs.Elements.{Each}
use Rattle.base_data.specs.declared.atom.Atom.TheVariants as a
use Rattle.base_data.specs.declared.span.Span.{Span}
use Rattle.base_region.specs.declared.region.Place.{Place}
use Rattle.stx_tree.specs.Tree.{atom}
use Rattle.core_language.specs.Core.{PlainCore, instance}
use Rattle.core_language.specs.Template.{PlainTemplate}
use Rattle.eval_value.specs.Bind.{PlainBind, one, many, turns}
use Rattle.eval_value.specs.Cells.{FitsIn, WholeCells}
use Rattle.eval_value.specs.FromDatum.{pairs_stored}
use Rattle.eval_value.specs.declared.value.Value.{Value}
use Rattle.eval_value.specs.declared.value.Value.TheVariants as value
use Rattle.eval_value.specs.declared.cell.Cell.{Cell}
use Rattle.eval_value.specs.declared.cell.Cell.TheVariants as cell
use Rattle.eval_pattern.specs.declared.compile.PatternVariable.{PatternVariable}
use Rattle.law_matches.specs.Matches.{MatchBinds, Begins}
use Rattle.eval_code.specs.Meaning.{eval_of}
use Rattle.eval_code.specs.Setting.{PlainSetting}
use Rattle.eval_code.specs.State.{WorldState, store, next_place, with_cell}
use Rattle.law_given.specs.Calls.{CallEnd, Ends, Gives}
use Rattle.expand_quasi.specs.Inserted.{match_of}

module _ (w : PlainSetting) (scope : Place) where
  -- The codes give these values in turn, each in the state that the one before it left.
  pub data GiveInTurn : List PlainCore → WorldState → List Value → WorldState → Type 0 where
    no_code : {s : WorldState} → GiveInTurn [] s [] s
    one_code : {c : PlainCore} {cs : List PlainCore} {s t u : WorldState} {v : Value} {vs : List Value}
        → Gives (eval_of w c scope s) v t → GiveInTurn cs t vs u → GiveInTurn (c ∷ cs) s (v ∷ vs) u

-- the empty list, in the store or of syntax
pub data IsEmpty : Value → Type 0 where
  stored : IsEmpty (value.Atom a.Nil)
  written : {span : Option Span} → IsEmpty (value.Syn (atom span a.Nil))

-- a list, in the store or of syntax
pub record IsListOf (cells : List Cell) (xs : List Value) (v : Value) : Type 0 where
  pub end : Value
  pub begins : Begins cells xs end v
  pub empty : IsEmpty end

-- what the variable of an insert is bound to: the value of its expression, or where that is spliced the elements of the list
pub data IsBoundTo (cells : List Cell) (x : PatternVariable) (v : Value) : PlainBind → Type 0 where
  as_it_is : x.depth ≡ 0 → IsBoundTo cells x v (one v)
  by_elements : {xs : List Value} → x.depth ≡ 1 → IsListOf cells xs v → IsBoundTo cells x v (many (turns (map one xs)))

-- each variable with what it is bound to
pub data AreBoundTo (cells : List Cell) : List PatternVariable → List Value → MatchBinds → Type 0 where
  no_insert : AreBoundTo cells [] [] []
  one_insert : {x : PatternVariable} {xs : List PatternVariable} {v : Value} {vs : List Value} {b : PlainBind} {bs : MatchBinds}
      → IsBoundTo cells x v b → AreBoundTo cells xs vs bs → AreBoundTo cells (x ∷ xs) (v ∷ vs) ((x.label, b) ∷ bs)

-- the state in which there is a list of these values
abbrev pub with_list : List Value → WorldState → WorldState
with_list vs s = store (pairs_stored vs (value.Atom a.Nil, s.cells)).1 s.names

-- the state in which the variables are bound, for what stands in a cell of variables
abbrev pub with_binds : MatchBinds → Place → WorldState → WorldState
with_binds bs scope s = with_cell (cell.Binds bs (Some scope)) s

-- Where the codes of the expressions give values in turn, the code of the form comes to what its template comes to with the variables bound to these.
abbrev pub CodeGivesTheInstance : Type 0
CodeGivesTheInstance =
    (w : PlainSetting) (xs : List PatternVariable) (x : PlainTemplate) (span : Span) (cs : List PlainCore)
    (scope : Place) (s t : WorldState) (vs : List Value) (bs : MatchBinds)
    → GiveInTurn w scope cs s vs t → WholeCells t.cells → Each (FitsIn t.cells) vs → AreBoundTo t.cells xs vs bs
    → (r : CallEnd) (u : WorldState) → Ends (eval_of w (instance x span) (next_place (with_list vs t)) (with_binds bs scope (with_list vs t))) r u
    → Ends (eval_of w (match_of xs x span cs) scope s) r u
