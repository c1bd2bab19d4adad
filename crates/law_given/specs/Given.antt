-- What calls of the procedures that are given as texts come to, in the report's words (R6RS 11.9 and libraries 3), where they take one
-- list.
use Rattle.std.specs.Prelude.{◌≡◌, ℕ, false, List, [], ◌∷◌, map, Err}
use Rattle.base_data.specs.declared.fault.Bare.{Bare}
use Rattle.eval_value.specs.declared.value.Value.{Value}
use Rattle.eval_value.specs.declared.value.Value.TheVariants as value
use Rattle.eval_value.specs.declared.cell.Cell.{Cell}
use Rattle.eval_prims.specs.Answers.{truth}
use Rattle.eval_code.specs.Setting.{PlainSetting}
use Rattle.eval_code.specs.State.{WorldState}
use Rattle.law_lists.specs.Runs.{Runs, IsList}
use Rattle.law_given.specs.Calls.{ProcedureCall, CallEnds, Calls}
use Rattle.law_given.specs.InTurn.{InTurn, Stops, SearchCalls, SearchStops, FoldLeft, FoldRight, ForAll, Exists}

-- a procedure that is given, by its number
abbrev pub built_in : ℕ → Value
built_in op = value.Prim (record { 0 = op })

-- the first element from which on the search leaves the list, or `#f`
abbrev pub first_or_false : List Value → Value
first_or_false [] = truth false
first_or_false (x ∷ rest) = x

-- what is left of a list itself, from the element on with which the rest begins, or `#f`
abbrev pub IsTail : List Cell → Value → List Value → Value → Type 0
IsTail cells l [] v = v ≡ truth false
IsTail cells l (x ∷ rest) v = (before : List Value) × Runs cells before v l × IsList cells (x ∷ rest) v

module _ (w : PlainSetting) where
  -- a call of `map` on f and a list: f is called on each element, in their order, and the list of the answers is given.
  pub record Maps (c : ProcedureCall) (f : Value) (xs : List Value) (s : WorldState) : Type 0 where
    pub value : Value
    pub state : WorldState
    pub called : Calls w c s value state
    pub answers : List Value
    pub in_turn : InTurn w f xs s answers state
    pub list : IsList state.cells answers value

  -- likewise, where the answers are what a function says
  pub record MapsBy (c : ProcedureCall) (answer : Value → Value) (xs : List Value) (s : WorldState) : Type 0 where
    pub value : Value
    pub state : WorldState
    pub called : Calls w c s value state
    pub list : IsList state.cells (map answer xs) value

  -- f is called on each element, in their order, and this value is given
  pub record Visits (c : ProcedureCall) (f : Value) (xs : List Value) (s : WorldState) (v : Value) : Type 0 where
    pub state : WorldState
    pub called : Calls w c s v state
    pub answers : List Value
    pub in_turn : InTurn w f xs s answers state

  -- f is called on each element, in their order, and the list of those is given whose answers a choice tells
  pub record Filters (c : ProcedureCall) (f : Value) (choice : List Value → List Value → List Value) (xs : List Value) (s : WorldState) : Type 0 where
    pub value : Value
    pub state : WorldState
    pub called : Calls w c s value state
    pub answers : List Value
    pub in_turn : InTurn w f xs s answers state
    pub list : IsList state.cells (choice xs answers) value

  -- f is called on the elements, in their order, until it answers true: that element is given, or `#f`
  pub record Finds (c : ProcedureCall) (f : Value) (xs : List Value) (s : WorldState) : Type 0 where
    pub state : WorldState
    pub rest : List Value
    pub search : SearchCalls w f xs s rest state
    pub called : Calls w c s (first_or_false rest) state

  -- likewise, and that tail of the list is given, or `#f`
  pub record FindsTail (c : ProcedureCall) (f : Value) (l : Value) (xs : List Value) (s : WorldState) : Type 0 where
    pub value : Value
    pub state : WorldState
    pub called : Calls w c s value state
    pub rest : List Value
    pub search : SearchCalls w f xs s rest state
    pub tail : IsTail state.cells l rest value

  -- `for-all` and `exists` of a list: what their calls in turn tell
  pub record ForAlls (c : ProcedureCall) (f : Value) (xs : List Value) (s : WorldState) : Type 0 where
    pub value : Value
    pub state : WorldState
    pub called : Calls w c s value state
    pub all : ForAll w f xs s value state

  pub record Existences (c : ProcedureCall) (f : Value) (xs : List Value) (s : WorldState) : Type 0 where
    pub value : Value
    pub state : WorldState
    pub called : Calls w c s value state
    pub exists : Exists w f xs s value state

  -- `fold-left` of a value and a list
  pub record FoldsLeft (c : ProcedureCall) (f z : Value) (xs : List Value) (s : WorldState) : Type 0 where
    pub value : Value
    pub state : WorldState
    pub called : Calls w c s value state
    pub fold : FoldLeft w f z xs s value state

  -- `fold-right` of a value and a list
  pub record FoldsRight (c : ProcedureCall) (f z : Value) (xs : List Value) (s : WorldState) : Type 0 where
    pub value : Value
    pub state : WorldState
    pub called : Calls w c s value state
    pub fold : FoldRight w f z xs s value state

  -- `map`, `for-each`, `filter` and `remp` where a call faults: it is the last that is made, and its fault is given.
  pub record Faults (c : ProcedureCall) (f : Value) (xs : List Value) (s : WorldState) : Type 0 where
    pub fault : Bare
    pub state : WorldState
    pub called : CallEnds w c s (Err fault) state
    pub stops : Stops w f xs s fault state

  -- `find` and `memp` where a call faults: none before it answered true, and its fault is given.
  pub record SearchFaults (c : ProcedureCall) (f : Value) (xs : List Value) (s : WorldState) : Type 0 where
    pub fault : Bare
    pub state : WorldState
    pub called : CallEnds w c s (Err fault) state
    pub stops : SearchStops w f xs s fault state

module _ (w : PlainSetting) (f : Value) where
  -- what a call of `map` that gave this value did
  pub record Mapped (xs : List Value) (s : WorldState) (v : Value) (t : WorldState) : Type 0 where
    pub answers : List Value
    pub in_turn : InTurn w f xs s answers t
    pub list : IsList t.cells answers v

  -- what a call of `for-each` that gave this value did
  pub record Visited (xs : List Value) (s : WorldState) (v : Value) (t : WorldState) : Type 0 where
    pub answers : List Value
    pub in_turn : InTurn w f xs s answers t
    pub is_nothing : v ≡ value.Unspecified

  -- what a call of `filter` or `remp` that gave this value did
  pub record Filtered (choice : List Value → List Value → List Value) (xs : List Value) (s : WorldState) (v : Value) (t : WorldState) : Type 0 where
    pub answers : List Value
    pub in_turn : InTurn w f xs s answers t
    pub list : IsList t.cells (choice xs answers) v

  -- what a call of `find` that gave this value did
  pub record FoundGiven (xs : List Value) (s : WorldState) (v : Value) (t : WorldState) : Type 0 where
    pub rest : List Value
    pub search : SearchCalls w f xs s rest t
    pub value_is : v ≡ first_or_false rest

  -- what a call of `memp` that gave this value did
  pub record TailFound (l : Value) (xs : List Value) (s : WorldState) (v : Value) (t : WorldState) : Type 0 where
    pub rest : List Value
    pub search : SearchCalls w f xs s rest t
    pub tail : IsTail t.cells l rest v
