-- Calls of a procedure that are made one after another. Between them nothing happens but that cells are added.
use Rattle.std.specs.Prelude.{◌≡◌, Bool, true, false, List, [], ◌∷◌, Ok, Err, if◌then◌else◌}
use Rattle.base_data.specs.declared.fault.Bare.{Bare}
use Rattle.eval_value.specs.declared.value.Value.{Value}
use Rattle.eval_prims.specs.Answers.{truth}
use Rattle.eval_code.specs.Procedures.{truth_of}
use Rattle.eval_code.specs.Setting.{PlainSetting}
use Rattle.eval_code.specs.State.{WorldState}
use Rattle.law_eval.specs.Kept.{LaterWorld}
use Rattle.law_given.specs.Calls.{CallEnd, call_to, CallEnds, Calls}

-- where a call answered `#f`
abbrev pub AfterFalse : CallEnd → Type 0 → Type 0
AfterFalse (Ok y) P = truth_of y ≡ false → P
AfterFalse (Err e) P = Unit {0}

-- the values whose calls answered true, or not
abbrev pub when_true : Bool → Value → List Value → List Value
when_true t x xs = if t then x ∷ xs else xs

abbrev pub chosen : List Value → List Value → List Value
chosen [] ys = []
chosen (x ∷ xs) [] = []
chosen (x ∷ xs) (y ∷ ys) = when_true (truth_of y) x (chosen xs ys)

abbrev pub others : List Value → List Value → List Value
others [] ys = []
others (x ∷ xs) [] = []
others (x ∷ xs) (y ∷ ys) = if truth_of y then others xs ys else x ∷ others xs ys

-- where a call gave a value
abbrev pub AfterValue : CallEnd → Type 0 → Type 0
AfterValue (Ok y) P = P
AfterValue (Err e) P = Unit {0}

module _ (w : PlainSetting) (f : Value) where
  -- A call on each of some values, in their order, from a state on: their answers, and a state behind the last.
  pub data InTurn : List Value → WorldState → List Value → WorldState → Type 0 where
    no_call : {s t : WorldState} → LaterWorld s t → InTurn [] s [] t
    one_call : {x y : Value} {xs ys : List Value} {s t u v : WorldState} → LaterWorld s t → Calls w (call_to f (x ∷ [])) t y u → InTurn xs u ys v
        → InTurn (x ∷ xs) s (y ∷ ys) v

  -- Each of these calls gives a value, whatever cells were added before it.
  abbrev pub AllGive : List Value → WorldState → Type 0
  AllGive [] s = Unit {0}
  AllGive (x ∷ xs) s = (t : WorldState) → LaterWorld s t → (y : Value) × (u : WorldState) × Calls w (call_to f (x ∷ [])) t y u × AllGive xs u

  -- A search: calls in their order until one answers true. What is left of the values from there on, and a state behind it.
  pub data SearchCalls : List Value → WorldState → List Value → WorldState → Type 0 where
    not_there : {s t : WorldState} → LaterWorld s t → SearchCalls [] s [] t
    passed : {x y : Value} {xs rest : List Value} {s t u v : WorldState} → LaterWorld s t → Calls w (call_to f (x ∷ [])) t y u → truth_of y ≡ false
        → SearchCalls xs u rest v → SearchCalls (x ∷ xs) s rest v
    there : {x y : Value} {xs : List Value} {s t u v : WorldState} → LaterWorld s t → Calls w (call_to f (x ∷ [])) t y u → truth_of y ≡ true
        → LaterWorld u v → SearchCalls (x ∷ xs) s (x ∷ xs) v

  -- Each call until then gives a value.
  abbrev pub SearchGives : List Value → WorldState → Type 0
  SearchGives [] s = Unit {0}
  SearchGives (x ∷ xs) s = (t : WorldState) → LaterWorld s t
      → (y : Value) × (u : WorldState) × Calls w (call_to f (x ∷ [])) t y u × (truth_of y ≡ false → SearchGives xs u)

  -- A search that a call stops: none before it answered true, and it ends at a fault.
  pub data SearchStops : List Value → WorldState → Bare → WorldState → Type 0 where
    search_stops : {x : Value} {xs : List Value} {e : Bare} {s t u : WorldState} → LaterWorld s t → CallEnds w (call_to f (x ∷ [])) t (Err e) u
        → SearchStops (x ∷ xs) s e u
    search_goes_on : {x y : Value} {xs : List Value} {e : Bare} {s t u v : WorldState} → LaterWorld s t → Calls w (call_to f (x ∷ [])) t y u
        → truth_of y ≡ false → SearchStops xs u e v → SearchStops (x ∷ xs) s e v

  -- Each call until one answers true ends, with a value or at a fault, whatever cells were added before it.
  abbrev pub SearchEnds : List Value → WorldState → Type 0
  SearchEnds [] s = Unit {0}
  SearchEnds (x ∷ xs) s = (t : WorldState) → LaterWorld s t
      → (r : CallEnd) × (u : WorldState) × CallEnds w (call_to f (x ∷ [])) t r u × AfterFalse r (SearchEnds xs u)

  -- A fold from the left: each call is on what the one before it gave and the next value.
  pub data FoldLeft : Value → List Value → WorldState → Value → WorldState → Type 0 where
    left_end : {z : Value} {s t : WorldState} → LaterWorld s t → FoldLeft z [] s z t
    left_step : {z x y r : Value} {xs : List Value} {s t u v : WorldState} → LaterWorld s t → Calls w (call_to f (z ∷ x ∷ [])) t y u
        → FoldLeft y xs u r v → FoldLeft z (x ∷ xs) s r v

  abbrev pub FoldLeftGives : Value → List Value → WorldState → Type 0
  FoldLeftGives z [] s = Unit {0}
  FoldLeftGives z (x ∷ xs) s = (t : WorldState) → LaterWorld s t
      → (y : Value) × (u : WorldState) × Calls w (call_to f (z ∷ x ∷ [])) t y u × FoldLeftGives y xs u

  -- A fold from the right: the call on the last value comes first.
  pub data FoldRight (z : Value) : List Value → WorldState → Value → WorldState → Type 0 where
    right_end : {s t : WorldState} → LaterWorld s t → FoldRight z [] s z t
    right_step : {x y r : Value} {xs : List Value} {s t u v : WorldState} → FoldRight z xs s r t → LaterWorld t u
        → Calls w (call_to f (x ∷ r ∷ [])) u y v → FoldRight z (x ∷ xs) s y v

  -- A fold is possible where that of the values behind the first is, and the call on the first and what that gives gives a value.
  abbrev pub FoldRightGives : Value → List Value → WorldState → Type 0
  FoldRightGives z [] s = Unit {0}
  FoldRightGives z (x ∷ xs) s =
      FoldRightGives z xs s × ((r : Value) (t u : WorldState) → FoldRight z xs s r t → LaterWorld t u
      → (y : Value) × (v : WorldState) × Calls w (call_to f (x ∷ r ∷ [])) u y v)

  -- The call on each of these gives what a function says, whatever cells were added before it.
  abbrev pub AllGiveBy : (Value → Value) → List Value → WorldState → Type 0
  AllGiveBy g [] s = Unit {0}
  AllGiveBy g (x ∷ xs) s = ((t : WorldState) → LaterWorld s t → (u : WorldState) × Calls w (call_to f (x ∷ [])) t (g x) u) × AllGiveBy g xs s

  -- `for-all`: calls in their order until one answers `#f`. The answer of the last call, or `#f`, or `#t` where there is no call.
  pub data ForAll : List Value → WorldState → Value → WorldState → Type 0 where
    all_none : {s t : WorldState} → LaterWorld s t → ForAll [] s (truth true) t
    all_last : {x y : Value} {s t u v : WorldState} → LaterWorld s t → Calls w (call_to f (x ∷ [])) t y u → LaterWorld u v → ForAll (x ∷ []) s y v
    all_but : {x z y : Value} {xs : List Value} {s t u v : WorldState} → LaterWorld s t → Calls w (call_to f (x ∷ [])) t y u → truth_of y ≡ false
        → LaterWorld u v → ForAll (x ∷ z ∷ xs) s (truth false) v
    all_so_far : {x z y r : Value} {xs : List Value} {s t u v : WorldState} → LaterWorld s t → Calls w (call_to f (x ∷ [])) t y u → truth_of y ≡ true
        → ForAll (z ∷ xs) u r v → ForAll (x ∷ z ∷ xs) s r v

  -- Each call until then gives a value.
  abbrev pub ForAllGives : List Value → WorldState → Type 0
  ForAllGives [] s = Unit {0}
  ForAllGives (x ∷ xs) s = (t : WorldState) → LaterWorld s t
      → (y : Value) × (u : WorldState) × Calls w (call_to f (x ∷ [])) t y u × (truth_of y ≡ true → ForAllGives xs u)

  -- `exists`: calls in their order until one answers true. Its answer, or that of the last call, or `#f` where there is no call.
  pub data Exists : List Value → WorldState → Value → WorldState → Type 0 where
    some_none : {s t : WorldState} → LaterWorld s t → Exists [] s (truth false) t
    some_last : {x y : Value} {s t u v : WorldState} → LaterWorld s t → Calls w (call_to f (x ∷ [])) t y u → LaterWorld u v → Exists (x ∷ []) s y v
    some_here : {x z y : Value} {xs : List Value} {s t u v : WorldState} → LaterWorld s t → Calls w (call_to f (x ∷ [])) t y u → truth_of y ≡ true
        → LaterWorld u v → Exists (x ∷ z ∷ xs) s y v
    some_behind : {x z y r : Value} {xs : List Value} {s t u v : WorldState} → LaterWorld s t → Calls w (call_to f (x ∷ [])) t y u → truth_of y ≡ false
        → Exists (z ∷ xs) u r v → Exists (x ∷ z ∷ xs) s r v

  -- Calls in their order, of which the last ends at a fault.
  pub data Stops : List Value → WorldState → Bare → WorldState → Type 0 where
    stops_here : {x : Value} {xs : List Value} {e : Bare} {s t u : WorldState} → LaterWorld s t → CallEnds w (call_to f (x ∷ [])) t (Err e) u
        → Stops (x ∷ xs) s e u
    stops_behind : {x y : Value} {xs : List Value} {e : Bare} {s t u v : WorldState} → LaterWorld s t → Calls w (call_to f (x ∷ [])) t y u
        → Stops xs u e v → Stops (x ∷ xs) s e v

  -- Each of these calls ends, with a value or at a fault, whatever cells were added before it.
  abbrev pub AllEnd : List Value → WorldState → Type 0
  AllEnd [] s = Unit {0}
  AllEnd (x ∷ xs) s =
      (t : WorldState) → LaterWorld s t → (r : CallEnd) × (u : WorldState) × CallEnds w (call_to f (x ∷ [])) t r u × AfterValue r (AllEnd xs u)
