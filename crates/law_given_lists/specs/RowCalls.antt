-- Calls of a procedure on rows, one row after another, till the last or till a call faults. Between them nothing happens but that
-- cells are added.
use Rattle.std.specs.Prelude.{◌≡◌, true, false, List, [], ◌∷◌, ◌++◌, Ok, Err}
use Rattle.base_data.specs.declared.fault.Bare.{Bare}
use Rattle.eval_value.specs.declared.value.Value.{Value}
use Rattle.eval_prims.specs.Answers.{truth}
use Rattle.eval_code.specs.Procedures.{truth_of}
use Rattle.eval_code.specs.Setting.{PlainSetting}
use Rattle.eval_code.specs.State.{WorldState}
use Rattle.law_eval.specs.Kept.{LaterWorld}
use Rattle.law_given.specs.Calls.{CallEnd, call_to, CallEnds, Calls}

-- where a call gave a value, what holds of it
abbrev pub AfterValue : CallEnd → (Value → Type 0) → Type 0
AfterValue (Ok y) P = P y
AfterValue (Err e) P = Unit {0}

module _ (w : PlainSetting) (f : Value) where
  -- A call on each row: the answers, and a state behind the last.
  pub data RowsInTurn : List (List Value) → WorldState → List Value → WorldState → Type 0 where
    no_call : {s t : WorldState} → LaterWorld s t → RowsInTurn [] s [] t
    one_call : {row : List Value} {rows : List (List Value)} {y : Value} {ys : List Value} {s t u v : WorldState}
        → LaterWorld s t → Calls w (call_to f row) t y u → RowsInTurn rows u ys v → RowsInTurn (row ∷ rows) s (y ∷ ys) v

  -- Calls on (call_to the rows), of which the last ends at a fault.
  pub data RowsStop : List (List Value) → WorldState → Bare → WorldState → Type 0 where
    stops_here : {row : List Value} {rows : List (List Value)} {e : Bare} {s t u : WorldState} → LaterWorld s t
        → CallEnds w (call_to f row) t (Err e) u → RowsStop (row ∷ rows) s e u
    stops_behind : {row : List Value} {rows : List (List Value)} {y : Value} {e : Bare} {s t u v : WorldState}
        → LaterWorld s t → Calls w (call_to f row) t y u → RowsStop rows u e v → RowsStop (row ∷ rows) s e v

  -- Each of these calls ends, with a value or at a fault, whatever cells were added before it.
  abbrev pub AllEnd : List (List Value) → WorldState → Type 0
  AllEnd [] s = Unit {0}
  AllEnd (row ∷ rows) s = (t : WorldState) → LaterWorld s t
      → (r : CallEnd) × (u : WorldState) × CallEnds w (call_to f row) t r u × AfterValue r (λ _. AllEnd rows u)

  -- Each of them gives a value.
  abbrev pub AllGive : List (List Value) → WorldState → Type 0
  AllGive [] s = Unit {0}
  AllGive (row ∷ rows) s = (t : WorldState) → LaterWorld s t → (y : Value) × (u : WorldState) × Calls w (call_to f row) t y u × AllGive rows u

  -- `for-all`: calls until one answers `#f` or faults. It ends as the last call does, or with `#f` at an answer before it, or with
  -- `#t` where there is no row.
  pub data ForAllByRows : List (List Value) → WorldState → CallEnd → WorldState → Type 0 where
    all_none : {s t : WorldState} → LaterWorld s t → ForAllByRows [] s (Ok (truth true)) t
    all_last : {row : List Value} {r : CallEnd} {s t u : WorldState} → LaterWorld s t → CallEnds w (call_to f row) t r u → ForAllByRows (row ∷ []) s r u
    all_but : {row next : List Value} {rows : List (List Value)} {y : Value} {s t u : WorldState}
        → LaterWorld s t → Calls w (call_to f row) t y u → truth_of y ≡ false → ForAllByRows (row ∷ next ∷ rows) s (Ok (truth false)) u
    all_so_far : {row next : List Value} {rows : List (List Value)} {y : Value} {r : CallEnd} {s t u v : WorldState}
        → LaterWorld s t → Calls w (call_to f row) t y u → truth_of y ≡ true → ForAllByRows (next ∷ rows) u r v → ForAllByRows (row ∷ next ∷ rows) s r v
    all_stops : {row next : List Value} {rows : List (List Value)} {e : Bare} {s t u : WorldState}
        → LaterWorld s t → CallEnds w (call_to f row) t (Err e) u → ForAllByRows (row ∷ next ∷ rows) s (Err e) u

  -- Each call until one answers `#f` ends.
  abbrev pub ForAllEnds : List (List Value) → WorldState → Type 0
  ForAllEnds [] s = Unit {0}
  ForAllEnds (row ∷ rows) s = (t : WorldState) → LaterWorld s t
      → (r : CallEnd) × (u : WorldState) × CallEnds w (call_to f row) t r u × AfterValue r (λ y. truth_of y ≡ true → ForAllEnds rows u)

  abbrev pub ForAllGives : List (List Value) → WorldState → Type 0
  ForAllGives [] s = Unit {0}
  ForAllGives (row ∷ rows) s = (t : WorldState) → LaterWorld s t
      → (y : Value) × (u : WorldState) × Calls w (call_to f row) t y u × (truth_of y ≡ true → ForAllGives rows u)

  -- `exists`: calls until one answers true or faults. It ends as the last call does, or with that answer, or with `#f` where there is
  -- no row.
  pub data ExistsByRows : List (List Value) → WorldState → CallEnd → WorldState → Type 0 where
    some_none : {s t : WorldState} → LaterWorld s t → ExistsByRows [] s (Ok (truth false)) t
    some_last : {row : List Value} {r : CallEnd} {s t u : WorldState}
        → LaterWorld s t → CallEnds w (call_to f row) t r u → ExistsByRows (row ∷ []) s r u
    some_here : {row next : List Value} {rows : List (List Value)} {y : Value} {s t u v : WorldState}
        → LaterWorld s t → Calls w (call_to f row) t y u → truth_of y ≡ true → LaterWorld u v → ExistsByRows (row ∷ next ∷ rows) s (Ok y) v
    some_behind : {row next : List Value} {rows : List (List Value)} {y : Value} {r : CallEnd} {s t u v : WorldState}
        → LaterWorld s t → Calls w (call_to f row) t y u → truth_of y ≡ false → ExistsByRows (next ∷ rows) u r v → ExistsByRows (row ∷ next ∷ rows) s r v
    some_stops : {row next : List Value} {rows : List (List Value)} {e : Bare} {s t u : WorldState}
        → LaterWorld s t → CallEnds w (call_to f row) t (Err e) u → ExistsByRows (row ∷ next ∷ rows) s (Err e) u

  -- Each call until one answers true ends.
  abbrev pub ExistsEnds : List (List Value) → WorldState → Type 0
  ExistsEnds [] s = Unit {0}
  ExistsEnds (row ∷ rows) s = (t : WorldState) → LaterWorld s t
      → (r : CallEnd) × (u : WorldState) × CallEnds w (call_to f row) t r u × AfterValue r (λ y. truth_of y ≡ false → ExistsEnds rows u)

  abbrev pub ExistsGives : List (List Value) → WorldState → Type 0
  ExistsGives [] s = Unit {0}
  ExistsGives (row ∷ rows) s = (t : WorldState) → LaterWorld s t
      → (y : Value) × (u : WorldState) × Calls w (call_to f row) t y u × (truth_of y ≡ false → ExistsGives rows u)

  -- A fold from the left: each call is on what the one before it gave and the next row, till one faults.
  pub data FoldLeftByRows : Value → List (List Value) → WorldState → CallEnd → WorldState → Type 0 where
    left_end : {z : Value} {s t : WorldState} → LaterWorld s t → FoldLeftByRows z [] s (Ok z) t
    left_step : {z y : Value} {row : List Value} {rows : List (List Value)} {r : CallEnd} {s t u v : WorldState}
        → LaterWorld s t → Calls w (call_to f (z ∷ row)) t y u → FoldLeftByRows y rows u r v → FoldLeftByRows z (row ∷ rows) s r v
    left_stops : {z : Value} {row : List Value} {rows : List (List Value)} {e : Bare} {s t u : WorldState}
        → LaterWorld s t → CallEnds w (call_to f (z ∷ row)) t (Err e) u → FoldLeftByRows z (row ∷ rows) s (Err e) u

  abbrev pub FoldLeftEnds : Value → List (List Value) → WorldState → Type 0
  FoldLeftEnds z [] s = Unit {0}
  FoldLeftEnds z (row ∷ rows) s = (t : WorldState) → LaterWorld s t
      → (r : CallEnd) × (u : WorldState) × CallEnds w (call_to f (z ∷ row)) t r u × AfterValue r (λ y. FoldLeftEnds y rows u)

  abbrev pub FoldLeftGives : Value → List (List Value) → WorldState → Type 0
  FoldLeftGives z [] s = Unit {0}
  FoldLeftGives z (row ∷ rows) s = (t : WorldState) → LaterWorld s t
      → (y : Value) × (u : WorldState) × Calls w (call_to f (z ∷ row)) t y u × FoldLeftGives y rows u

  -- A fold from the right: the call on the last row comes first, and each is on its row and what the one before it gave.
  pub data FoldRightByRows (z : Value) : List (List Value) → WorldState → CallEnd → WorldState → Type 0 where
    right_end : {s t : WorldState} → LaterWorld s t → FoldRightByRows z [] s (Ok z) t
    right_step : {x : Value} {row : List Value} {rows : List (List Value)} {r : CallEnd} {s t u v : WorldState}
        → FoldRightByRows z rows s (Ok x) t → LaterWorld t u → CallEnds w (call_to f (row ++ x ∷ [])) u r v → FoldRightByRows z (row ∷ rows) s r v
    right_stops : {row : List Value} {rows : List (List Value)} {e : Bare} {s t : WorldState} → FoldRightByRows z rows s (Err e) t
        → FoldRightByRows z (row ∷ rows) s (Err e) t

  -- That of the rows behind the first ends, and where it gives a value the call on the first row and that ends.
  abbrev pub FoldRightEnds : Value → List (List Value) → WorldState → Type 0
  FoldRightEnds z [] s = Unit {0}
  FoldRightEnds z (row ∷ rows) s =
      FoldRightEnds z rows s × ((x : Value) (t u : WorldState) → FoldRightByRows z rows s (Ok x) t → LaterWorld t u
      → (r : CallEnd) × (v : WorldState) × CallEnds w (call_to f (row ++ x ∷ [])) u r v)

  abbrev pub FoldRightGives : Value → List (List Value) → WorldState → Type 0
  FoldRightGives z [] s = Unit {0}
  FoldRightGives z (row ∷ rows) s =
      FoldRightGives z rows s × ((x : Value) (t u : WorldState) → FoldRightByRows z rows s (Ok x) t → LaterWorld t u
      → (y : Value) × (v : WorldState) × Calls w (call_to f (row ++ x ∷ [])) u y v)
