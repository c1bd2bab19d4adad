-- What calls on rows did, from an earlier state on.
use Rattle.std.proofs.Common.{List, [], ◌∷◌, Ok, Err}
use Rattle.base_data.specs.declared.fault.Bare.{Bare}
use Rattle.eval_value.specs.declared.value.Value.{Value}
use Rattle.eval_code.specs.Setting.{PlainSetting}
use Rattle.eval_code.specs.State.{WorldState}
use Rattle.law_eval.specs.Kept.{LaterWorld}
use Rattle.law_eval.proofs.Keeping.{later_then}
use Rattle.law_given.specs.Calls.{CallEnd}
use Rattle.law_given_lists.specs.RowCalls.{RowsInTurn, no_call, one_call, RowsStop, stops_here, stops_behind, AllEnd, ForAllByRows, all_none, all_last, all_but, all_so_far, all_stops, ForAllEnds}
use Rattle.law_given_lists.specs.RowCalls.{ExistsByRows, some_none, some_last, some_here, some_behind, some_stops, ExistsEnds, FoldLeftByRows, left_end, left_step, left_stops, FoldLeftEnds, FoldRightByRows, right_end, right_step, right_stops, FoldRightEnds}

module _ (w : PlainSetting) (f : Value) where
  pub in-turn-from : (rows : List (List Value)) (ys : List Value) (r s t : WorldState) → LaterWorld r s → RowsInTurn w f rows s ys t → RowsInTurn w f rows r ys t
  in-turn-from rows ys r s t k (no_call h) = no_call (later_then r s t k h)
  in-turn-from rows ys r s t k (one_call {t = u} h c i) = one_call (later_then r s u k h) c i

  pub in-turn-to : (rows : List (List Value)) (ys : List Value) (s t u : WorldState) → RowsInTurn w f rows s ys t → LaterWorld t u → RowsInTurn w f rows s ys u
  in-turn-to rows ys s t u (no_call h) k = no_call (later_then s t u h k)
  in-turn-to rows ys s t u (one_call {rows = rest} {ys = ys'} {u = r} h c i) k = one_call h c (in-turn-to rest ys' r t u i k)

  pub stops-from : (rows : List (List Value)) (e : Bare) (r s t : WorldState) → LaterWorld r s → RowsStop w f rows s e t → RowsStop w f rows r e t
  stops-from rows e r s t k (stops_here {t = u} h c) = stops_here (later_then r s u k h) c
  stops-from rows e r s t k (stops_behind {t = u} h c i) = stops_behind (later_then r s u k h) c i

  pub all-end-later : (rows : List (List Value)) (s t : WorldState) → LaterWorld s t → AllEnd w f rows s → AllEnd w f rows t
  all-end-later [] s t k g = tt
  all-end-later (row ∷ rows) s t k g = λ u h. g u (later_then s t u k h)

  pub all-from : (rows : List (List Value)) (e : CallEnd) (r s t : WorldState) → LaterWorld r s → ForAllByRows w f rows s e t → ForAllByRows w f rows r e t
  all-from rows e r s t k (all_none h) = all_none (later_then r s t k h)
  all-from rows e r s t k (all_last {t = u} h c) = all_last (later_then r s u k h) c
  all-from rows e r s t k (all_but {t = u} h c is) = all_but (later_then r s u k h) c is
  all-from rows e r s t k (all_so_far {t = u} h c is i) = all_so_far (later_then r s u k h) c is i
  all-from rows e r s t k (all_stops {t = u} h c) = all_stops (later_then r s u k h) c

  pub for-all-ends-later : (rows : List (List Value)) (s t : WorldState) → LaterWorld s t → ForAllEnds w f rows s → ForAllEnds w f rows t
  for-all-ends-later [] s t k g = tt
  for-all-ends-later (row ∷ rows) s t k g = λ u h. g u (later_then s t u k h)

  pub exists-from : (rows : List (List Value)) (e : CallEnd) (r s t : WorldState) → LaterWorld r s → ExistsByRows w f rows s e t → ExistsByRows w f rows r e t
  exists-from rows e r s t k (some_none h) = some_none (later_then r s t k h)
  exists-from rows e r s t k (some_last {t = u} h c) = some_last (later_then r s u k h) c
  exists-from rows e r s t k (some_here {t = u} h c is i) = some_here (later_then r s u k h) c is i
  exists-from rows e r s t k (some_behind {t = u} h c is i) = some_behind (later_then r s u k h) c is i
  exists-from rows e r s t k (some_stops {t = u} h c) = some_stops (later_then r s u k h) c

  pub exists-ends-later : (rows : List (List Value)) (s t : WorldState) → LaterWorld s t → ExistsEnds w f rows s → ExistsEnds w f rows t
  exists-ends-later [] s t k g = tt
  exists-ends-later (row ∷ rows) s t k g = λ u h. g u (later_then s t u k h)

  pub left-from : (z : Value) (rows : List (List Value)) (e : CallEnd) (r s t : WorldState) → LaterWorld r s → FoldLeftByRows w f z rows s e t → FoldLeftByRows w f z rows r e t
  left-from z rows e r s t k (left_end h) = left_end (later_then r s t k h)
  left-from z rows e r s t k (left_step {t = u} h c i) = left_step (later_then r s u k h) c i
  left-from z rows e r s t k (left_stops {t = u} h c) = left_stops (later_then r s u k h) c

  pub left-ends-later : (z : Value) (rows : List (List Value)) (s t : WorldState) → LaterWorld s t → FoldLeftEnds w f z rows s → FoldLeftEnds w f z rows t
  left-ends-later z [] s t k g = tt
  left-ends-later z (row ∷ rows) s t k g = λ u h. g u (later_then s t u k h)

  pub right-from : (z : Value) (rows : List (List Value)) (e : CallEnd) (r s t : WorldState) → LaterWorld r s → FoldRightByRows w f z rows s e t → FoldRightByRows w f z rows r e t
  right-from z rows e r s t k (right_end h) = right_end (later_then r s t k h)
  right-from z rows e r s t k (right_step {x = x} {rows = rest} {t = u} i h c) = right_step (right-from z rest (Ok x) r s u k i) h c
  right-from z rows e r s t k (right_stops {rows = rest} {e = b} i) = right_stops (right-from z rest (Err b) r s t k i)

  pub right-ends-later : (z : Value) (rows : List (List Value)) (s t : WorldState) → LaterWorld s t → FoldRightEnds w f z rows s → FoldRightEnds w f z rows t
  right-ends-later z [] s t k g = tt
  right-ends-later z (row ∷ rows) s t k g = (right-ends-later z rows s t k g.0, λ x u v i h. g.1 x u v (right-from z rows (Ok x) s t u k i) h)
