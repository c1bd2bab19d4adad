-- What holds in a state holds in those that come after it.
use Rattle.std.proofs.Common.{◌+◌, ℕ, List, [], ◌∷◌, Ok, Err, refl, subst, arith}
use Rattle.base_data.specs.declared.fault.Bare.{Bare}
use Rattle.eval_value.proofs.Stored.{keeps_refl}
use Rattle.eval_value.specs.declared.value.Value.{Value}
use Rattle.eval_code.specs.Setting.{PlainSetting}
use Rattle.eval_code.specs.State.{WorldState}
use Rattle.law_eval.specs.Kept.{LaterWorld, EndsLater}
use Rattle.law_eval.specs.Runs.{ByFuel}
use Rattle.law_eval.proofs.Keeping.{keeps-call, later_then}
use Rattle.law_lists.specs.Runs.{IsList}
use Rattle.law_lists.proofs.RunLemmas.{runs_still}
use Rattle.law_given.specs.Calls.{CallEnd, Ends, call_to, call_of, CallEnds, Calls}
use Rattle.law_given.specs.InTurn.{InTurn, no_call, one_call, Stops, stops_here, stops_behind, AllGive, AllEnd, SearchCalls, not_there, passed, there, SearchGives, SearchStops, search_stops, search_goes_on, SearchEnds}
use Rattle.law_given.proofs.Looking.{later-stay}

pub later-refl : (s : WorldState) → LaterWorld s s
later-refl s = record { cells = keeps_refl s.cells; library = refl; names = omega arith }

ends-later : (run : ByFuel) (r : CallEnd) (s t : WorldState) → ((n : ℕ) → EndsLater s (run n)) → Ends run r t → LaterWorld s t
ends-later run (Ok v) s t ends g = subst (EndsLater s) (g.1 0) (ends (0 + g.0))
ends-later run (Err f) s t ends g = subst (EndsLater s) (g.1 0) (ends (0 + g.0))

pub call-ends-later : (w : PlainSetting) (f : Value) (args : List Value) (s : WorldState) (r : CallEnd) (t : WorldState) → CallEnds w (call_to f args) s r t → LaterWorld s t
call-ends-later w f args s r t h = ends-later (call_of w (call_to f args) s) r s t (λ n. keeps-call w (f ∷ args) s n) h

pub calls-later : (w : PlainSetting) (f : Value) (args : List Value) (s : WorldState) (v : Value) (t : WorldState) → Calls w (call_to f args) s v t → LaterWorld s t
calls-later w f args s v t h = call-ends-later w f args s (Ok v) t h

pub list-later : (s t : WorldState) → LaterWorld s t → (xs : List Value) (x : Value) → IsList s.cells xs x → IsList t.cells xs x
list-later s t k xs x r = runs_still s.cells t.cells (later-stay s t k) r

module _ (w : PlainSetting) (f : Value) where
  -- Calls in turn, from an earlier state on and to a later one.

  pub in-turn-from : (xs ys : List Value) (r s t : WorldState) → LaterWorld r s → InTurn w f xs s ys t → InTurn w f xs r ys t
  in-turn-from xs ys r s t k (no_call h) = no_call (later_then r s t k h)
  in-turn-from xs ys r s t k (one_call {t = u} h c i) = one_call (later_then r s u k h) c i

  pub in-turn-to : (xs ys : List Value) (s t u : WorldState) → InTurn w f xs s ys t → LaterWorld t u → InTurn w f xs s ys u
  in-turn-to xs ys s t u (no_call h) k = no_call (later_then s t u h k)
  in-turn-to xs ys s t u (one_call {xs = xs'} {ys = ys'} {u = r} h c i) k = one_call h c (in-turn-to xs' ys' r t u i k)

  pub all-give-later : (xs : List Value) (s t : WorldState) → LaterWorld s t → AllGive w f xs s → AllGive w f xs t
  all-give-later [] s t k g = tt
  all-give-later (x ∷ xs) s t k g = λ u h. g u (later_then s t u k h)

  pub search-from : (xs rest : List Value) (r s t : WorldState) → LaterWorld r s → SearchCalls w f xs s rest t → SearchCalls w f xs r rest t
  search-from xs rest r s t k (not_there h) = not_there (later_then r s t k h)
  search-from xs rest r s t k (passed {t = u} h c e i) = passed (later_then r s u k h) c e i
  search-from xs rest r s t k (there {t = u} h c e i) = there (later_then r s u k h) c e i

  pub search-gives-later : (xs : List Value) (s t : WorldState) → LaterWorld s t → SearchGives w f xs s → SearchGives w f xs t
  search-gives-later [] s t k g = tt
  search-gives-later (x ∷ xs) s t k g = λ u h. g u (later_then s t u k h)

  pub stops-from : (xs : List Value) (e : Bare) (r s t : WorldState) → LaterWorld r s → Stops w f xs s e t → Stops w f xs r e t
  stops-from xs e r s t k (stops_here {t = u} h c) = stops_here (later_then r s u k h) c
  stops-from xs e r s t k (stops_behind {t = u} h c i) = stops_behind (later_then r s u k h) c i

  pub search-stops-from : (xs : List Value) (e : Bare) (r s t : WorldState) → LaterWorld r s → SearchStops w f xs s e t → SearchStops w f xs r e t
  search-stops-from xs e r s t k (search_stops {t = u} h c) = search_stops (later_then r s u k h) c
  search-stops-from xs e r s t k (search_goes_on {t = u} h c e' i) = search_goes_on (later_then r s u k h) c e' i

  pub search-ends-later : (xs : List Value) (s t : WorldState) → LaterWorld s t → SearchEnds w f xs s → SearchEnds w f xs t
  search-ends-later [] s t k g = tt
  search-ends-later (x ∷ xs) s t k g = λ u h. g u (later_then s t u k h)

  pub all-end-later : (xs : List Value) (s t : WorldState) → LaterWorld s t → AllEnd w f xs s → AllEnd w f xs t
  all-end-later [] s t k g = tt
  all-end-later (x ∷ xs) s t k g = λ u h. g u (later_then s t u k h)
