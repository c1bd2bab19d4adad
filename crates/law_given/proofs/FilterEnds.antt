-- The loop of `filter`, where calls may fault.
use Rattle.std.proofs.Common.{◌≡◌, List, [], ◌∷◌, Some, None, Bool, true, false, Ok, Err, refl, sym, subst, inl, inr}
use Rattle.std.specs.Prelude.{◌⊎◌}
use Rattle.base_data.specs.declared.fault.Bare.{Bare}
use Rattle.base_data.specs.declared.op.names.TheConstants as ops
use Rattle.base_region.specs.declared.region.Place.{Place}
use Rattle.eval_value.specs.declared.value.Value.{Value}
use Rattle.eval_value.specs.declared.value.Value.TheVariants as value
use Rattle.eval_prims.specs.Answers.{truth}
use Rattle.eval_prims.specs.Chains.{pair_of}
use Rattle.eval_code.specs.Codes.{code_at, procedure_code}
use Rattle.eval_code.specs.Procedures.{has_text, truth_of}
use Rattle.eval_code.specs.Setting.{PlainSetting}
use Rattle.eval_code.specs.State.{WorldState, next_place}
use Rattle.eval_code.specs.Variables.{Entries}
use Rattle.law_eval.specs.Kept.{LaterWorld}
use Rattle.law_eval.proofs.Keeping.{later_then}
use Rattle.law_lists.specs.Runs.{IsList}
use Rattle.law_given.specs.Calls.{CallEnd, call_to, CallEnds, Calls}
use Rattle.law_given.specs.Codes.{label, code_no, var, one_case, app, car, cdr, filter_some, filter_loop}
use Rattle.law_given.specs.Given.{Filters, Faults}
use Rattle.law_given.specs.InTurn.{stops_here, stops_behind, AfterValue, AllEnd, chosen}
use Rattle.law_given.proofs.Giving.{Evaluates, ExpressionEnds, true-ends, false-ends, test-stops}
use Rattle.law_given.proofs.FilterLoop.{nothing, some}
use Rattle.law_given.proofs.Inside.{Home, home-later, one_home}
use Rattle.law_given.proofs.Knows.{Knows}
use Rattle.law_given.proofs.Later.{later-refl, calls-later, list-later, in-turn-from, stops-from, all-end-later}
use Rattle.law_given.proofs.Loop as loop
use Rattle.law_given.proofs.Loop.{Names}
use Rattle.law_given.proofs.LoopText.{home_place, ready, ready-home, ready-later, loop-by-ends}
use Rattle.law_given.proofs.MapOne.{list-none, list-some}
use Rattle.law_given.proofs.Primitives.{cons-stops}

module _ (w : PlainSetting) (known : code_at w.codes (code_no 61) ≡ Some (procedure_code (code_no 61) (one_case (63 ∷ 64 ∷ []) None filter_loop) true)) (f : Value) (p : Place) where
  abbrev home : Entries
  home = one_home (label 60) (code_no 61) p

  abbrev g : Value
  g = value.Closure (code_no 61) p

  abbrev Kept : List Value → Value → WorldState → Type 0
  Kept xs l s = Filters w (call_to g (f ∷ l ∷ [])) f chosen xs s

  abbrev Faulted : List Value → Value → WorldState → Type 0
  Faulted xs l s = Faults w (call_to g (f ∷ l ∷ [])) f xs s

  abbrev names : Names 60 63 64 home g
  names = record { procedure = λ f l. refl; list = λ f l. refl; no_loop = λ f l. refl; loop = refl }

  module _ (x l d : Value) (xs : List Value) (s : WorldState) (round : Home s.cells p home) (pair : pair_of s.cells l ≡ Some (x, d)) where
    abbrev at : WorldState
    at = loop.entered w 61 60 63 64 filter_loop known p home names f l s round

    abbrev q : Place
    q = next_place s

    enter : LaterWorld s at
    enter = loop.entered-later w 61 60 63 64 filter_loop known p home names f l s round

    with-null : (r : CallEnd) (t : WorldState) → ExpressionEnds w filter_some q at r t → CallEnds w (call_to g (f ∷ l ∷ [])) s r t
    with-null r t h =
        loop.loop-ends w 61 60 63 64 filter_loop known p home names f l s round r t
        (false-ends w _ _ _ q at at t (truth false) r (loop.not-null w 61 60 63 64 filter_loop known p home names f l s round at (later-refl at) x d pair) refl h)

    -- the call faults
    stopped : (e : Bare) (u : WorldState) → CallEnds w (call_to f (x ∷ [])) at (Err e) u → Faulted (x ∷ xs) l s
    stopped e u h = record {
      fault = e;
      state = u;
      called = with-null (Err e) u (test-stops w _ _ _ q at u e (loop.first-ends w 61 60 63 64 filter_loop known p home names f l s round at (later-refl at) x d pair (Err e) u h));
      stops = stops_here enter h;
    }

    -- a later call faults
    stopped-behind : (y : Value) (u : WorldState) → Calls w (call_to f (x ∷ [])) at y u → Faulted xs d u → Faulted (x ∷ xs) l s
    stopped-behind y u called rest = record {
      fault = rest.fault;
      state = rest.state;
      called = with-null (Err rest.fault) rest.state (by (truth_of y) refl);
      stops = stops_behind enter called rest.stops;
    }
      where
        behind : LaterWorld at u
        behind = calls-later w f (x ∷ []) at y u called

        test : Evaluates w (app (var 63) (car (var 64) ∷ [])) q at y u
        test = loop.first-called w 61 60 63 64 filter_loop known p home names f l s round at (later-refl at) x d pair y u called

        again : ExpressionEnds w (app (var 60) (var 63 ∷ cdr (var 64) ∷ [])) q u (Err rest.fault) rest.state
        again = loop.again-ends w 61 60 63 64 filter_loop known p home names f l s round u behind x d pair (Err rest.fault) rest.state rest.called

        by : (b : Bool) → truth_of y ≡ b → ExpressionEnds w filter_some q at (Err rest.fault) rest.state
        by true e =
            true-ends w _ _ _ q at u rest.state y (Err rest.fault) test e
            (cons-stops w (car (var 64)) _ q u u rest.state x rest.fault (loop.first-read w 61 60 63 64 filter_loop known p home names f l s round u behind x d pair) again)
        by false e = false-ends w _ _ _ q at u rest.state y (Err rest.fault) test e again

    -- by the end of the call
    ends-by : (r : CallEnd) (u : WorldState) → CallEnds w (call_to f (x ∷ [])) at r u → AfterValue r (AllEnd w f xs u)
        → ((v : WorldState) → LaterWorld s v → AllEnd w f xs v → Kept xs d v ⊎ Faulted xs d v) → Kept (x ∷ xs) l s ⊎ Faulted (x ∷ xs) l s
    ends-by (Ok y) u h a again = elim (again u (later_then s at u enter (calls-later w f (x ∷ []) at y u h)) a) [
      | inl m ↦ inl (some w known f p x l d xs s round pair y u h m)
      | inr m ↦ inr (stopped-behind y u h m)
    ]
    ends-by (Err e) u h a again = inr (stopped e u h)

  filter-ends : (xs : List Value) (l : Value) (s : WorldState) → Home s.cells p home → IsList s.cells xs l → AllEnd w f xs s → Kept xs l s ⊎ Faulted xs l s
  filter-ends [] l s round r give = inl (subst (λ x. Kept [] x s) (sym (list-none r)) (nothing w known f p s round))
  filter-ends (x ∷ xs) l s round r give =
      let c = list-some r in
      let made = give (at x l c.0 xs s round c.1) (enter x l c.0 xs s round c.1) in
      ends-by x l c.0 xs s round c.1 made.0 made.1 made.2 made.3
      (λ v k a. filter-ends xs c.0 v (home-later s v k p home round) (list-later s v k xs c.0 c.2) a)

pub filter-ended : (w : PlainSetting) (knows : Knows w.codes) (f l : Value) (xs : List Value) (s : WorldState) → IsList s.cells xs l → AllEnd w f xs s
    → Filters w (call_to (value.Prim (record { 0 = ops.FILTER })) (f ∷ l ∷ [])) f chosen xs s ⊎ Faults w (call_to (value.Prim (record { 0 = ops.FILTER })) (f ∷ l ∷ [])) f xs s
unfolding has_text
filter-ended w knows f l xs s r give =
    elim (filter-ends w knows.filter_loop f (home_place w s 60 61) xs l at (ready-home w s 60 61) (list-later s at behind xs l r) (all-end-later w f xs s at behind give)) [
      | inl m ↦ inl (record {
        value = m.value;
        state = m.state;
        called = loop-by-ends w s 60 61 ops.FILTER (63 ∷ 64 ∷ []) filter_loop refl refl refl (f ∷ l ∷ []) (Ok m.value) m.state knows.filter_text refl m.called;
        answers = m.answers;
        in_turn = in-turn-from w f xs m.answers s at m.state behind m.in_turn;
        list = m.list;
      })
      | inr m ↦ inr (record {
        fault = m.fault;
        state = m.state;
        called = loop-by-ends w s 60 61 ops.FILTER (63 ∷ 64 ∷ []) filter_loop refl refl refl (f ∷ l ∷ []) (Err m.fault) m.state knows.filter_text refl m.called;
        stops = stops-from w f xs m.fault s at m.state behind m.stops;
      })
    ]
  where
    at : WorldState
    at = ready w s 60 61

    behind : LaterWorld s at
    behind = ready-later w s 60 61
