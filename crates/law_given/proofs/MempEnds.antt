-- The loop of `memp`, where calls may fault.
use Rattle.std.proofs.Common.{◌≡◌, List, [], ◌∷◌, Some, None, true, false, Ok, Err, refl, sym, subst, inl, inr}
use Rattle.std.specs.Prelude.{◌⊎◌}
use Rattle.base_data.specs.declared.fault.Bare.{Bare}
use Rattle.base_data.specs.declared.op.names.TheConstants as ops
use Rattle.base_region.specs.declared.region.Place.{Place}
use Rattle.eval_value.specs.declared.value.Value.{Value}
use Rattle.eval_value.specs.declared.value.Value.TheVariants as value
use Rattle.eval_prims.specs.Answers.{truth}
use Rattle.eval_prims.specs.Chains.{pair_of}
use Rattle.eval_code.specs.Codes.{code_at, procedure_code}
use Rattle.eval_code.specs.Procedures.{has_text, truth_of}
use Rattle.eval_code.specs.Setting.{PlainSetting}
use Rattle.eval_code.specs.State.{WorldState, next_place}
use Rattle.eval_code.specs.Variables.{Entries}
use Rattle.law_eval.specs.Kept.{LaterWorld}
use Rattle.law_eval.proofs.Keeping.{later_then}
use Rattle.law_lists.specs.Runs.{IsList}
use Rattle.law_given.specs.Calls.{CallEnd, call_to, CallEnds, Calls}
use Rattle.law_given.specs.Codes.{label, code_no, one_case, memp_some, memp_loop}
use Rattle.law_given.specs.Given.{FindsTail, SearchFaults}
use Rattle.law_given.specs.InTurn.{search_stops, search_goes_on, AfterFalse, SearchEnds}
use Rattle.law_given.proofs.Giving.{ExpressionEnds, false-ends, test-stops}
use Rattle.law_given.proofs.FindLoop.{by-truth}
use Rattle.law_given.proofs.MempLoop.{nothing, found, missed}
use Rattle.law_given.proofs.Inside.{Home, home-later, one_home}
use Rattle.law_given.proofs.Knows.{Knows}
use Rattle.law_given.proofs.Later.{later-refl, calls-later, list-later, search-from, search-stops-from, search-ends-later}
use Rattle.law_given.proofs.Loop as loop
use Rattle.law_given.proofs.Loop.{Names}
use Rattle.law_given.proofs.LoopText.{home_place, ready, ready-home, ready-later, loop-by-ends}
use Rattle.law_given.proofs.MapOne.{list-none, list-some}

module _ (w : PlainSetting) (known : code_at w.codes (code_no 86) ≡ Some (procedure_code (code_no 86) (one_case (88 ∷ 89 ∷ []) None memp_loop) true)) (f : Value) (p : Place) where
  abbrev home : Entries
  home = one_home (label 85) (code_no 86) p

  abbrev g : Value
  g = value.Closure (code_no 86) p

  abbrev Ended : List Value → Value → WorldState → Type 0
  Ended xs l s = FindsTail w (call_to g (f ∷ l ∷ [])) f l xs s

  abbrev Faulted : List Value → Value → WorldState → Type 0
  Faulted xs l s = SearchFaults w (call_to g (f ∷ l ∷ [])) f xs s

  abbrev names : Names 85 88 89 home g
  names = record { procedure = λ f l. refl; list = λ f l. refl; no_loop = λ f l. refl; loop = refl }

  module _ (x l d : Value) (xs : List Value) (s : WorldState) (round : Home s.cells p home) (pair : pair_of s.cells l ≡ Some (x, d)) where
    abbrev at : WorldState
    at = loop.entered w 86 85 88 89 memp_loop known p home names f l s round

    abbrev q : Place
    q = next_place s

    enter : LaterWorld s at
    enter = loop.entered-later w 86 85 88 89 memp_loop known p home names f l s round

    with-null : (r : CallEnd) (t : WorldState) → ExpressionEnds w memp_some q at r t → CallEnds w (call_to g (f ∷ l ∷ [])) s r t
    with-null r t h =
        loop.loop-ends w 86 85 88 89 memp_loop known p home names f l s round r t
        (false-ends w _ _ _ q at at t (truth false) r (loop.not-null w 86 85 88 89 memp_loop known p home names f l s round at (later-refl at) x d pair) refl h)

    -- the call faults
    stopped : (e : Bare) (u : WorldState) → CallEnds w (call_to f (x ∷ [])) at (Err e) u → Faulted (x ∷ xs) l s
    stopped e u h = record {
      fault = e;
      state = u;
      called = with-null (Err e) u (test-stops w _ _ _ q at u e (loop.first-ends w 86 85 88 89 memp_loop known p home names f l s round at (later-refl at) x d pair (Err e) u h));
      stops = search_stops enter h;
    }

    -- a later call faults
    stopped-behind : (y : Value) (u : WorldState) → Calls w (call_to f (x ∷ [])) at y u → truth_of y ≡ false → Faulted xs d u → Faulted (x ∷ xs) l s
    stopped-behind y u called e rest = record {
      fault = rest.fault;
      state = rest.state;
      called = with-null (Err rest.fault) rest.state
          (false-ends w _ _ _ q at u rest.state y (Err rest.fault) (loop.first-called w 86 85 88 89 memp_loop known p home names f l s round at (later-refl at) x d pair y u called) e
          (loop.again-ends w 86 85 88 89 memp_loop known p home names f l s round u (calls-later w f (x ∷ []) at y u called) x d pair (Err rest.fault) rest.state rest.called));
      stops = search_goes_on enter called e rest.stops;
    }

    -- by the end of the call
    ends-by : IsList s.cells (x ∷ xs) l → (r : CallEnd) (u : WorldState) → CallEnds w (call_to f (x ∷ [])) at r u → AfterFalse r (SearchEnds w f xs u)
        → ((v : WorldState) → LaterWorld s v → SearchEnds w f xs v → Ended xs d v ⊎ Faulted xs d v) → Ended (x ∷ xs) l s ⊎ Faulted (x ∷ xs) l s
    ends-by list (Ok y) u h a again =
        by-truth (truth_of y) (Ended (x ∷ xs) l s ⊎ Faulted (x ∷ xs) l s) (λ e. inl (found w known f p x l d xs s round pair list y u h e))
        (λ e. elim (again u (later_then s at u enter (calls-later w f (x ∷ []) at y u h)) (a e)) [
          | inl m ↦ inl (missed w known f p x l d xs s round pair y u h e m)
          | inr m ↦ inr (stopped-behind y u h e m)
        ])
    ends-by list (Err e) u h a again = inr (stopped e u h)

  memp-ends : (xs : List Value) (l : Value) (s : WorldState) → Home s.cells p home → IsList s.cells xs l → SearchEnds w f xs s → Ended xs l s ⊎ Faulted xs l s
  memp-ends [] l s round r give = inl (subst (λ x. Ended [] x s) (sym (list-none r)) (nothing w known f p s round))
  memp-ends (x ∷ xs) l s round r give =
      let c = list-some r in
      let made = give (at x l c.0 xs s round c.1) (enter x l c.0 xs s round c.1) in
      ends-by x l c.0 xs s round c.1 r made.0 made.1 made.2 made.3
      (λ v k a. memp-ends xs c.0 v (home-later s v k p home round) (list-later s v k xs c.0 c.2) a)

pub memp-ended : (w : PlainSetting) (knows : Knows w.codes) (f l : Value) (xs : List Value) (s : WorldState) → IsList s.cells xs l → SearchEnds w f xs s
    → FindsTail w (call_to (value.Prim (record { 0 = ops.MEMP })) (f ∷ l ∷ [])) f l xs s ⊎ SearchFaults w (call_to (value.Prim (record { 0 = ops.MEMP })) (f ∷ l ∷ [])) f xs s
unfolding has_text
memp-ended w knows f l xs s r give =
    elim (memp-ends w knows.memp_loop f (home_place w s 85 86) xs l at (ready-home w s 85 86) (list-later s at behind xs l r) (search-ends-later w f xs s at behind give)) [
      | inl m ↦ inl (record {
        value = m.value;
        state = m.state;
        rest = m.rest;
        search = search-from w f xs m.rest s at m.state behind m.search;
        called = loop-by-ends w s 85 86 ops.MEMP (88 ∷ 89 ∷ []) memp_loop refl refl refl (f ∷ l ∷ []) (Ok m.value) m.state knows.memp_text refl m.called;
        tail = m.tail;
      })
      | inr m ↦ inr (record {
        fault = m.fault;
        state = m.state;
        called = loop-by-ends w s 85 86 ops.MEMP (88 ∷ 89 ∷ []) memp_loop refl refl refl (f ∷ l ∷ []) (Err m.fault) m.state knows.memp_text refl m.called;
        stops = search-stops-from w f xs m.fault s at m.state behind m.stops;
      })
    ]
  where
    at : WorldState
    at = ready w s 85 86

    behind : LaterWorld s at
    behind = ready-later w s 85 86
