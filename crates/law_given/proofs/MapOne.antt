-- The loop of `map` along one list.
use Rattle.std.proofs.Common.{◌≡◌, List, [], ◌∷◌, ◌++◌, Some, None, true, false, length, Ok, Err, refl, ap, sym, subst, inl, inr}
use Rattle.std.specs.Prelude.{◌⊎◌}
use Rattle.base_data.specs.declared.fault.Bare.{Bare}
use Rattle.base_data.specs.declared.op.names.TheConstants as names
use Rattle.core_language.specs.Core.{none, cores}
use Rattle.base_region.specs.declared.region.Place.{Place}
use Rattle.base_region.proofs.Laws.{slice_get-added}
use Rattle.eval_value.specs.Cells.{pair_in}
use Rattle.eval_value.specs.declared.value.Value.{Value}
use Rattle.eval_value.specs.declared.value.Value.TheVariants as value
use Rattle.eval_value.specs.declared.cell.Cell.{Cell}
use Rattle.eval_value.specs.declared.cell.Cell.TheVariants as cell
use Rattle.eval_prims.specs.Answers.{truth}
use Rattle.eval_prims.specs.Chains.{pair_of}
use Rattle.eval_prims.specs.Lists.{nil}
use Rattle.eval_code.specs.Codes.{code_at, procedure_code}
use Rattle.eval_code.specs.Setting.{PlainSetting}
use Rattle.eval_code.specs.State.{WorldState, next_place, with_cell}
use Rattle.eval_code.specs.Variables.{Entries}
use Rattle.law_eval.specs.Kept.{LaterWorld}
use Rattle.law_eval.proofs.Keeping.{later_then, later_with}
use Rattle.law_lists.specs.Runs.{here, next, IsList}
use Rattle.law_lists.proofs.RunLemmas.{stay_added, pair_still, runs_still}
use Rattle.law_given.specs.Calls.{CallEnd, call_to, call_of, CallEnds, Calls}
use Rattle.law_given.specs.Codes.{label, code_no, var, formals, one_case, car, cdr, prim, cons, map_first, map_others, map_one}
use Rattle.law_given.specs.Given.{Maps, Mapped, Faults}
use Rattle.law_given.specs.InTurn.{InTurn, no_call, one_call, stops_here, stops_behind, AfterValue, AllGive, AllEnd}
use Rattle.law_given.proofs.Giving.{Evaluates, ExpressionEnds, if-true, false-ends, primitive-is, operand-ends, operand-stops, call-ends, call-one-ends, call-two-ends}
use Rattle.law_given.proofs.Calling.{closure-ends, closure-back, case-ends}
use Rattle.law_given.proofs.Inside.{Inside, Home, home-later, inside-later, entered-inside, own, outer}
use Rattle.law_given.proofs.Looking.{later-stay}
use Rattle.law_given.proofs.Later.{calls-later, list-later, in-turn-to}
use Rattle.law_given.proofs.Inverting.{false-back, call-one-back, call-two-back, Consed, cons-back, case-back}
use Rattle.law_given.proofs.Unique.{gives-one-value, gives-one-state}
use Rattle.law_given.proofs.Primitives.{pair-not-nil, next_pair, null-is, car-is, cdr-is, cons-is, nil-is}

-- a list with no element, and one with a first element

pub list-none : {cells : List Cell} {x : Value} → IsList cells [] x → x ≡ nil
list-none here = refl

pub list-some : {cells : List Cell} {y x : Value} {ys : List Value} → IsList cells (y ∷ ys) x → (d : Value) × (pair_of cells x ≡ Some (y, d)) × IsList cells ys d
list-some (next {d = d} e r) = (d, e, r)

-- a new pair before a list
pub list-more : (cells : List Cell) (y x : Value) (ys : List Value) → IsList cells ys x → IsList (cells ++ cell.Pair y x ∷ []) (y ∷ ys) (value.Pair (record { 0 = length cells }))
list-more cells y x ys r = next (ap pair_in (slice_get-added cells (cell.Pair y x))) (runs_still cells (cells ++ cell.Pair y x ∷ []) (stay_added cells (cell.Pair y x)) r)

-- a pair is one still
pub pair-later : (s : WorldState) (c : Cell) (x y d : Value) → pair_of s.cells x ≡ Some (y, d) → pair_of (with_cell c s).cells x ≡ Some (y, d)
pair-later s c x y d e = pair_still s.cells (s.cells ++ c ∷ []) (stay_added s.cells c) x y d e

-- the cell of the two procedures in the text of `map`
abbrev pub map_home : Place → Entries
map_home p = (label 2, Some (value.Closure (code_no 4) p)) ∷ (label 3, Some (value.Closure (code_no 9) p)) ∷ []

module _ (w : PlainSetting) (known : code_at w.codes (code_no 4) ≡ Some (procedure_code (code_no 4) (one_case (6 ∷ 7 ∷ []) None map_one) true)) (f : Value) (p : Place) where
  abbrev g : Value
  g = value.Closure (code_no 4) p

  abbrev MapGives : List Value → Value → WorldState → Type 0
  MapGives xs l s = Maps w (call_to g (f ∷ l ∷ [])) f xs s

  abbrev Faulted : List Value → Value → WorldState → Type 0
  Faulted xs l s = Faults w (call_to g (f ∷ l ∷ [])) f xs s

  abbrev vars : Value → Entries
  vars l = (label 6, Some f) ∷ (label 7, Some l) ∷ []

  abbrev begun : Value → WorldState → WorldState
  begun l s = with_cell (cell.Scope (vars l) (Some p)) s

  -- the call, by its body
  body-ends : (l : Value) (s : WorldState) (r : CallEnd) (t : WorldState) → ExpressionEnds w map_one (next_place s) (begun l s) r t → CallEnds w (call_to g (f ∷ l ∷ [])) s r t
  body-ends l s r t h =
      closure-ends w (code_no 4) p (f ∷ l ∷ []) s r t
      (case-ends w (code_no 4) p (f ∷ l ∷ []) s (procedure_code (code_no 4) (one_case (6 ∷ 7 ∷ []) None map_one) true) (formals (6 ∷ 7 ∷ []) None) map_one r t known refl h)

  body-called : (l : Value) (s : WorldState) (v : Value) (t : WorldState) → Evaluates w map_one (next_place s) (begun l s) v t → Calls w (call_to g (f ∷ l ∷ [])) s v t
  body-called l s v t h = body-ends l s (Ok v) t h

  nothing : (s : WorldState) → Home s.cells p (map_home p) → MapGives [] nil s
  nothing s home = record {
    value = nil;
    state = s1;
    called = body-called nil s nil s1
        (if-true w _ _ _ q s1 s1 s1 (truth true) nil (null-is w (var 7) q s1 s1 nil (own w s1 q (vars nil) p (map_home p) inside (label 7) nil refl) true refl) refl (nil-is w _ q s1));
    answers = [];
    in_turn = no_call (later_with s (cell.Scope (vars nil) (Some p)));
    list = here;
  }
    where
      s1 : WorldState
      s1 = begun nil s

      q : Place
      q = next_place s

      inside : Inside s1.cells q (vars nil) p (map_home p)
      inside = entered-inside s (vars nil) p (map_home p) home

  module _ (x l d : Value) (xs : List Value) (s : WorldState) (home : Home s.cells p (map_home p)) (pair : pair_of s.cells l ≡ Some (x, d)) where
    abbrev at : WorldState
    at = begun l s

    abbrev q : Place
    q = next_place s

    enter : LaterWorld s at
    enter = later_with s (cell.Scope (vars l) (Some p))

    inside : Inside at.cells q (vars l) p (map_home p)
    inside = entered-inside s (vars l) p (map_home p) home

    pair-at : pair_of at.cells l ≡ Some (x, d)
    pair-at = pair-later s (cell.Scope (vars l) (Some p)) l x d pair

    list-read : Evaluates w (var 7) q at l at
    list-read = own w at q (vars l) p (map_home p) inside (label 7) l refl

    -- what the pair's making ends with, the whole ends with
    by-cons : (r : CallEnd) (t : WorldState) → ExpressionEnds w (cons map_first map_others) q at r t → CallEnds w (call_to g (f ∷ l ∷ [])) s r t
    by-cons r t h =
        body-ends l s r t
        (false-ends w _ _ _ q at at t (truth false) r (null-is w (var 7) q at at l list-read false (pair-not-nil at.cells l x d pair-at)) refl h)

    first-ends : (r : CallEnd) (u : WorldState) → CallEnds w (call_to f (x ∷ [])) at r u → ExpressionEnds w map_first q at r u
    first-ends r u h = call-one-ends w (var 6) (car (var 7)) q at at at u f x r (own w at q (vars l) p (map_home p) inside (label 6) f refl) (car-is w (var 7) q at at l list-read x d pair-at) h

    -- the call faults
    stops-here : (e : Bare) (u : WorldState) → CallEnds w (call_to f (x ∷ [])) at (Err e) u → Faulted (x ∷ xs) l s
    stops-here e u h = record {
      fault = e;
      state = u;
      called = by-cons (Err e) u
          (call-ends w (prim names.CONS) (cores (map_first ∷ map_others ∷ [])) q at at u (value.Prim (record { 0 = names.CONS })) (Err e) (primitive-is w (record { 0 = names.CONS }) q at)
          (operand-stops w map_first (cores (map_others ∷ [])) q (value.Prim (record { 0 = names.CONS }) ∷ []) at u e (first-ends (Err e) u h)));
      stops = stops_here enter h;
    }

    module _ (y : Value) (u : WorldState) (called : Calls w (call_to f (x ∷ [])) at y u) where
      behind : LaterWorld at u
      behind = calls-later w f (x ∷ []) at y u called

      inside-then : Inside u.cells q (vars l) p (map_home p)
      inside-then = inside-later at u behind q (vars l) p (map_home p) inside

      pair-then : pair_of u.cells l ≡ Some (x, d)
      pair-then = pair_still at.cells u.cells (later-stay at u behind) l x d pair-at

      others-end : (r : CallEnd) (t : WorldState) → CallEnds w (call_to g (f ∷ d ∷ [])) u r t → ExpressionEnds w map_others q u r t
      others-end r t h =
          call-two-ends w (var 2) (var 6) (cdr (var 7)) q u u u u t g f d r
          (outer w u q (vars l) p (map_home p) inside-then (label 2) g refl refl)
          (own w u q (vars l) p (map_home p) inside-then (label 6) f refl)
          (cdr-is w (var 7) q u u l (own w u q (vars l) p (map_home p) inside-then (label 7) l refl) x d pair-then) h

      some : MapGives xs d u → MapGives (x ∷ xs) l s
      some rest = record {
        value = next_pair w rest.state;
        state = with_cell (cell.Pair y rest.value) rest.state;
        called = by-cons (Ok (next_pair w rest.state)) (with_cell (cell.Pair y rest.value) rest.state)
            (cons-is w map_first q at u y (first-ends (Ok y) u called) map_others rest.value rest.state (others-end (Ok rest.value) rest.state rest.called));
        answers = y ∷ rest.answers;
        in_turn = one_call enter called
            (in-turn-to w f xs rest.answers u rest.state (with_cell (cell.Pair y rest.value) rest.state) rest.in_turn (later_with rest.state (cell.Pair y rest.value)));
        list = list-more rest.state.cells y rest.value rest.answers rest.list;
      }

      -- a later call faults
      stops-behind : Faulted xs d u → Faulted (x ∷ xs) l s
      stops-behind rest = record {
        fault = rest.fault;
        state = rest.state;
        called = by-cons (Err rest.fault) rest.state
            (call-ends w (prim names.CONS) (cores (map_first ∷ map_others ∷ [])) q at at rest.state (value.Prim (record { 0 = names.CONS })) (Err rest.fault) (primitive-is w (record { 0 = names.CONS }) q at)
            (operand-ends w map_first (cores (map_others ∷ [])) q (value.Prim (record { 0 = names.CONS }) ∷ []) at u rest.state y (Err rest.fault) (first-ends (Ok y) u called)
            (operand-stops w map_others none q (value.Prim (record { 0 = names.CONS }) ∷ y ∷ []) u rest.state rest.fault (others-end (Err rest.fault) rest.state rest.called))));
        stops = stops_behind enter called rest.stops;
      }

    -- by the end of the call
    ends-by : (r : CallEnd) (u : WorldState) → CallEnds w (call_to f (x ∷ [])) at r u → AfterValue r (AllEnd w f xs u)
        → ((v : WorldState) → LaterWorld s v → AllEnd w f xs v → MapGives xs d v ⊎ Faulted xs d v) → MapGives (x ∷ xs) l s ⊎ Faulted (x ∷ xs) l s
    ends-by (Ok y) u h a again = elim (again u (later_then s at u enter (calls-later w f (x ∷ []) at y u h)) a) [
      | inl m ↦ inl (some y u h m)
      | inr m ↦ inr (stops-behind y u h m)
    ]
    ends-by (Err e) u h a again = inr (stops-here e u h)

  pub map-one : (xs : List Value) (l : Value) (s : WorldState) → Home s.cells p (map_home p) → IsList s.cells xs l → AllGive w f xs s → MapGives xs l s
  map-one [] l s home r give = subst (λ x. MapGives [] x s) (sym (list-none r)) (nothing s home)
  map-one (x ∷ xs) l s home r give =
      let c = list-some r in
      let made = give (begun l s) (later_with s (cell.Scope (vars l) (Some p))) in
      let behind = later_then s (begun l s) made.1 (later_with s (cell.Scope (vars l) (Some p))) (calls-later w f (x ∷ []) (begun l s) made.0 made.1 made.2) in
      some x l c.0 xs s home c.1 made.0 made.1 made.2
      (map-one xs c.0 made.1 (home-later s made.1 behind p (map_home p) home) (list-later s made.1 behind xs c.0 c.2) made.3)

  -- with faults
  pub map-ends : (xs : List Value) (l : Value) (s : WorldState) → Home s.cells p (map_home p) → IsList s.cells xs l → AllEnd w f xs s → MapGives xs l s ⊎ Faulted xs l s
  map-ends [] l s home r give = inl (subst (λ x. MapGives [] x s) (sym (list-none r)) (nothing s home))
  map-ends (x ∷ xs) l s home r give =
      let c = list-some r in
      let made = give (begun l s) (later_with s (cell.Scope (vars l) (Some p))) in
      ends-by x l c.0 xs s home c.1 made.0 made.1 made.2 made.3
      (λ v k g. map-ends xs c.0 v (home-later s v k p (map_home p) home) (list-later s v k xs c.0 c.2) g)

  -- What a call that gave a value did.

  only-some : (x l d : Value) (xs : List Value) (s : WorldState) (v : Value) (t : WorldState) → Home s.cells p (map_home p) → pair_of s.cells l ≡ Some (x, d) → Calls w (call_to g (f ∷ l ∷ [])) s v t
      → ((u : WorldState) → LaterWorld s u → (y : Value) (q : WorldState) → Calls w (call_to g (f ∷ d ∷ [])) u y q → Mapped w f xs u y q) → Mapped w f (x ∷ xs) s v t
  only-some x l d xs s v t home pair called again = record {
    answers = made.car_value ∷ rest.answers;
    in_turn = subst (λ a. InTurn w f (x ∷ xs) s (made.car_value ∷ rest.answers) a) made.state_is
        (one_call (enter x l d xs s home pair) first (in-turn-to w f xs rest.answers made.between made.behind after rest.in_turn (later_with made.behind (cell.Pair made.car_value made.cdr_value))));
    list = subst (λ (a : WorldState). IsList a.cells (made.car_value ∷ rest.answers) v) made.state_is
        (subst (λ b. IsList after.cells (made.car_value ∷ rest.answers) b) made.value_is (list-more made.behind.cells made.car_value made.cdr_value rest.answers rest.list));
  }
    where
      start : WorldState
      start = begun l s

      place : Place
      place = next_place s

      body : Evaluates w map_one place start v t
      body =
          case-back w (code_no 4) p (f ∷ l ∷ []) s (procedure_code (code_no 4) (one_case (6 ∷ 7 ∷ []) None map_one) true) (formals (6 ∷ 7 ∷ []) None) map_one v t known refl
          (closure-back w (code_no 4) p (f ∷ l ∷ []) s v t called)

      made : Consed w map_first map_others place start v t
      made =
          cons-back w map_first map_others place start v t
          (false-back w _ _ _ place start start t (truth false) v
          (null-is w (var 7) place start start l (list-read x l d xs s home pair) false (pair-not-nil start.cells l x d (pair-at x l d xs s home pair))) refl body)

      after : WorldState
      after = with_cell (cell.Pair made.car_value made.cdr_value) made.behind

      first : Calls w (call_to f (x ∷ [])) start made.car_value made.between
      first =
          call-one-back w (var 6) (car (var 7)) place start start start made.between f x made.car_value
          (own w start place (vars l) p (map_home p) (inside x l d xs s home pair) (label 6) f refl)
          (car-is w (var 7) place start start l (list-read x l d xs s home pair) x d (pair-at x l d xs s home pair)) made.car_given

      here_inside : Inside made.between.cells place (vars l) p (map_home p)
      here_inside = inside-then x l d xs s home pair made.car_value made.between first

      others : Calls w (call_to g (f ∷ d ∷ [])) made.between made.cdr_value made.behind
      others =
          call-two-back w (var 2) (var 6) (cdr (var 7)) place made.between made.between made.between made.between made.behind g f d made.cdr_value
          (outer w made.between place (vars l) p (map_home p) here_inside (label 2) g refl refl)
          (own w made.between place (vars l) p (map_home p) here_inside (label 6) f refl)
          (cdr-is w (var 7) place made.between made.between l (own w made.between place (vars l) p (map_home p) here_inside (label 7) l refl) x d (pair-then x l d xs s home pair made.car_value made.between first))
          made.cdr_given

      rest : Mapped w f xs made.between made.cdr_value made.behind
      rest = again made.between (later_then s start made.between (enter x l d xs s home pair) (calls-later w f (x ∷ []) start made.car_value made.between first)) made.cdr_value made.behind others

  pub only-one : (xs : List Value) (l : Value) (s : WorldState) (v : Value) (t : WorldState) → Home s.cells p (map_home p) → IsList s.cells xs l → Calls w (call_to g (f ∷ l ∷ [])) s v t → Mapped w f xs s v t
  only-one [] l s v t home r called =
      let m : MapGives [] l s = subst (λ x. MapGives [] x s) (sym (list-none r)) (nothing s home) in
      let value_is = gives-one-value (call_of w (call_to g (f ∷ l ∷ [])) s) m.value v m.state t m.called called in
      let state_is = gives-one-state (call_of w (call_to g (f ∷ l ∷ [])) s) m.value v m.state t m.called called in
      record {
        answers = m.answers;
        in_turn = subst (λ a. InTurn w f [] s m.answers a) state_is m.in_turn;
        list = subst (λ (a : WorldState). IsList a.cells m.answers v) state_is (subst (λ b. IsList m.state.cells m.answers b) value_is m.list);
      }
  only-one (x ∷ xs) l s v t home r called =
      let c = list-some r in
      only-some x l c.0 xs s v t home c.1 called (λ u k y q h. only-one xs c.0 u y q (home-later s u k p (map_home p) home) (list-later s u k xs c.0 c.2) h)
