-- The loop of `find`.
use Rattle.std.proofs.Common.{◌≡◌, List, [], ◌∷◌, Some, None, Bool, true, false, refl, sym, subst}
use Rattle.base_region.specs.declared.region.Place.{Place}
use Rattle.eval_value.specs.declared.value.Value.{Value}
use Rattle.eval_value.specs.declared.value.Value.TheVariants as value
use Rattle.eval_prims.specs.Answers.{truth}
use Rattle.eval_prims.specs.Chains.{pair_of}
use Rattle.eval_prims.specs.Lists.{nil}
use Rattle.eval_code.specs.Codes.{code_at, procedure_code}
use Rattle.eval_code.specs.Procedures.{truth_of}
use Rattle.eval_code.specs.Setting.{PlainSetting}
use Rattle.eval_code.specs.State.{WorldState, next_place}
use Rattle.eval_code.specs.Variables.{Entries}
use Rattle.law_eval.specs.Kept.{LaterWorld}
use Rattle.law_eval.proofs.Keeping.{later_then}
use Rattle.law_lists.specs.Runs.{IsList}
use Rattle.law_given.specs.Calls.{call_to, Calls}
use Rattle.law_given.specs.Codes.{label, code_no, var, one_case, app, car, find_some, find_loop}
use Rattle.law_given.specs.Given.{Finds, first_or_false}
use Rattle.law_given.specs.InTurn.{not_there, passed, there, SearchGives}
use Rattle.law_given.proofs.Giving.{Evaluates, if-true, if-false}
use Rattle.law_given.proofs.Inside.{Home, home-later, one_home}
use Rattle.law_given.proofs.Later.{later-refl, calls-later, list-later}
use Rattle.law_given.proofs.Primitives.{bool-is}
use Rattle.law_given.proofs.MapOne.{list-none, list-some}
use Rattle.law_given.proofs.Loop as loop
use Rattle.law_given.proofs.Loop.{Names}

-- either way
pub by-truth : (b : Bool) (P : Type 0) → (b ≡ true → P) → (b ≡ false → P) → P
by-truth true P h k = h refl
by-truth false P h k = k refl

module _ (w : PlainSetting) (known : code_at w.codes (code_no 78) ≡ Some (procedure_code (code_no 78) (one_case (80 ∷ 81 ∷ []) None find_loop) true)) (f : Value) (p : Place) where
  abbrev home : Entries
  home = one_home (label 77) (code_no 78) p

  abbrev g : Value
  g = value.Closure (code_no 78) p

  abbrev FoundGiven : List Value → Value → WorldState → Type 0
  FoundGiven xs l s = Finds w (call_to g (f ∷ l ∷ [])) f xs s

  abbrev names : Names 77 80 81 home g
  names = record { procedure = λ f l. refl; list = λ f l. refl; no_loop = λ f l. refl; loop = refl }

  pub nothing : (s : WorldState) → Home s.cells p home → FoundGiven [] nil s
  nothing s round = record {
    state = s1;
    rest = [];
    search = not_there (loop.entered-later w 78 77 80 81 find_loop known p home names f nil s round);
    called = loop.loop-called w 78 77 80 81 find_loop known p home names f nil s round (truth false) s1
        (if-true w _ _ _ (next_place s) s1 s1 s1 (truth true) (truth false) (loop.is-null w 78 77 80 81 find_loop known p home names f nil s round s1 (later-refl s1) refl) refl (bool-is w _ false (next_place s) s1));
  }
    where
      s1 : WorldState
      s1 = loop.entered w 78 77 80 81 find_loop known p home names f nil s round

  module _ (x l d : Value) (xs : List Value) (s : WorldState) (round : Home s.cells p home) (pair : pair_of s.cells l ≡ Some (x, d)) where
    abbrev s1 : WorldState
    s1 = loop.entered w 78 77 80 81 find_loop known p home names f l s round

    enter : LaterWorld s s1
    enter = loop.entered-later w 78 77 80 81 find_loop known p home names f l s round

    with-test : (y : Value) (u : WorldState) (v : Value) (t : WorldState) → Calls w (call_to f (x ∷ [])) s1 y u
        → (Evaluates w (app (var 80) (car (var 81) ∷ [])) (next_place s) s1 y u → Evaluates w find_some (next_place s) s1 v t) → Calls w (call_to g (f ∷ l ∷ [])) s v t
    with-test y u v t called h =
        loop.loop-called w 78 77 80 81 find_loop known p home names f l s round v t
        (if-false w _ _ _ (next_place s) s1 s1 t (truth false) v (loop.not-null w 78 77 80 81 find_loop known p home names f l s round s1 (later-refl s1) x d pair) refl
        (h (loop.first-called w 78 77 80 81 find_loop known p home names f l s round s1 (later-refl s1) x d pair y u called)))

    pub found : (y : Value) (u : WorldState) → Calls w (call_to f (x ∷ [])) s1 y u → truth_of y ≡ true → FoundGiven (x ∷ xs) l s
    found y u called e = record {
      state = u;
      rest = x ∷ xs;
      search = there enter called e (later-refl u);
      called = with-test y u x u called
          (λ test. if-true w _ _ _ (next_place s) s1 u u y x test e (loop.first-read w 78 77 80 81 find_loop known p home names f l s round u (calls-later w f (x ∷ []) s1 y u called) x d pair));
    }

    pub missed : (y : Value) (u : WorldState) → Calls w (call_to f (x ∷ [])) s1 y u → truth_of y ≡ false → FoundGiven xs d u → FoundGiven (x ∷ xs) l s
    missed y u called e rest = record {
      state = rest.state;
      rest = rest.rest;
      search = passed enter called e rest.search;
      called = with-test y u (first_or_false rest.rest) rest.state called
          (λ test. if-false w _ _ _ (next_place s) s1 u rest.state y (first_or_false rest.rest) test e
          (loop.loop-again w 78 77 80 81 find_loop known p home names f l s round u (calls-later w f (x ∷ []) s1 y u called) x d pair (first_or_false rest.rest) rest.state rest.called));
    }

  pub find-loop : (xs : List Value) (l : Value) (s : WorldState) → Home s.cells p home → IsList s.cells xs l → SearchGives w f xs s → FoundGiven xs l s
  find-loop [] l s round r give = subst (λ x. FoundGiven [] x s) (sym (list-none r)) (nothing s round)
  find-loop (x ∷ xs) l s round r give =
      let c = list-some r in
      let made = give (s1 x l c.0 xs s round c.1) (enter x l c.0 xs s round c.1) in
      let behind = later_then s (s1 x l c.0 xs s round c.1) made.1 (enter x l c.0 xs s round c.1) (calls-later w f (x ∷ []) _ made.0 made.1 made.2) in
      by-truth (truth_of made.0) (FoundGiven (x ∷ xs) l s) (λ e. found x l c.0 xs s round c.1 made.0 made.1 made.2 e)
      (λ e. missed x l c.0 xs s round c.1 made.0 made.1 made.2 e (find-loop xs c.0 made.1 (home-later s made.1 behind p home round) (list-later s made.1 behind xs c.0 c.2) (made.3 e)))
