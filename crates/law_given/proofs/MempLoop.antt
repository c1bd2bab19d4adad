-- The loop of `memp`.
use Rattle.std.proofs.Common.{◌≡◌, List, [], ◌∷◌, Some, None, true, false, refl, sym, subst}
use Rattle.base_region.specs.declared.region.Place.{Place}
use Rattle.eval_value.specs.declared.value.Value.{Value}
use Rattle.eval_value.specs.declared.value.Value.TheVariants as value
use Rattle.eval_value.specs.declared.cell.Cell.{Cell}
use Rattle.eval_prims.specs.Answers.{truth}
use Rattle.eval_prims.specs.Chains.{pair_of}
use Rattle.eval_prims.specs.Lists.{nil}
use Rattle.eval_code.specs.Codes.{code_at, procedure_code}
use Rattle.eval_code.specs.Procedures.{truth_of}
use Rattle.eval_code.specs.Setting.{PlainSetting}
use Rattle.eval_code.specs.State.{WorldState, next_place}
use Rattle.eval_code.specs.Variables.{Entries}
use Rattle.law_eval.specs.Kept.{LaterWorld}
use Rattle.law_eval.proofs.Keeping.{later_then}
use Rattle.law_lists.specs.Runs.{here, IsList}
use Rattle.law_given.specs.Calls.{call_to, Calls}
use Rattle.law_given.specs.Codes.{label, code_no, var, one_case, app, car, memp_some, memp_loop}
use Rattle.law_given.specs.Given.{FindsTail}
use Rattle.law_given.specs.InTurn.{not_there, passed, there, SearchGives}
use Rattle.law_given.proofs.Giving.{Evaluates, if-true, if-false}
use Rattle.law_given.proofs.Inside.{Home, home-later, one_home}
use Rattle.law_given.proofs.Later.{later-refl, calls-later, list-later}
use Rattle.law_given.proofs.Primitives.{bool-is}
use Rattle.law_given.proofs.MapOne.{list-none, list-some}
use Rattle.law_given.proofs.Loop as loop
use Rattle.law_given.proofs.Loop.{Names}
use Rattle.law_lists.specs.Runs.{next}
use Rattle.law_lists.proofs.RunLemmas.{pair_still}
use Rattle.law_given.specs.Given.{IsTail}
use Rattle.law_given.proofs.Looking.{later-stay}
use Rattle.law_given.proofs.FindLoop.{by-truth}

module _ (w : PlainSetting) (known : code_at w.codes (code_no 86) ≡ Some (procedure_code (code_no 86) (one_case (88 ∷ 89 ∷ []) None memp_loop) true)) (f : Value) (p : Place) where
  abbrev home : Entries
  home = one_home (label 85) (code_no 86) p

  abbrev g : Value
  g = value.Closure (code_no 86) p

  abbrev FoundGiven : List Value → Value → WorldState → Type 0
  FoundGiven xs l s = FindsTail w (call_to g (f ∷ l ∷ [])) f l xs s

  abbrev names : Names 85 88 89 home g
  names = record { procedure = λ f l. refl; list = λ f l. refl; no_loop = λ f l. refl; loop = refl }

  pub nothing : (s : WorldState) → Home s.cells p home → FoundGiven [] nil s
  nothing s round = record {
    value = truth false;
    state = s1;
    called = loop.loop-called w 86 85 88 89 memp_loop known p home names f nil s round (truth false) s1
        (if-true w _ _ _ (next_place s) s1 s1 s1 (truth true) (truth false) (loop.is-null w 86 85 88 89 memp_loop known p home names f nil s round s1 (later-refl s1) refl) refl (bool-is w _ false (next_place s) s1));
    rest = [];
    search = not_there (loop.entered-later w 86 85 88 89 memp_loop known p home names f nil s round);
    tail = refl;
  }
    where
      s1 : WorldState
      s1 = loop.entered w 86 85 88 89 memp_loop known p home names f nil s round

  -- a tail of the rest of a list is one of the list
  pub longer : (cells : List Cell) (x l d : Value) → pair_of cells l ≡ Some (x, d) → (rest : List Value) (v : Value) → IsTail cells d rest v → IsTail cells l rest v
  longer cells x l d e [] v h = h
  longer cells x l d e (y ∷ rest) v h = (x ∷ h.0, next e h.1, h.2)

  module _ (x l d : Value) (xs : List Value) (s : WorldState) (round : Home s.cells p home) (pair : pair_of s.cells l ≡ Some (x, d)) where
    abbrev s1 : WorldState
    s1 = loop.entered w 86 85 88 89 memp_loop known p home names f l s round

    enter : LaterWorld s s1
    enter = loop.entered-later w 86 85 88 89 memp_loop known p home names f l s round

    with-test : (y : Value) (u : WorldState) (v : Value) (t : WorldState) → Calls w (call_to f (x ∷ [])) s1 y u
        → (Evaluates w (app (var 88) (car (var 89) ∷ [])) (next_place s) s1 y u → Evaluates w memp_some (next_place s) s1 v t) → Calls w (call_to g (f ∷ l ∷ [])) s v t
    with-test y u v t called h =
        loop.loop-called w 86 85 88 89 memp_loop known p home names f l s round v t
        (if-false w _ _ _ (next_place s) s1 s1 t (truth false) v (loop.not-null w 86 85 88 89 memp_loop known p home names f l s round s1 (later-refl s1) x d pair) refl
        (h (loop.first-called w 86 85 88 89 memp_loop known p home names f l s round s1 (later-refl s1) x d pair y u called)))

    pub found : IsList s.cells (x ∷ xs) l → (y : Value) (u : WorldState) → Calls w (call_to f (x ∷ [])) s1 y u → truth_of y ≡ true → FoundGiven (x ∷ xs) l s
    found r y u called e = record {
      value = l;
      state = u;
      called = with-test y u l u called (λ test. if-true w _ _ _ (next_place s) s1 u u y l test e (loop.list-read w 86 85 88 89 memp_loop known p home names f l s round u behind));
      rest = x ∷ xs;
      search = there enter called e (later-refl u);
      tail = ([], here, list-later s u (later_then s s1 u enter behind) (x ∷ xs) l r);
    }
      where
        behind : LaterWorld s1 u
        behind = calls-later w f (x ∷ []) s1 y u called

    pub missed : (y : Value) (u : WorldState) → Calls w (call_to f (x ∷ [])) s1 y u → truth_of y ≡ false → FoundGiven xs d u → FoundGiven (x ∷ xs) l s
    missed y u called e rest = record {
      value = rest.value;
      state = rest.state;
      called = with-test y u rest.value rest.state called
          (λ test. if-false w _ _ _ (next_place s) s1 u rest.state y rest.value test e (loop.loop-again w 86 85 88 89 memp_loop known p home names f l s round u behind x d pair rest.value rest.state rest.called));
      rest = rest.rest;
      search = passed enter called e rest.search;
      tail = longer rest.state.cells x l d (pair_still s.cells rest.state.cells (later-stay s rest.state far) l x d pair) rest.rest rest.value rest.tail;
    }
      where
        behind : LaterWorld s1 u
        behind = calls-later w f (x ∷ []) s1 y u called

        far : LaterWorld s rest.state
        far = later_then s u rest.state (later_then s s1 u enter behind) (calls-later w g (f ∷ d ∷ []) u rest.value rest.state rest.called)

  pub memp-loop : (xs : List Value) (l : Value) (s : WorldState) → Home s.cells p home → IsList s.cells xs l → SearchGives w f xs s → FoundGiven xs l s
  memp-loop [] l s round r give = subst (λ x. FoundGiven [] x s) (sym (list-none r)) (nothing s round)
  memp-loop (x ∷ xs) l s round r give =
      let c = list-some r in
      let made = give (s1 x l c.0 xs s round c.1) (enter x l c.0 xs s round c.1) in
      let behind = later_then s (s1 x l c.0 xs s round c.1) made.1 (enter x l c.0 xs s round c.1) (calls-later w f (x ∷ []) _ made.0 made.1 made.2) in
      by-truth (truth_of made.0) (FoundGiven (x ∷ xs) l s) (λ e. found x l c.0 xs s round c.1 r made.0 made.1 made.2 e)
      (λ e. missed x l c.0 xs s round c.1 made.0 made.1 made.2 e (memp-loop xs c.0 made.1 (home-later s made.1 behind p home round) (list-later s made.1 behind xs c.0 c.2) (made.3 e)))
