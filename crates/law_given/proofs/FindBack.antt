-- What a call of `find` that gave a value did.
use Rattle.std.proofs.Common.{◌≡◌, List, [], ◌∷◌, Some, None, true, false, refl, sym, subst}
use Rattle.base_data.specs.declared.op.names.TheConstants as ops
use Rattle.base_region.specs.declared.region.Place.{Place}
use Rattle.eval_value.specs.declared.value.Value.{Value}
use Rattle.eval_value.specs.declared.value.Value.TheVariants as value
use Rattle.eval_prims.specs.Answers.{truth}
use Rattle.eval_prims.specs.Chains.{pair_of}
use Rattle.eval_code.specs.Codes.{code_at, procedure_code}
use Rattle.eval_code.specs.Meaning.{eval_of, two_arms}
use Rattle.eval_code.specs.Procedures.{has_text, truth_of}
use Rattle.eval_code.specs.Setting.{PlainSetting}
use Rattle.eval_code.specs.State.{WorldState, next_place}
use Rattle.eval_code.specs.Variables.{Entries}
use Rattle.law_eval.specs.Kept.{LaterWorld}
use Rattle.law_eval.proofs.Keeping.{later_then}
use Rattle.law_lists.specs.Runs.{IsList}
use Rattle.law_given.specs.Calls.{call_to, call_of, Calls}
use Rattle.law_given.specs.Codes.{label, code_no, var, one_case, app, car, cdr, find_some, find_loop}
use Rattle.law_given.specs.Given.{Finds, FoundGiven, first_or_false}
use Rattle.law_given.specs.InTurn.{SearchCalls, passed, there}
use Rattle.law_given.proofs.Giving.{Evaluates}
use Rattle.law_given.proofs.FindLoop.{find-loop, by-truth}
use Rattle.law_given.proofs.Inside.{Home, home-later, one_home}
use Rattle.law_given.proofs.Inverting.{Parted, arms-true, arms-false, if-back, false-back}
use Rattle.law_given.proofs.Knows.{Knows}
use Rattle.law_given.proofs.Later.{later-refl, calls-later, list-later, search-from}
use Rattle.law_given.proofs.Loop as loop
use Rattle.law_given.proofs.Loop.{Names}
use Rattle.law_given.proofs.LoopBack.{body-back, first-back, again-back, loop-back}
use Rattle.law_given.proofs.LoopText.{home_place, ready, ready-home, ready-later}
use Rattle.law_given.proofs.MapOne.{list-some}
use Rattle.law_given.proofs.Unique.{gives-one-value, gives-one-state}

module _ (w : PlainSetting) (known : code_at w.codes (code_no 78) ≡ Some (procedure_code (code_no 78) (one_case (80 ∷ 81 ∷ []) None find_loop) true)) (f : Value) (p : Place) where
  abbrev home : Entries
  home = one_home (label 77) (code_no 78) p

  abbrev g : Value
  g = value.Closure (code_no 78) p

  names : Names 77 80 81 home g
  names = record { procedure = λ f l. refl; list = λ f l. refl; no_loop = λ f l. refl; loop = refl }

  module _ (x l d : Value) (xs : List Value) (s : WorldState) (round : Home s.cells p home) (pair : pair_of s.cells l ≡ Some (x, d)) (v : Value) (t : WorldState) (called : Calls w (call_to g (f ∷ l ∷ [])) s v t)
      (again : (u : WorldState) → LaterWorld s u → (y : Value) (r : WorldState) → Calls w (call_to g (f ∷ d ∷ [])) u y r → FoundGiven w f xs u y r) where
    abbrev at : WorldState
    at = loop.entered w 78 77 80 81 find_loop known p home names f l s round

    abbrev q : Place
    q = next_place s

    enter : LaterWorld s at
    enter = loop.entered-later w 78 77 80 81 find_loop known p home names f l s round

    choice : Evaluates w find_some q at v t
    choice =
        false-back w _ _ _ q at at t (truth false) v (loop.not-null w 78 77 80 81 find_loop known p home names f l s round at (later-refl at) x d pair) refl
        (body-back w 78 77 80 81 find_loop known p home names f l s round v t called)

    parts : Parted (eval_of w (app (var 80) (car (var 81) ∷ [])) q at) (two_arms w (eval_of w) (car (var 81)) (app (var 77) (var 80 ∷ cdr (var 81) ∷ [])) q) v t
    parts = if-back w (app (var 80) (car (var 81) ∷ [])) (car (var 81)) (app (var 77) (var 80 ∷ cdr (var 81) ∷ [])) q at v t choice

    first : Calls w (call_to f (x ∷ [])) at parts.value parts.state
    first = first-back w 78 77 80 81 find_loop known p home names f l s round at (later-refl at) x d pair parts.value parts.state parts.first

    behind : LaterWorld at parts.state
    behind = calls-later w f (x ∷ []) at parts.value parts.state first

    far : LaterWorld s parts.state
    far = later_then s at parts.state enter behind

    taken : truth_of parts.value ≡ true → FoundGiven w f (x ∷ xs) s v t
    taken e = record {
      rest = x ∷ xs;
      search = subst (λ a. SearchCalls w f (x ∷ xs) s (x ∷ xs) a) (gives-one-state (eval_of w (car (var 81)) q parts.state) x v parts.state t read arm) (there enter first e (later-refl parts.state));
      value_is = sym (gives-one-value (eval_of w (car (var 81)) q parts.state) x v parts.state t read arm);
    }
      where
        arm : Evaluates w (car (var 81)) q parts.state v t
        arm = arms-true w (truth_of parts.value) (eval_of w (car (var 81)) q parts.state) (eval_of w (app (var 77) (var 80 ∷ cdr (var 81) ∷ [])) q parts.state) v t e parts.onward

        read : Evaluates w (car (var 81)) q parts.state x parts.state
        read = loop.first-read w 78 77 80 81 find_loop known p home names f l s round parts.state behind x d pair

    missed : truth_of parts.value ≡ false → FoundGiven w f (x ∷ xs) s v t
    missed e = record { rest = rest.rest; search = passed enter first e rest.search; value_is = rest.value_is }
      where
        rest : FoundGiven w f xs parts.state v t
        rest =
            again parts.state far v t
            (again-back w 78 77 80 81 find_loop known p home names f l s round parts.state behind x d pair v t
            (arms-false w (truth_of parts.value) (eval_of w (car (var 81)) q parts.state) (eval_of w (app (var 77) (var 80 ∷ cdr (var 81) ∷ [])) q parts.state) v t e parts.onward))

    some-did : FoundGiven w f (x ∷ xs) s v t
    some-did = by-truth (truth_of parts.value) (FoundGiven w f (x ∷ xs) s v t) taken missed

  loop-did : (xs : List Value) (l : Value) (s : WorldState) (v : Value) (t : WorldState) → Home s.cells p home → IsList s.cells xs l → Calls w (call_to g (f ∷ l ∷ [])) s v t → FoundGiven w f xs s v t
  loop-did [] l s v t round r called =
      let m : Finds w (call_to g (f ∷ l ∷ [])) f [] s = find-loop w known f p [] l s round r tt in
      let value_is = gives-one-value (call_of w (call_to g (f ∷ l ∷ [])) s) (first_or_false m.rest) v m.state t m.called called in
      let state_is = gives-one-state (call_of w (call_to g (f ∷ l ∷ [])) s) (first_or_false m.rest) v m.state t m.called called in
      record { rest = m.rest; search = subst (λ a. SearchCalls w f [] s m.rest a) state_is m.search; value_is = sym value_is }
  loop-did (x ∷ xs) l s v t round r called =
      let c = list-some r in
      some-did x l c.0 xs s round c.1 v t called (λ u k y z h. loop-did xs c.0 u y z (home-later s u k p home round) (list-later s u k xs c.0 c.2) h)

pub find-only : (w : PlainSetting) (knows : Knows w.codes) (f l : Value) (xs : List Value) (s : WorldState) (v : Value) (t : WorldState) → IsList s.cells xs l → Calls w (call_to (value.Prim (record { 0 = ops.FIND })) (f ∷ l ∷ [])) s v t → FoundGiven w f xs s v t
unfolding has_text
find-only w knows f l xs s v t r called = record { rest = m.rest; search = search-from w f xs m.rest s (ready w s 77 78) t (ready-later w s 77 78) m.search; value_is = m.value_is }
  where
    m : FoundGiven w f xs (ready w s 77 78) v t
    m =
        loop-did w knows.find_loop f (home_place w s 77 78) xs l (ready w s 77 78) v t (ready-home w s 77 78) (list-later s (ready w s 77 78) (ready-later w s 77 78) xs l r)
        (loop-back w s 77 78 ops.FIND (80 ∷ 81 ∷ []) find_loop refl refl refl (f ∷ l ∷ []) v t knows.find_text refl called)
