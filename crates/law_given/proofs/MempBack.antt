-- What a call of `memp` that gave a value did.
use Rattle.std.proofs.Common.{◌≡◌, List, [], ◌∷◌, Some, None, true, false, refl, subst}
use Rattle.base_data.specs.declared.op.names.TheConstants as ops
use Rattle.base_region.specs.declared.region.Place.{Place}
use Rattle.eval_value.specs.declared.value.Value.{Value}
use Rattle.eval_value.specs.declared.value.Value.TheVariants as value
use Rattle.eval_prims.specs.Answers.{truth}
use Rattle.eval_prims.specs.Chains.{pair_of}
use Rattle.eval_code.specs.Codes.{code_at, procedure_code}
use Rattle.eval_code.specs.Meaning.{eval_of, two_arms}
use Rattle.eval_code.specs.Procedures.{has_text, truth_of}
use Rattle.eval_code.specs.Setting.{PlainSetting}
use Rattle.eval_code.specs.State.{WorldState, next_place}
use Rattle.eval_code.specs.Variables.{Entries}
use Rattle.law_eval.specs.Kept.{LaterWorld}
use Rattle.law_eval.proofs.Keeping.{later_then}
use Rattle.law_lists.specs.Runs.{IsList}
use Rattle.law_given.specs.Calls.{call_to, call_of, Calls}
use Rattle.law_given.specs.Codes.{label, code_no, var, one_case, app, car, cdr, memp_some, memp_loop}
use Rattle.law_given.specs.Given.{FindsTail, TailFound, IsTail}
use Rattle.law_given.specs.InTurn.{SearchCalls, passed, there}
use Rattle.law_given.proofs.Giving.{Evaluates}
use Rattle.law_given.proofs.MempLoop.{memp-loop, longer}
use Rattle.law_given.proofs.FindLoop.{by-truth}
use Rattle.law_given.proofs.Inside.{Home, home-later, one_home}
use Rattle.law_given.proofs.Inverting.{Parted, arms-true, arms-false, if-back, false-back}
use Rattle.law_given.proofs.Knows.{Knows}
use Rattle.law_given.proofs.Later.{later-refl, calls-later, list-later, search-from}
use Rattle.law_given.proofs.Loop as loop
use Rattle.law_given.proofs.Loop.{Names}
use Rattle.law_given.proofs.LoopBack.{body-back, first-back, again-back, loop-back}
use Rattle.law_given.proofs.LoopText.{home_place, ready, ready-home, ready-later}
use Rattle.law_given.proofs.MapOne.{list-some}
use Rattle.law_given.proofs.Unique.{gives-one-value, gives-one-state}
use Rattle.law_lists.specs.Runs.{here}
use Rattle.law_lists.proofs.RunLemmas.{pair_still}
use Rattle.law_given.proofs.Looking.{later-stay}

module _ (w : PlainSetting) (known : code_at w.codes (code_no 86) ≡ Some (procedure_code (code_no 86) (one_case (88 ∷ 89 ∷ []) None memp_loop) true)) (f : Value) (p : Place) where
  abbrev home : Entries
  home = one_home (label 85) (code_no 86) p

  abbrev g : Value
  g = value.Closure (code_no 86) p

  names : Names 85 88 89 home g
  names = record { procedure = λ f l. refl; list = λ f l. refl; no_loop = λ f l. refl; loop = refl }

  module _ (x l d : Value) (xs : List Value) (s : WorldState) (round : Home s.cells p home) (pair : pair_of s.cells l ≡ Some (x, d)) (v : Value) (t : WorldState) (called : Calls w (call_to g (f ∷ l ∷ [])) s v t)
      (again : (u : WorldState) → LaterWorld s u → (y : Value) (r : WorldState) → Calls w (call_to g (f ∷ d ∷ [])) u y r → TailFound w f d xs u y r) where
    abbrev at : WorldState
    at = loop.entered w 86 85 88 89 memp_loop known p home names f l s round

    abbrev q : Place
    q = next_place s

    enter : LaterWorld s at
    enter = loop.entered-later w 86 85 88 89 memp_loop known p home names f l s round

    choice : Evaluates w memp_some q at v t
    choice =
        false-back w _ _ _ q at at t (truth false) v (loop.not-null w 86 85 88 89 memp_loop known p home names f l s round at (later-refl at) x d pair) refl
        (body-back w 86 85 88 89 memp_loop known p home names f l s round v t called)

    parts : Parted (eval_of w (app (var 88) (car (var 89) ∷ [])) q at) (two_arms w (eval_of w) (var 89) (app (var 85) (var 88 ∷ cdr (var 89) ∷ [])) q) v t
    parts = if-back w (app (var 88) (car (var 89) ∷ [])) (var 89) (app (var 85) (var 88 ∷ cdr (var 89) ∷ [])) q at v t choice

    first : Calls w (call_to f (x ∷ [])) at parts.value parts.state
    first = first-back w 86 85 88 89 memp_loop known p home names f l s round at (later-refl at) x d pair parts.value parts.state parts.first

    behind : LaterWorld at parts.state
    behind = calls-later w f (x ∷ []) at parts.value parts.state first

    far : LaterWorld s parts.state
    far = later_then s at parts.state enter behind

    taken : IsList s.cells (x ∷ xs) l → truth_of parts.value ≡ true → TailFound w f l (x ∷ xs) s v t
    taken r e = record {
      rest = x ∷ xs;
      search = subst (λ a. SearchCalls w f (x ∷ xs) s (x ∷ xs) a) state_is (there enter first e (later-refl parts.state));
      tail = subst (λ (a : WorldState). IsTail a.cells l (x ∷ xs) v) state_is (subst (λ b. IsTail parts.state.cells l (x ∷ xs) b) value_is ([], here, list-later s parts.state far (x ∷ xs) l r));
    }
      where
        arm : Evaluates w (var 89) q parts.state v t
        arm = arms-true w (truth_of parts.value) (eval_of w (var 89) q parts.state) (eval_of w (app (var 85) (var 88 ∷ cdr (var 89) ∷ [])) q parts.state) v t e parts.onward

        read : Evaluates w (var 89) q parts.state l parts.state
        read = loop.list-read w 86 85 88 89 memp_loop known p home names f l s round parts.state behind

        value_is : l ≡ v
        value_is = gives-one-value (eval_of w (var 89) q parts.state) l v parts.state t read arm

        state_is : parts.state ≡ t
        state_is = gives-one-state (eval_of w (var 89) q parts.state) l v parts.state t read arm

    missed : truth_of parts.value ≡ false → TailFound w f l (x ∷ xs) s v t
    missed e = record {
      rest = rest.rest;
      search = passed enter first e rest.search;
      tail = longer w known f p t.cells x l d (pair_still s.cells t.cells (later-stay s t (later_then s parts.state t far (calls-later w g (f ∷ d ∷ []) parts.state v t others))) l x d pair) rest.rest v rest.tail;
    }
      where
        others : Calls w (call_to g (f ∷ d ∷ [])) parts.state v t
        others =
            again-back w 86 85 88 89 memp_loop known p home names f l s round parts.state behind x d pair v t
            (arms-false w (truth_of parts.value) (eval_of w (var 89) q parts.state) (eval_of w (app (var 85) (var 88 ∷ cdr (var 89) ∷ [])) q parts.state) v t e parts.onward)

        rest : TailFound w f d xs parts.state v t
        rest = again parts.state far v t others

    some-did : IsList s.cells (x ∷ xs) l → TailFound w f l (x ∷ xs) s v t
    some-did r = by-truth (truth_of parts.value) (TailFound w f l (x ∷ xs) s v t) (taken r) missed

  loop-did : (xs : List Value) (l : Value) (s : WorldState) (v : Value) (t : WorldState) → Home s.cells p home → IsList s.cells xs l → Calls w (call_to g (f ∷ l ∷ [])) s v t → TailFound w f l xs s v t
  loop-did [] l s v t round r called =
      let m : FindsTail w (call_to g (f ∷ l ∷ [])) f l [] s = memp-loop w known f p [] l s round r tt in
      let value_is = gives-one-value (call_of w (call_to g (f ∷ l ∷ [])) s) m.value v m.state t m.called called in
      let state_is = gives-one-state (call_of w (call_to g (f ∷ l ∷ [])) s) m.value v m.state t m.called called in
      record {
        rest = m.rest;
        search = subst (λ a. SearchCalls w f [] s m.rest a) state_is m.search;
        tail = subst (λ (a : WorldState). IsTail a.cells l m.rest v) state_is (subst (λ b. IsTail m.state.cells l m.rest b) value_is m.tail);
      }
  loop-did (x ∷ xs) l s v t round r called =
      let c = list-some r in
      some-did x l c.0 xs s round c.1 v t called (λ u k y z h. loop-did xs c.0 u y z (home-later s u k p home round) (list-later s u k xs c.0 c.2) h) r

pub memp-only : (w : PlainSetting) (knows : Knows w.codes) (f l : Value) (xs : List Value) (s : WorldState) (v : Value) (t : WorldState) → IsList s.cells xs l → Calls w (call_to (value.Prim (record { 0 = ops.MEMP })) (f ∷ l ∷ [])) s v t
    → TailFound w f l xs s v t
unfolding has_text
memp-only w knows f l xs s v t r called = record { rest = m.rest; search = search-from w f xs m.rest s (ready w s 85 86) t (ready-later w s 85 86) m.search; tail = m.tail }
  where
    m : TailFound w f l xs (ready w s 85 86) v t
    m =
        loop-did w knows.memp_loop f (home_place w s 85 86) xs l (ready w s 85 86) v t (ready-home w s 85 86) (list-later s (ready w s 85 86) (ready-later w s 85 86) xs l r)
        (loop-back w s 85 86 ops.MEMP (88 ∷ 89 ∷ []) memp_loop refl refl refl (f ∷ l ∷ []) v t knows.memp_text refl called)
