-- What a call of `filter` that gave a value did.
use Rattle.std.proofs.Common.{◌≡◌, List, [], ◌∷◌, Some, None, true, false, refl, sym, subst}
use Rattle.base_data.specs.declared.op.names.TheConstants as ops
use Rattle.base_region.specs.declared.region.Place.{Place}
use Rattle.eval_value.specs.declared.value.Value.{Value}
use Rattle.eval_value.specs.declared.value.Value.TheVariants as value
use Rattle.eval_value.specs.declared.cell.Cell.TheVariants as cell
use Rattle.eval_prims.specs.Answers.{truth}
use Rattle.eval_prims.specs.Chains.{pair_of}
use Rattle.eval_code.specs.Codes.{code_at, procedure_code}
use Rattle.eval_code.specs.Meaning.{eval_of, two_arms}
use Rattle.eval_code.specs.Procedures.{has_text, truth_of}
use Rattle.eval_code.specs.Setting.{PlainSetting}
use Rattle.eval_code.specs.State.{WorldState, next_place, with_cell}
use Rattle.eval_code.specs.Variables.{Entries}
use Rattle.law_eval.specs.Kept.{LaterWorld}
use Rattle.law_eval.proofs.Keeping.{later_then, later_with}
use Rattle.law_lists.specs.Runs.{IsList}
use Rattle.law_given.specs.Calls.{call_to, call_of, Calls}
use Rattle.law_given.specs.Codes.{label, code_no, var, one_case, app, car, cdr, cons, filter_some, filter_loop}
use Rattle.law_given.specs.Given.{Filters, Filtered}
use Rattle.law_given.specs.InTurn.{InTurn, one_call, when_true, chosen}
use Rattle.law_given.proofs.Giving.{Evaluates}
use Rattle.law_given.proofs.FilterLoop.{filter-loop}
use Rattle.law_given.proofs.FindLoop.{by-truth}
use Rattle.law_given.proofs.Inside.{Home, home-later, one_home}
use Rattle.law_given.proofs.Inverting.{Parted, Consed, arms-true, arms-false, if-back, false-back, cons-back}
use Rattle.law_given.proofs.Knows.{Knows}
use Rattle.law_given.proofs.Later.{later-refl, calls-later, list-later, in-turn-from, in-turn-to}
use Rattle.law_given.proofs.Loop as loop
use Rattle.law_given.proofs.Loop.{Names}
use Rattle.law_given.proofs.LoopBack.{body-back, first-back, again-back, loop-back}
use Rattle.law_given.proofs.LoopText.{home_place, ready, ready-home, ready-later}
use Rattle.law_given.proofs.MapOne.{list-some, list-more}
use Rattle.law_given.proofs.Primitives.{next_pair}
use Rattle.law_given.proofs.Unique.{gives-one-value, gives-one-state}

module _ (w : PlainSetting) (known : code_at w.codes (code_no 61) ≡ Some (procedure_code (code_no 61) (one_case (63 ∷ 64 ∷ []) None filter_loop) true)) (f : Value) (p : Place) where
  abbrev home : Entries
  home = one_home (label 60) (code_no 61) p

  abbrev g : Value
  g = value.Closure (code_no 61) p

  names : Names 60 63 64 home g
  names = record { procedure = λ f l. refl; list = λ f l. refl; no_loop = λ f l. refl; loop = refl }

  abbrev Did : List Value → WorldState → Value → WorldState → Type 0
  Did xs s v t = Filtered w f chosen xs s v t

  module _ (x l d : Value) (xs : List Value) (s : WorldState) (round : Home s.cells p home) (pair : pair_of s.cells l ≡ Some (x, d)) (v : Value) (t : WorldState) (called : Calls w (call_to g (f ∷ l ∷ [])) s v t)
      (again : (u : WorldState) → LaterWorld s u → (y : Value) (r : WorldState) → Calls w (call_to g (f ∷ d ∷ [])) u y r → Did xs u y r) where
    abbrev at : WorldState
    at = loop.entered w 61 60 63 64 filter_loop known p home names f l s round

    abbrev q : Place
    q = next_place s

    enter : LaterWorld s at
    enter = loop.entered-later w 61 60 63 64 filter_loop known p home names f l s round

    choice : Evaluates w filter_some q at v t
    choice =
        false-back w _ _ _ q at at t (truth false) v (loop.not-null w 61 60 63 64 filter_loop known p home names f l s round at (later-refl at) x d pair) refl
        (body-back w 61 60 63 64 filter_loop known p home names f l s round v t called)

    parts : Parted (eval_of w (app (var 63) (car (var 64) ∷ [])) q at) (two_arms w (eval_of w) (cons (car (var 64)) (app (var 60) (var 63 ∷ cdr (var 64) ∷ []))) (app (var 60) (var 63 ∷ cdr (var 64) ∷ [])) q) v t
    parts = if-back w (app (var 63) (car (var 64) ∷ [])) (cons (car (var 64)) (app (var 60) (var 63 ∷ cdr (var 64) ∷ []))) (app (var 60) (var 63 ∷ cdr (var 64) ∷ [])) q at v t choice

    first : Calls w (call_to f (x ∷ [])) at parts.value parts.state
    first = first-back w 61 60 63 64 filter_loop known p home names f l s round at (later-refl at) x d pair parts.value parts.state parts.first

    behind : LaterWorld at parts.state
    behind = calls-later w f (x ∷ []) at parts.value parts.state first

    far : LaterWorld s parts.state
    far = later_then s at parts.state enter behind

    taken : truth_of parts.value ≡ true → Did (x ∷ xs) s v t
    taken e = record {
      answers = parts.value ∷ rest.answers;
      in_turn = subst (λ a. InTurn w f (x ∷ xs) s (parts.value ∷ rest.answers) a) made.state_is
          (one_call enter first (in-turn-to w f xs rest.answers parts.state made.behind after rest.in_turn (later_with made.behind (cell.Pair made.car_value made.cdr_value))));
      list = subst (λ b. IsList t.cells (when_true b x (chosen xs rest.answers)) v) (sym e)
          (subst (λ (a : WorldState). IsList a.cells (x ∷ chosen xs rest.answers) v) made.state_is
          (subst (λ b. IsList after.cells (x ∷ chosen xs rest.answers) b) made.value_is
          (subst (λ b. IsList after.cells (b ∷ chosen xs rest.answers) (next_pair w made.behind)) car_is (list-more made.behind.cells made.car_value made.cdr_value (chosen xs rest.answers) rest.list))));
    }
      where
        arm : Evaluates w (cons (car (var 64)) (app (var 60) (var 63 ∷ cdr (var 64) ∷ []))) q parts.state v t
        arm = arms-true w (truth_of parts.value) (eval_of w (cons (car (var 64)) (app (var 60) (var 63 ∷ cdr (var 64) ∷ []))) q parts.state) (eval_of w (app (var 60) (var 63 ∷ cdr (var 64) ∷ [])) q parts.state) v t e parts.onward

        made : Consed w (car (var 64)) (app (var 60) (var 63 ∷ cdr (var 64) ∷ [])) q parts.state v t
        made = cons-back w (car (var 64)) (app (var 60) (var 63 ∷ cdr (var 64) ∷ [])) q parts.state v t arm

        after : WorldState
        after = with_cell (cell.Pair made.car_value made.cdr_value) made.behind

        read : Evaluates w (car (var 64)) q parts.state x parts.state
        read = loop.first-read w 61 60 63 64 filter_loop known p home names f l s round parts.state behind x d pair

        car_is : made.car_value ≡ x
        car_is = gives-one-value (eval_of w (car (var 64)) q parts.state) made.car_value x made.between parts.state made.car_given read

        between_is : made.between ≡ parts.state
        between_is = gives-one-state (eval_of w (car (var 64)) q parts.state) made.car_value x made.between parts.state made.car_given read

        rest : Did xs parts.state made.cdr_value made.behind
        rest =
            again parts.state far made.cdr_value made.behind
            (again-back w 61 60 63 64 filter_loop known p home names f l s round parts.state behind x d pair made.cdr_value made.behind
            (subst (λ a. Evaluates w (app (var 60) (var 63 ∷ cdr (var 64) ∷ [])) q a made.cdr_value made.behind) between_is made.cdr_given))

    left_out : truth_of parts.value ≡ false → Did (x ∷ xs) s v t
    left_out e = record {
      answers = parts.value ∷ rest.answers;
      in_turn = one_call enter first rest.in_turn;
      list = subst (λ b. IsList t.cells (when_true b x (chosen xs rest.answers)) v) (sym e) rest.list;
    }
      where
        rest : Did xs parts.state v t
        rest =
            again parts.state far v t
            (again-back w 61 60 63 64 filter_loop known p home names f l s round parts.state behind x d pair v t
            (arms-false w (truth_of parts.value) (eval_of w (cons (car (var 64)) (app (var 60) (var 63 ∷ cdr (var 64) ∷ []))) q parts.state) (eval_of w (app (var 60) (var 63 ∷ cdr (var 64) ∷ [])) q parts.state) v t e parts.onward))

    some-did : Did (x ∷ xs) s v t
    some-did = by-truth (truth_of parts.value) (Did (x ∷ xs) s v t) taken left_out

  loop-did : (xs : List Value) (l : Value) (s : WorldState) (v : Value) (t : WorldState) → Home s.cells p home → IsList s.cells xs l → Calls w (call_to g (f ∷ l ∷ [])) s v t → Did xs s v t
  loop-did [] l s v t round r called =
      let m : Filters w (call_to g (f ∷ l ∷ [])) f chosen [] s = filter-loop w known f p [] l s round r tt in
      let value_is = gives-one-value (call_of w (call_to g (f ∷ l ∷ [])) s) m.value v m.state t m.called called in
      let state_is = gives-one-state (call_of w (call_to g (f ∷ l ∷ [])) s) m.value v m.state t m.called called in
      record {
        answers = m.answers;
        in_turn = subst (λ a. InTurn w f [] s m.answers a) state_is m.in_turn;
        list = subst (λ (a : WorldState). IsList a.cells (chosen [] m.answers) v) state_is (subst (λ b. IsList m.state.cells (chosen [] m.answers) b) value_is m.list);
      }
  loop-did (x ∷ xs) l s v t round r called =
      let c = list-some r in
      some-did x l c.0 xs s round c.1 v t called (λ u k y z h. loop-did xs c.0 u y z (home-later s u k p home round) (list-later s u k xs c.0 c.2) h)

pub filter-only : (w : PlainSetting) (knows : Knows w.codes) (f l : Value) (xs : List Value) (s : WorldState) (v : Value) (t : WorldState) → IsList s.cells xs l → Calls w (call_to (value.Prim (record { 0 = ops.FILTER })) (f ∷ l ∷ [])) s v t
    → Filtered w f chosen xs s v t
unfolding has_text
filter-only w knows f l xs s v t r called = record { answers = m.answers; in_turn = in-turn-from w f xs m.answers s (ready w s 60 61) t (ready-later w s 60 61) m.in_turn; list = m.list }
  where
    m : Filtered w f chosen xs (ready w s 60 61) v t
    m =
        loop-did w knows.filter_loop f (home_place w s 60 61) xs l (ready w s 60 61) v t (ready-home w s 60 61) (list-later s (ready w s 60 61) (ready-later w s 60 61) xs l r)
        (loop-back w s 60 61 ops.FILTER (63 ∷ 64 ∷ []) filter_loop refl refl refl (f ∷ l ∷ []) v t knows.filter_text refl called)
