-- The loop of `filter`.
use Rattle.std.proofs.Common.{◌≡◌, List, [], ◌∷◌, ◌++◌, Some, None, Bool, true, false, refl, sym, subst}
use Rattle.base_region.specs.declared.region.Place.{Place}
use Rattle.eval_value.specs.declared.value.Value.{Value}
use Rattle.eval_value.specs.declared.value.Value.TheVariants as value
use Rattle.eval_value.specs.declared.cell.Cell.TheVariants as cell
use Rattle.eval_prims.specs.Answers.{truth}
use Rattle.eval_prims.specs.Chains.{pair_of}
use Rattle.eval_prims.specs.Lists.{nil}
use Rattle.eval_code.specs.Codes.{code_at, procedure_code}
use Rattle.eval_code.specs.Procedures.{truth_of}
use Rattle.eval_code.specs.Setting.{PlainSetting}
use Rattle.eval_code.specs.State.{WorldState, next_place, with_cell}
use Rattle.eval_code.specs.Variables.{Entries}
use Rattle.law_eval.specs.Kept.{LaterWorld}
use Rattle.law_eval.proofs.Keeping.{later_then, later_with}
use Rattle.law_lists.specs.Runs.{here, IsList}
use Rattle.law_given.specs.Calls.{call_to, Calls}
use Rattle.law_given.specs.Codes.{label, code_no, var, one_case, app, car, cdr, filter_some, filter_loop}
use Rattle.law_given.specs.Given.{Filters}
use Rattle.law_given.specs.InTurn.{no_call, one_call, AllGive, when_true, chosen}
use Rattle.law_given.proofs.Giving.{Evaluates, if-true, if-false}
use Rattle.law_given.proofs.Inside.{Home, home-later, one_home}
use Rattle.law_given.proofs.Later.{later-refl, calls-later, list-later, in-turn-to}
use Rattle.law_given.proofs.Primitives.{next_pair, cons-is, nil-is}
use Rattle.law_given.proofs.MapOne.{list-none, list-some, list-more}
use Rattle.law_given.proofs.Loop as loop
use Rattle.law_given.proofs.Loop.{Names}

module _ (w : PlainSetting) (known : code_at w.codes (code_no 61) ≡ Some (procedure_code (code_no 61) (one_case (63 ∷ 64 ∷ []) None filter_loop) true)) (f : Value) (p : Place) where
  abbrev home : Entries
  home = one_home (label 60) (code_no 61) p

  abbrev g : Value
  g = value.Closure (code_no 61) p

  abbrev Filtered : List Value → Value → WorldState → Type 0
  Filtered xs l s = Filters w (call_to g (f ∷ l ∷ [])) f chosen xs s

  abbrev names : Names 60 63 64 home g
  names = record { procedure = λ f l. refl; list = λ f l. refl; no_loop = λ f l. refl; loop = refl }

  pub nothing : (s : WorldState) → Home s.cells p home → Filtered [] nil s
  nothing s round = record {
    value = nil;
    state = s1;
    called = loop.loop-called w 61 60 63 64 filter_loop known p home names f nil s round nil s1
        (if-true w _ _ _ (next_place s) s1 s1 s1 (truth true) nil (loop.is-null w 61 60 63 64 filter_loop known p home names f nil s round s1 (later-refl s1) refl) refl (nil-is w _ (next_place s) s1));
    answers = [];
    in_turn = no_call (loop.entered-later w 61 60 63 64 filter_loop known p home names f nil s round);
    list = here;
  }
    where
      s1 : WorldState
      s1 = loop.entered w 61 60 63 64 filter_loop known p home names f nil s round

  module _ (x l d : Value) (xs : List Value) (s : WorldState) (round : Home s.cells p home) (pair : pair_of s.cells l ≡ Some (x, d)) where
    abbrev s1 : WorldState
    s1 = loop.entered w 61 60 63 64 filter_loop known p home names f l s round

    pub some : (y : Value) (u : WorldState) → Calls w (call_to f (x ∷ [])) s1 y u → Filtered xs d u → Filtered (x ∷ xs) l s
    some y u called rest = by (truth_of y) refl
      where
        q : Place
        q = next_place s

        behind : LaterWorld s1 u
        behind = calls-later w f (x ∷ []) s1 y u called

        enter : LaterWorld s s1
        enter = loop.entered-later w 61 60 63 64 filter_loop known p home names f l s round

        test : Evaluates w (app (var 63) (car (var 64) ∷ [])) q s1 y u
        test = loop.first-called w 61 60 63 64 filter_loop known p home names f l s round s1 (later-refl s1) x d pair y u called

        others : Evaluates w (app (var 60) (var 63 ∷ cdr (var 64) ∷ [])) q u rest.value rest.state
        others = loop.loop-again w 61 60 63 64 filter_loop known p home names f l s round u behind x d pair rest.value rest.state rest.called

        with-null : (v : Value) (t : WorldState) → Evaluates w filter_some q s1 v t → Calls w (call_to g (f ∷ l ∷ [])) s v t
        with-null v t h =
            loop.loop-called w 61 60 63 64 filter_loop known p home names f l s round v t
            (if-false w _ _ _ q s1 s1 t (truth false) v (loop.not-null w 61 60 63 64 filter_loop known p home names f l s round s1 (later-refl s1) x d pair) refl h)

        by : (b : Bool) → truth_of y ≡ b → Filtered (x ∷ xs) l s
        by true e = record {
          value = next_pair w rest.state;
          state = with_cell (cell.Pair x rest.value) rest.state;
          called = with-null (next_pair w rest.state) (with_cell (cell.Pair x rest.value) rest.state)
              (if-true w _ _ _ q s1 u (with_cell (cell.Pair x rest.value) rest.state) y (next_pair w rest.state) test e
              (cons-is w (car (var 64)) q u u x (loop.first-read w 61 60 63 64 filter_loop known p home names f l s round u behind x d pair) _ rest.value rest.state others));
          answers = y ∷ rest.answers;
          in_turn = one_call enter called (in-turn-to w f xs rest.answers u rest.state (with_cell (cell.Pair x rest.value) rest.state) rest.in_turn (later_with rest.state (cell.Pair x rest.value)));
          list = subst (λ b. IsList (rest.state.cells ++ cell.Pair x rest.value ∷ []) (when_true b x (chosen xs rest.answers)) (next_pair w rest.state)) (sym e)
              (list-more rest.state.cells x rest.value (chosen xs rest.answers) rest.list);
        }
        by false e = record {
          value = rest.value;
          state = rest.state;
          called = with-null rest.value rest.state (if-false w _ _ _ q s1 u rest.state y rest.value test e others);
          answers = y ∷ rest.answers;
          in_turn = one_call enter called rest.in_turn;
          list = subst (λ b. IsList rest.state.cells (when_true b x (chosen xs rest.answers)) rest.value) (sym e) rest.list;
        }

  pub filter-loop : (xs : List Value) (l : Value) (s : WorldState) → Home s.cells p home → IsList s.cells xs l → AllGive w f xs s → Filtered xs l s
  filter-loop [] l s round r give = subst (λ x. Filtered [] x s) (sym (list-none r)) (nothing s round)
  filter-loop (x ∷ xs) l s round r give =
      let c = list-some r in
      let enter = loop.entered-later w 61 60 63 64 filter_loop known p home names f l s round in
      let made = give (loop.entered w 61 60 63 64 filter_loop known p home names f l s round) enter in
      let behind = later_then s (loop.entered w 61 60 63 64 filter_loop known p home names f l s round) made.1 enter (calls-later w f (x ∷ []) _ made.0 made.1 made.2) in
      some x l c.0 xs s round c.1 made.0 made.1 made.2 (filter-loop xs c.0 made.1 (home-later s made.1 behind p home round) (list-later s made.1 behind xs c.0 c.2) made.3)
