-- `map` on one list, by its text.
use Rattle.std.proofs.Common.{◌≡◌, ℕ, List, [], ◌∷◌, Some, None, true, Ok, Err, refl, ap, ◌∙◌, inl, inr}
use Rattle.std.specs.Prelude.{◌⊎◌}
use Rattle.base_data.specs.declared.op.names.TheConstants as names
use Rattle.base_region.specs.declared.region.Place.{Place}
use Rattle.base_region.proofs.Laws.{slice_get-added}
use Rattle.core_language.specs.Core.{PlainCore, PlainInits, no_init, init}
use Rattle.eval_value.specs.declared.value.Value.{Value}
use Rattle.eval_value.specs.declared.value.Value.TheVariants as value
use Rattle.eval_value.specs.declared.cell.Cell.{Cell}
use Rattle.eval_value.specs.declared.cell.Cell.TheVariants as cell
use Rattle.eval_prims.specs.Answers.{truth}
use Rattle.eval_prims.specs.Lists.{nil}
use Rattle.eval_code.specs.Codes.{procedure_code}
use Rattle.eval_code.specs.Meaning.{PlainLetrec, eval_of, at_once}
use Rattle.eval_code.specs.Procedures.{has_text}
use Rattle.eval_code.specs.Setting.{PlainSetting}
use Rattle.eval_code.specs.State.{WorldState, store, next_place, with_cell}
use Rattle.eval_code.specs.Variables.{Entries, cell_with, assigned}
use Rattle.law_eval.specs.Kept.{LaterWorld}
use Rattle.law_eval.proofs.Keeping.{later_then, later_with}
use Rattle.law_lists.specs.Runs.{IsList}
use Rattle.law_given.specs.Calls.{CallEnd, call_to, CallEnds, Calls}
use Rattle.law_given.specs.Codes.{label, code_no, var, formals, one_case, lambda, text_code, map_one, map_many, map_body, map_text}
use Rattle.law_given.specs.Given.{Maps, Mapped, Faults}
use Rattle.law_given.specs.InTurn.{AllGive, AllEnd}
use Rattle.law_given.proofs.Giving.{gives-same, gives-then, Evaluates, evaluates-step, ExpressionEnds, procedure-is, true-ends, call-two-ends}
use Rattle.law_given.proofs.Looking.{assigned-last}
use Rattle.law_given.proofs.Calling.{case-ends, text-ends}
use Rattle.law_given.proofs.Inside.{Inside, Home, entered-inside, own, outer}
use Rattle.law_given.proofs.Later.{list-later, in-turn-from, stops-from, all-give-later, all-end-later}
use Rattle.law_given.proofs.Primitives.{null-is}
use Rattle.law_given.proofs.MapOne.{map_home, map-one, map-ends, only-one}
use Rattle.law_given.proofs.Inverting.{true-back, call-two-back, case-back, text-back}
use Rattle.law_given.proofs.Knows.{Knows}

module _ (w : PlainSetting) (s : WorldState) where
  abbrev outside : WorldState
  outside = with_cell (cell.Scope [] None) s

  abbrev home_place : Place
  home_place = next_place outside

  abbrev ready : WorldState
  ready = with_cell (cell.Scope (map_home home_place) (Some (next_place s))) outside

  abbrev inits : PlainInits
  inits = init (label 2) (lambda 4 (6 ∷ 7 ∷ []) None map_one) (init (label 3) (lambda 9 (11 ∷ 12 ∷ []) None map_many) no_init)

  abbrev late : PlainInits
  late = init (label 3) (lambda 9 (11 ∷ 12 ∷ []) None map_many) no_init

  abbrev unset_cell : Cell
  unset_cell = cell.Scope ((label 2, None) ∷ (label 3, None) ∷ []) (Some (next_place s))

  pub text-is : Evaluates w map_text (next_place s) outside (value.Closure (code_no 15) home_place) ready
  text-is =
      evaluates-step w map_text (next_place s) outside v ready
      (gives-then (eval_of w (lambda 4 (6 ∷ 7 ∷ []) None map_one) p begun) (λ x. at_once w (eval_of w) late here (x ∷ [])) x begun v ready
      (procedure-is w (code_no 4) (one_case (6 ∷ 7 ∷ []) None map_one) true p begun)
      (gives-then (eval_of w (lambda 9 (11 ∷ 12 ∷ []) None map_many) p begun) (λ y. at_once w (eval_of w) no_init here (x ∷ y ∷ [])) y begun v ready
      (procedure-is w (code_no 9) (one_case (11 ∷ 12 ∷ []) None map_many) true p begun)
      (gives-same (eval_of w body p ready) (λ n. at_once w (eval_of w) no_init here (x ∷ y ∷ []) begun n) v ready by
      (procedure-is w (code_no 15) (one_case (17 ∷ 18 ∷ []) (Some 19) map_body) true p ready))))
    where
      p : Place
      p = home_place

      body : PlainCore
      body = lambda 15 (17 ∷ 18 ∷ []) (Some 19) map_body

      v : Value
      v = value.Closure (code_no 15) p

      x : Value
      x = value.Closure (code_no 4) p

      y : Value
      y = value.Closure (code_no 9) p

      here : PlainLetrec
      here = record { variables = inits; body = body; scope = p }

      begun : WorldState
      begun = with_cell unset_cell outside

      by : (n : ℕ) → at_once w (eval_of w) no_init here (x ∷ y ∷ []) begun n ≡ eval_of w body p ready n
      by n =
          ap (λ cells. eval_of w body p (store (assigned cells p (label 3) y) s.names) n) (assigned-last outside.cells unset_cell (label 2) x)
          ∙ ap (λ cells. eval_of w body p (store cells s.names) n) (assigned-last outside.cells (cell_with (label 2) x unset_cell) (label 3) y)

  module _ (knows : Knows w.codes) (f l : Value) where
    abbrev vars : Entries
    vars = (label 17, Some f) ∷ (label 18, Some l) ∷ (label 19, Some nil) ∷ []

    abbrev inner : WorldState
    inner = with_cell (cell.Scope vars (Some home_place)) ready

    body-ends : (r : CallEnd) (t : WorldState) → ExpressionEnds w map_body (next_place ready) inner r t → CallEnds w (call_to (value.Prim (record { 0 = names.MAP })) (f ∷ l ∷ [])) s r t
    unfolding has_text
    body-ends r t h =
        text-ends w (record { 0 = names.MAP }) (f ∷ l ∷ []) s ready t (text_code names.MAP map_text) map_text (code_no 15) home_place r refl refl knows.map_text refl text-is
        (case-ends w (code_no 15) home_place (f ∷ l ∷ []) ready (procedure_code (code_no 15) (one_case (17 ∷ 18 ∷ []) (Some 19) map_body) true) (formals (17 ∷ 18 ∷ []) (Some 19)) map_body r t knows.map_body refl h)

    abbrev q : Place
    q = next_place ready

    behind : LaterWorld s inner
    behind =
        later_then s outside inner (later_with s (cell.Scope [] None))
        (later_then outside ready inner (later_with outside (cell.Scope (map_home home_place) (Some (next_place s)))) (later_with ready (cell.Scope vars (Some home_place))))

    home : Home ready.cells home_place (map_home home_place)
    home = record { around = Some (next_place s); is = slice_get-added outside.cells (cell.Scope (map_home home_place) (Some (next_place s))) }

    inside : Inside inner.cells q vars home_place (map_home home_place)
    inside = entered-inside ready vars home_place (map_home home_place) home

    home-inner : Home inner.cells home_place (map_home home_place)
    home-inner = record { around = inside.around; is = inside.home }

    -- the loop along the list is called
    loop-ends : (r : CallEnd) (t : WorldState) → CallEnds w (call_to (value.Closure (code_no 4) home_place) (f ∷ l ∷ [])) inner r t → CallEnds w (call_to (value.Prim (record { 0 = names.MAP })) (f ∷ l ∷ [])) s r t
    loop-ends r t h =
        body-ends r t
        (true-ends w _ _ _ q inner inner t (truth true) r
        (null-is w (var 19) q inner inner nil (own w inner q vars home_place (map_home home_place) inside (label 19) nil refl) true refl) refl
        (call-two-ends w (var 2) (var 17) (var 18) q inner inner inner inner t (value.Closure (code_no 4) home_place) f l r
        (outer w inner q vars home_place (map_home home_place) inside (label 2) (value.Closure (code_no 4) home_place) refl refl)
        (own w inner q vars home_place (map_home home_place) inside (label 17) f refl)
        (own w inner q vars home_place (map_home home_place) inside (label 18) l refl) h))

    pub map-given : (xs : List Value) → IsList s.cells xs l → AllGive w f xs s → Maps w (call_to (value.Prim (record { 0 = names.MAP })) (f ∷ l ∷ [])) f xs s
    map-given xs r give = record {
      value = m.value;
      state = m.state;
      called = loop-ends (Ok m.value) m.state m.called;
      answers = m.answers;
      in_turn = in-turn-from w f xs m.answers s inner m.state behind m.in_turn;
      list = m.list;
    }
      where
        m : Maps w (call_to (value.Closure (code_no 4) home_place) (f ∷ l ∷ [])) f xs inner
        m = map-one w knows.map_one f home_place xs l inner home-inner (list-later s inner behind xs l r) (all-give-later w f xs s inner behind give)

    pub map-ended : (xs : List Value) → IsList s.cells xs l → AllEnd w f xs s
        → Maps w (call_to (value.Prim (record { 0 = names.MAP })) (f ∷ l ∷ [])) f xs s ⊎ Faults w (call_to (value.Prim (record { 0 = names.MAP })) (f ∷ l ∷ [])) f xs s
    map-ended xs r give = elim (map-ends w knows.map_one f home_place xs l inner home-inner (list-later s inner behind xs l r) (all-end-later w f xs s inner behind give)) [
      | inl m ↦ inl (record {
        value = m.value;
        state = m.state;
        called = loop-ends (Ok m.value) m.state m.called;
        answers = m.answers;
        in_turn = in-turn-from w f xs m.answers s inner m.state behind m.in_turn;
        list = m.list;
      })
      | inr m ↦ inr (record { fault = m.fault; state = m.state; called = loop-ends (Err m.fault) m.state m.called; stops = stops-from w f xs m.fault s inner m.state behind m.stops })
    ]

    -- what a call that gave a value did
    pub map-only : (xs : List Value) (v : Value) (t : WorldState) → IsList s.cells xs l → Calls w (call_to (value.Prim (record { 0 = names.MAP })) (f ∷ l ∷ [])) s v t → Mapped w f xs s v t
    unfolding has_text
    map-only xs v t r called = record { answers = m.answers; in_turn = in-turn-from w f xs m.answers s inner t behind m.in_turn; list = m.list }
      where
        body : Evaluates w map_body q inner v t
        body =
            case-back w (code_no 15) home_place (f ∷ l ∷ []) ready (procedure_code (code_no 15) (one_case (17 ∷ 18 ∷ []) (Some 19) map_body) true) (formals (17 ∷ 18 ∷ []) (Some 19)) map_body v t knows.map_body refl
            (text-back w (record { 0 = names.MAP }) (f ∷ l ∷ []) s ready t (text_code names.MAP map_text) map_text (code_no 15) home_place v refl refl knows.map_text refl text-is called)

        looped : Calls w (call_to (value.Closure (code_no 4) home_place) (f ∷ l ∷ [])) inner v t
        looped =
            call-two-back w (var 2) (var 17) (var 18) q inner inner inner inner t (value.Closure (code_no 4) home_place) f l v
            (outer w inner q vars home_place (map_home home_place) inside (label 2) (value.Closure (code_no 4) home_place) refl refl)
            (own w inner q vars home_place (map_home home_place) inside (label 17) f refl)
            (own w inner q vars home_place (map_home home_place) inside (label 18) l refl)
            (true-back w _ _ _ q inner inner t (truth true) v
            (null-is w (var 19) q inner inner nil (own w inner q vars home_place (map_home home_place) inside (label 19) nil refl) true refl) refl body)

        m : Mapped w f xs inner v t
        m = only-one w knows.map_one f home_place xs l inner v t home-inner (list-later s inner behind xs l r) looped
