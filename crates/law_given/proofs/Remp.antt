-- `remp`: its text calls `filter` on a procedure that says no where f says yes.
use Rattle.std.proofs.Common.{◌≡◌, List, [], ◌∷◌, Some, None, Bool, true, false, not, refl, ap, sym, subst, ◌∙◌, if◌then◌else◌}
use Rattle.base_data.specs.declared.op.names.TheConstants as names
use Rattle.base_region.specs.declared.region.Place.{Place}
use Rattle.base_region.proofs.Laws.{slice_get-added}
use Rattle.eval_value.specs.declared.value.Value.{Value}
use Rattle.eval_value.specs.declared.value.Value.TheVariants as value
use Rattle.eval_value.specs.declared.cell.Cell.TheVariants as cell
use Rattle.eval_prims.specs.Answers.{truth}
use Rattle.eval_prims.specs.Basics.{is_false}
use Rattle.eval_code.specs.Codes.{procedure_code}
use Rattle.eval_code.specs.Procedures.{has_text, truth_of}
use Rattle.eval_code.specs.Setting.{PlainSetting}
use Rattle.eval_code.specs.State.{WorldState, next_place, with_cell}
use Rattle.eval_code.specs.Variables.{Entries}
use Rattle.law_eval.specs.Kept.{LaterWorld}
use Rattle.law_eval.proofs.Keeping.{later_then, later_with}
use Rattle.law_lists.specs.Runs.{IsList}
use Rattle.law_given.specs.Calls.{call_to, call_of, Calls}
use Rattle.law_given.specs.Codes.{label, code_no, var, prim, formals, one_case, lambda, app, text_code, remp_test, remp_body, remp_text}
use Rattle.law_given.specs.Given.{Filters, Filtered}
use Rattle.law_given.specs.InTurn.{InTurn, no_call, one_call, AllGive, when_true, chosen, others}
use Rattle.law_given.proofs.Giving.{Evaluates, procedure-is, primitive-is, call-one, call-two}
use Rattle.law_given.proofs.Calling.{closure-called, closure-back, case-called, text-called}
use Rattle.law_given.proofs.FilterBack.{filter-only}
use Rattle.law_given.proofs.Inverting.{call-one-back, call-two-back, argument-back, case-back, text-back}
use Rattle.law_given.proofs.Inside.{Inside, Home, home-later, entered-inside, own, outer}
use Rattle.law_given.proofs.Knows.{Knows}
use Rattle.law_given.proofs.Later.{calls-later, list-later, in-turn-from, all-give-later}
use Rattle.law_given.proofs.Primitives.{not-called, not-is, not-turns}
use Rattle.law_given.proofs.ListTexts.{filter-given}
use Rattle.law_given.proofs.Unique.{gives-one-value, gives-one-state}

-- whom the turned answer chooses, the answer leaves out
turned-choice : (b : Bool) (x : Value) (xs ys : List Value) → xs ≡ ys → when_true (not b) x xs ≡ (if b then ys else x ∷ ys)
turned-choice true x xs ys e = e
turned-choice false x xs ys e = ap (λ zs. x ∷ zs) e

module _ (w : PlainSetting) (knows : Knows w.codes) (f l : Value) where
  abbrev vars : Entries
  vars = (label 69, Some f) ∷ (label 70, Some l) ∷ []

  -- the procedure that turns the answers of f round
  module _ (p : Place) where
    abbrev turned : Value
    turned = value.Closure (code_no 72) p

    abbrev tested : Value → WorldState → WorldState
    tested x s = with_cell (cell.Scope ((label 74, Some x) ∷ []) (Some p)) s

    pub turned-called : (x : Value) (s : WorldState) → Home s.cells p vars → (y : Value) (t : WorldState) → Calls w (call_to f (x ∷ [])) (tested x s) y t → Calls w (call_to turned (x ∷ [])) s (truth (is_false y)) t
    turned-called x s round y t h =
        closure-called w (code_no 72) p (x ∷ []) s (truth (is_false y)) t
        (case-called w (code_no 72) p (x ∷ []) s (procedure_code (code_no 72) (one_case (74 ∷ []) None remp_test) true) (formals (74 ∷ []) None) remp_test (truth (is_false y)) t knows.remp_test refl
        (not-is w (app (var 69) (var 74 ∷ [])) (next_place s) (tested x s) t y
        (call-one w (var 69) (var 74) (next_place s) (tested x s) (tested x s) (tested x s) t f x y
        (outer w (tested x s) (next_place s) ((label 74, Some x) ∷ []) p vars inside (label 69) f refl refl)
        (own w (tested x s) (next_place s) ((label 74, Some x) ∷ []) p vars inside (label 74) x refl) h)))
      where
        inside : Inside (tested x s).cells (next_place s) ((label 74, Some x) ∷ []) p vars
        inside = entered-inside s ((label 74, Some x) ∷ []) p vars round

    pub far : (x : Value) (s : WorldState) (y : Value) (t : WorldState) → Calls w (call_to f (x ∷ [])) (tested x s) y t → LaterWorld s t
    far x s y t h = later_then s (tested x s) t (later_with s (cell.Scope ((label 74, Some x) ∷ []) (Some p))) (calls-later w f (x ∷ []) (tested x s) y t h)

    turned-gives : (xs : List Value) (s : WorldState) → Home s.cells p vars → AllGive w f xs s → AllGive w turned xs s
    turned-gives [] s round give = tt
    turned-gives (x ∷ xs) s round give = λ t k.
        let around = home-later s t k p vars round in
        let c = give (tested x t) (later_then s t (tested x t) k (later_with t (cell.Scope ((label 74, Some x) ∷ []) (Some p)))) in
        (truth (is_false c.0), c.1, turned-called x t around c.0 c.1 c.2, turned-gives xs c.1 (home-later t c.1 (far x t c.0 c.1 c.2) p vars around) c.3)

    -- the calls of f behind the calls of that
    abbrev Behind : List Value → List Value → WorldState → WorldState → Type 0
    Behind xs zs s t = (ys : List Value) × InTurn w f xs s ys t × (chosen xs zs ≡ others xs ys)

    turned-back : (xs zs : List Value) (o s t : WorldState) → o ≡ s → Home s.cells p vars → AllGive w f xs s → InTurn w turned xs o zs t → Behind xs zs s t
    turned-back xs zs o s t e round give (no_call k) = ([], no_call (subst (λ a. LaterWorld a t) e k), refl)
    turned-back xs zs o s t e round give (one_call {x = x} {y = z} {xs = xs'} {ys = zs'} {t = r} {u = u} k c i) =
        let from : LaterWorld s r = subst (λ a. LaterWorld a r) e k in
        let around = home-later s r from p vars round in
        let enter = later_then s r (tested x r) from (later_with r (cell.Scope ((label 74, Some x) ∷ []) (Some p))) in
        let made = give (tested x r) enter in
        let called = turned-called x r around made.0 made.1 made.2 in
        let value_is : truth (is_false made.0) ≡ z = gives-one-value (call_of w (call_to turned (x ∷ [])) r) (truth (is_false made.0)) z made.1 u called c in
        let state_is : made.1 ≡ u = gives-one-state (call_of w (call_to turned (x ∷ [])) r) (truth (is_false made.0)) z made.1 u called c in
        let rest = turned-back xs' zs' u made.1 t (sym state_is) (home-later r made.1 (far x r made.0 made.1 made.2) p vars around) made.3 i in (
          made.0 ∷ rest.0,
          one_call enter made.2 rest.1,
          ap (λ v. when_true (truth_of v) x (chosen xs' zs')) (sym value_is) ∙ ap (λ b. when_true b x (chosen xs' zs')) (not-turns made.0)
              ∙ turned-choice (truth_of made.0) x (chosen xs' zs') (others xs' rest.0) rest.2,
        )

    -- what calls of that did that gave values
    pub turned-did : (xs zs : List Value) (s t : WorldState) → Home s.cells p vars → InTurn w turned xs s zs t → Behind xs zs s t
    turned-did xs zs s t round (no_call k) = ([], no_call k, refl)
    turned-did xs zs s t round (one_call {x = x} {y = z} {xs = xs'} {ys = zs'} {t = r} {u = u} k c i) =
        let around = home-later s r k p vars round in
        let inside = entered-inside r ((label 74, Some x) ∷ []) p vars around in
        let body = case-back w (code_no 72) p (x ∷ []) r (procedure_code (code_no 72) (one_case (74 ∷ []) None remp_test) true) (formals (74 ∷ []) None) remp_test z u knows.remp_test refl (closure-back w (code_no 72) p (x ∷ []) r z u c) in
        let asked = argument-back w (prim names.NOT) (app (var 69) (var 74 ∷ [])) (next_place r) (tested x r) (tested x r) (value.Prim (record { 0 = names.NOT })) z u (primitive-is w (record { 0 = names.NOT }) (next_place r) (tested x r)) body in
        let called = call-one-back w (var 69) (var 74) (next_place r) (tested x r) (tested x r) (tested x r) asked.state f x asked.value
        (outer w (tested x r) (next_place r) ((label 74, Some x) ∷ []) p vars inside (label 69) f refl refl)
        (own w (tested x r) (next_place r) ((label 74, Some x) ∷ []) p vars inside (label 74) x refl) asked.first in
        let value_is : truth (is_false asked.value) ≡ z = gives-one-value (call_of w (call_to (value.Prim (record { 0 = names.NOT })) (asked.value ∷ [])) asked.state) (truth (is_false asked.value)) z asked.state u (not-called w asked.value asked.state) asked.onward in
        let state_is : asked.state ≡ u = gives-one-state (call_of w (call_to (value.Prim (record { 0 = names.NOT })) (asked.value ∷ [])) asked.state) (truth (is_false asked.value)) z asked.state u (not-called w asked.value asked.state) asked.onward in
        let enter = later_then s r (tested x r) k (later_with r (cell.Scope ((label 74, Some x) ∷ []) (Some p))) in
        let rest = turned-did xs' zs' u t (home-later r u (calls-later w turned (x ∷ []) r z u c) p vars around) i in (
          asked.value ∷ rest.0,
          one_call enter (subst (λ a. Calls w (call_to f (x ∷ [])) (tested x r) asked.value a) state_is called) rest.1,
          ap (λ v. when_true (truth_of v) x (chosen xs' zs')) (sym value_is) ∙ ap (λ b. when_true b x (chosen xs' zs')) (not-turns asked.value)
              ∙ turned-choice (truth_of asked.value) x (chosen xs' zs') (others xs' rest.0) rest.2,
        )

  module _ (s : WorldState) where
    abbrev outside : WorldState
    outside = with_cell (cell.Scope [] None) s

    abbrev inner : WorldState
    inner = with_cell (cell.Scope vars (Some (next_place s))) outside

    abbrev q : Place
    q = next_place outside

    called-by-body : (v : Value) (t : WorldState) → Evaluates w remp_body q inner v t → Calls w (call_to (value.Prim (record { 0 = names.REMP })) (f ∷ l ∷ [])) s v t
    unfolding has_text
    called-by-body v t h =
        text-called w (record { 0 = names.REMP }) (f ∷ l ∷ []) s outside t (text_code names.REMP remp_text) remp_text (code_no 67) (next_place s) v refl refl knows.remp_text refl
        (procedure-is w (code_no 67) (one_case (69 ∷ 70 ∷ []) None remp_body) true (next_place s) outside)
        (case-called w (code_no 67) (next_place s) (f ∷ l ∷ []) outside (procedure_code (code_no 67) (one_case (69 ∷ 70 ∷ []) None remp_body) true) (formals (69 ∷ 70 ∷ []) None) remp_body v t knows.remp_body refl h)

    pub remp-given : (xs : List Value) → IsList s.cells xs l → AllGive w f xs s → Filters w (call_to (value.Prim (record { 0 = names.REMP })) (f ∷ l ∷ [])) f others xs s
    remp-given xs r give = record {
      value = m.value;
      state = m.state;
      called = called-by-body m.value m.state
          (call-two w (prim names.FILTER) (lambda 72 (74 ∷ []) None remp_test) (var 70) q inner inner inner inner m.state (value.Prim (record { 0 = names.FILTER })) (turned q) l m.value
          (primitive-is w (record { 0 = names.FILTER }) q inner) (procedure-is w (code_no 72) (one_case (74 ∷ []) None remp_test) true q inner)
          (own w inner q vars (next_place s) [] inside (label 70) l refl) m.called);
      answers = back.0;
      in_turn = in-turn-from w f xs back.0 s inner m.state behind back.1;
      list = subst (λ ys. IsList m.state.cells ys m.value) back.2 m.list;
    }
      where
        inside : Inside inner.cells q vars (next_place s) []
        inside = entered-inside outside vars (next_place s) [] (record { around = None; is = slice_get-added s.cells (cell.Scope [] None) })

        round : Home inner.cells q vars
        round = record { around = Some (next_place s); is = inside.frame }

        behind : LaterWorld s inner
        behind = later_then s outside inner (later_with s (cell.Scope [] None)) (later_with outside (cell.Scope vars (Some (next_place s))))

        gives : AllGive w f xs inner
        gives = all-give-later w f xs s inner behind give

        m : Filters w (call_to (value.Prim (record { 0 = names.FILTER })) (turned q ∷ l ∷ [])) (turned q) chosen xs inner
        m = filter-given w knows (turned q) l xs inner (list-later s inner behind xs l r) (turned-gives q xs inner round gives)

        back : Behind q xs m.answers inner m.state
        back = turned-back q xs m.answers inner inner m.state refl round gives m.in_turn

    -- what a call that gave a value did
    pub remp-only : (xs : List Value) (v : Value) (t : WorldState) → IsList s.cells xs l → Calls w (call_to (value.Prim (record { 0 = names.REMP })) (f ∷ l ∷ [])) s v t → Filtered w f others xs s v t
    unfolding has_text
    remp-only xs v t r called = record { answers = back.0; in_turn = in-turn-from w f xs back.0 s inner t behind back.1; list = subst (λ ys. IsList t.cells ys v) back.2 m.list }
      where
        inside : Inside inner.cells q vars (next_place s) []
        inside = entered-inside outside vars (next_place s) [] (record { around = None; is = slice_get-added s.cells (cell.Scope [] None) })

        round : Home inner.cells q vars
        round = record { around = Some (next_place s); is = inside.frame }

        behind : LaterWorld s inner
        behind = later_then s outside inner (later_with s (cell.Scope [] None)) (later_with outside (cell.Scope vars (Some (next_place s))))

        body : Evaluates w remp_body q inner v t
        body =
            case-back w (code_no 67) (next_place s) (f ∷ l ∷ []) outside (procedure_code (code_no 67) (one_case (69 ∷ 70 ∷ []) None remp_body) true) (formals (69 ∷ 70 ∷ []) None) remp_body v t knows.remp_body refl
            (text-back w (record { 0 = names.REMP }) (f ∷ l ∷ []) s outside t (text_code names.REMP remp_text) remp_text (code_no 67) (next_place s) v refl refl knows.remp_text refl
            (procedure-is w (code_no 67) (one_case (69 ∷ 70 ∷ []) None remp_body) true (next_place s) outside) called)

        m : Filtered w (turned q) chosen xs inner v t
        m =
            filter-only w knows (turned q) l xs inner v t (list-later s inner behind xs l r)
            (call-two-back w (prim names.FILTER) (lambda 72 (74 ∷ []) None remp_test) (var 70) q inner inner inner inner t (value.Prim (record { 0 = names.FILTER })) (turned q) l v
            (primitive-is w (record { 0 = names.FILTER }) q inner) (procedure-is w (code_no 72) (one_case (74 ∷ []) None remp_test) true q inner)
            (own w inner q vars (next_place s) [] inside (label 70) l refl) body)

        back : Behind q xs m.answers inner t
        back = turned-did q xs m.answers inner t round m.in_turn
