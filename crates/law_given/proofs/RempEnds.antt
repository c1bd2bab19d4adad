-- `remp`, where calls may fault.
use Rattle.std.proofs.Common.{◌≡◌, List, [], ◌∷◌, Some, None, true, Ok, Err, refl, sym, subst, inl, inr}
use Rattle.std.specs.Prelude.{◌⊎◌}
use Rattle.base_data.specs.declared.fault.Bare.{Bare}
use Rattle.base_data.specs.declared.op.names.TheConstants as names
use Rattle.base_region.specs.declared.region.Place.{Place}
use Rattle.base_region.proofs.Laws.{slice_get-added}
use Rattle.core_language.specs.Core.{none, cores}
use Rattle.eval_value.specs.declared.value.Value.{Value}
use Rattle.eval_value.specs.declared.value.Value.TheVariants as value
use Rattle.eval_value.specs.declared.cell.Cell.TheVariants as cell
use Rattle.eval_prims.specs.Answers.{truth}
use Rattle.eval_prims.specs.Basics.{is_false}
use Rattle.eval_code.specs.Codes.{procedure_code}
use Rattle.eval_code.specs.Procedures.{has_text}
use Rattle.eval_code.specs.Setting.{PlainSetting}
use Rattle.eval_code.specs.State.{WorldState, next_place, with_cell}
use Rattle.eval_code.specs.Variables.{Entries}
use Rattle.law_eval.specs.Kept.{LaterWorld}
use Rattle.law_eval.proofs.Keeping.{later_then, later_with}
use Rattle.law_lists.specs.Runs.{IsList}
use Rattle.law_given.specs.Calls.{CallEnd, call_to, call_of, CallEnds, Calls}
use Rattle.law_given.specs.Codes.{label, code_no, var, prim, formals, one_case, lambda, app, text_code, remp_test, remp_body, remp_text}
use Rattle.law_given.specs.Given.{Filters, Faults}
use Rattle.law_given.specs.InTurn.{InTurn, Stops, stops_here, stops_behind, AfterValue, AllEnd, chosen, others}
use Rattle.law_given.proofs.Giving.{procedure-is, primitive-is, operand-stops, call-ends, call-one-ends, call-two-ends}
use Rattle.law_given.proofs.Calling.{closure-ends, case-ends, text-ends}
use Rattle.law_given.proofs.FilterEnds.{filter-ended}
use Rattle.law_given.proofs.Inside.{Inside, Home, home-later, entered-inside, own, outer}
use Rattle.law_given.proofs.Knows.{Knows}
use Rattle.law_given.proofs.Later.{list-later, in-turn-from, stops-from, all-end-later}
use Rattle.law_given.proofs.Remp.{turned-called, far, turned-did}
use Rattle.law_given.proofs.Unique.{ends-one-end, ends-one-state}

module _ (w : PlainSetting) (knows : Knows w.codes) (f l : Value) where
  abbrev vars : Entries
  vars = (label 69, Some f) ∷ (label 70, Some l) ∷ []

  module _ (p : Place) where
    -- the procedure that turns the answers of f round
    abbrev turned : Value
    turned = value.Closure (code_no 72) p

    abbrev tested : Value → WorldState → WorldState
    tested x s = with_cell (cell.Scope ((label 74, Some x) ∷ []) (Some p)) s

    turned-stops : (x : Value) (s : WorldState) → Home s.cells p vars → (e : Bare) (t : WorldState) → CallEnds w (call_to f (x ∷ [])) (tested x s) (Err e) t → CallEnds w (call_to turned (x ∷ [])) s (Err e) t
    turned-stops x s round e t h =
        closure-ends w (code_no 72) p (x ∷ []) s (Err e) t
        (case-ends w (code_no 72) p (x ∷ []) s (procedure_code (code_no 72) (one_case (74 ∷ []) None remp_test) true) (formals (74 ∷ []) None) remp_test (Err e) t knows.remp_test refl
        (call-ends w (prim names.NOT) (cores (app (var 69) (var 74 ∷ []) ∷ [])) (next_place s) (tested x s) (tested x s) t (value.Prim (record { 0 = names.NOT })) (Err e)
        (primitive-is w (record { 0 = names.NOT }) (next_place s) (tested x s))
        (operand-stops w (app (var 69) (var 74 ∷ [])) none (next_place s) (value.Prim (record { 0 = names.NOT }) ∷ []) (tested x s) t e
        (call-one-ends w (var 69) (var 74) (next_place s) (tested x s) (tested x s) (tested x s) t f x (Err e)
        (outer w (tested x s) (next_place s) ((label 74, Some x) ∷ []) p vars inside (label 69) f refl refl)
        (own w (tested x s) (next_place s) ((label 74, Some x) ∷ []) p vars inside (label 74) x refl) h))))
      where
        inside : Inside (tested x s).cells (next_place s) ((label 74, Some x) ∷ []) p vars
        inside = entered-inside s ((label 74, Some x) ∷ []) p vars round

    turned-end : (x : Value) (xs : List Value) (t : WorldState) → Home t.cells p vars → (r : CallEnd) (u : WorldState) → CallEnds w (call_to f (x ∷ [])) (tested x t) r u → AfterValue r (AllEnd w f xs u)
        → ((v : WorldState) → Home v.cells p vars → AllEnd w f xs v → AllEnd w turned xs v)
        → (q : CallEnd) × (v : WorldState) × CallEnds w (call_to turned (x ∷ [])) t q v × AfterValue q (AllEnd w turned xs v)
    turned-end x xs t round (Ok y) u h a again = (Ok (truth (is_false y)), u, turned-called w knows f l p x t round y u h, again u (home-later t u (far w knows f l p x t y u h) p vars round) a)
    turned-end x xs t round (Err e) u h a again = (Err e, u, turned-stops x t round e u h, tt)

    turned-ends : (xs : List Value) (s : WorldState) → Home s.cells p vars → AllEnd w f xs s → AllEnd w turned xs s
    turned-ends [] s round give = tt
    turned-ends (x ∷ xs) s round give = λ t k.
        let made = give (tested x t) (later_then s t (tested x t) k (later_with t (cell.Scope ((label 74, Some x) ∷ []) (Some p)))) in
        turned-end x xs t (home-later s t k p vars round) made.0 made.1 made.2 made.3 (λ v around a. turned-ends xs v around a)

    -- the call of f that stopped that procedure
    stop-here : (x : Value) (xs : List Value) (e : Bare) (s r t : WorldState) → LaterWorld s r → Home r.cells p vars → CallEnds w (call_to turned (x ∷ [])) r (Err e) t
        → (q : CallEnd) (u : WorldState) → CallEnds w (call_to f (x ∷ [])) (tested x r) q u → Stops w f (x ∷ xs) s e t
    stop-here x xs e s r t k round c (Ok y) u h =
        let wrong : Ok (truth (is_false y)) ≡ Err e = ends-one-end (call_of w (call_to turned (x ∷ [])) r) (Ok (truth (is_false y))) (Err e) u t (turned-called w knows f l p x r round y u h) c in
        absurd (cc)
    stop-here x xs e s r t k round c (Err d) u h =
        let mine : CallEnds w (call_to turned (x ∷ [])) r (Err d) u = turned-stops x r round d u h in
        stops_here (later_then s r (tested x r) k (later_with r (cell.Scope ((label 74, Some x) ∷ []) (Some p))))
        (subst (λ a. CallEnds w (call_to f (x ∷ [])) (tested x r) (Err e) a) (ends-one-state (call_of w (call_to turned (x ∷ [])) r) (Err d) (Err e) u t mine c)
        (subst (λ a. CallEnds w (call_to f (x ∷ [])) (tested x r) a u) (ends-one-end (call_of w (call_to turned (x ∷ [])) r) (Err d) (Err e) u t mine c) h))

    stop-behind : (x z : Value) (xs : List Value) (e : Bare) (s r b t : WorldState) → LaterWorld s r → Home r.cells p vars → Calls w (call_to turned (x ∷ [])) r z b → Stops w turned xs b e t
        → (q : CallEnd) (u : WorldState) → CallEnds w (call_to f (x ∷ [])) (tested x r) q u → AfterValue q (AllEnd w f xs u)
        → ((v : WorldState) → Home v.cells p vars → AllEnd w f xs v → Stops w turned xs v e t → Stops w f xs v e t) → Stops w f (x ∷ xs) s e t
    stop-behind x z xs e s r b t k round c i (Ok y) u h a again =
        let same : u ≡ b = ends-one-state (call_of w (call_to turned (x ∷ [])) r) (Ok (truth (is_false y))) (Ok z) u b (turned-called w knows f l p x r round y u h) c in
        stops_behind (later_then s r (tested x r) k (later_with r (cell.Scope ((label 74, Some x) ∷ []) (Some p)))) h
        (again u (home-later r u (far w knows f l p x r y u h) p vars round) a (subst (λ v. Stops w turned xs v e t) (sym same) i))
    stop-behind x z xs e s r b t k round c i (Err d) u h a again =
        let wrong : Err d ≡ Ok z = ends-one-end (call_of w (call_to turned (x ∷ [])) r) (Err d) (Ok z) u b (turned-stops x r round d u h) c in
        absurd (cc)

    stops-back : (xs : List Value) (e : Bare) (s t : WorldState) → Home s.cells p vars → AllEnd w f xs s → Stops w turned xs s e t → Stops w f xs s e t
    stops-back [] e s t round give i = elim i [ ]
    stops-back (x ∷ ys) e s t round give (stops_here {t = r} k c) =
        let made = give (tested x r) (later_then s r (tested x r) k (later_with r (cell.Scope ((label 74, Some x) ∷ []) (Some p)))) in
        stop-here x ys e s r t k (home-later s r k p vars round) c made.0 made.1 made.2
    stops-back (x ∷ ys) e s t round give (stops_behind {y = z} {t = r} {u = b} k c i) =
        let made = give (tested x r) (later_then s r (tested x r) k (later_with r (cell.Scope ((label 74, Some x) ∷ []) (Some p)))) in
        stop-behind x z ys e s r b t k (home-later s r k p vars round) c i made.0 made.1 made.2 made.3 (λ v around a j. stops-back ys e v t around a j)

  module _ (s : WorldState) where
    abbrev outside : WorldState
    outside = with_cell (cell.Scope [] None) s

    abbrev inner : WorldState
    inner = with_cell (cell.Scope vars (Some (next_place s))) outside

    abbrev q : Place
    q = next_place outside

    inside : Inside inner.cells q vars (next_place s) []
    inside = entered-inside outside vars (next_place s) [] (record { around = None; is = slice_get-added s.cells (cell.Scope [] None) })

    by-filter : (r : CallEnd) (t : WorldState) → CallEnds w (call_to (value.Prim (record { 0 = names.FILTER })) (turned q ∷ l ∷ [])) inner r t → CallEnds w (call_to (value.Prim (record { 0 = names.REMP })) (f ∷ l ∷ [])) s r t
    unfolding has_text
    by-filter r t h =
        text-ends w (record { 0 = names.REMP }) (f ∷ l ∷ []) s outside t (text_code names.REMP remp_text) remp_text (code_no 67) (next_place s) r refl refl knows.remp_text refl
        (procedure-is w (code_no 67) (one_case (69 ∷ 70 ∷ []) None remp_body) true (next_place s) outside)
        (case-ends w (code_no 67) (next_place s) (f ∷ l ∷ []) outside (procedure_code (code_no 67) (one_case (69 ∷ 70 ∷ []) None remp_body) true) (formals (69 ∷ 70 ∷ []) None) remp_body r t knows.remp_body refl
        (call-two-ends w (prim names.FILTER) (lambda 72 (74 ∷ []) None remp_test) (var 70) q inner inner inner inner t (value.Prim (record { 0 = names.FILTER })) (turned q) l r
        (primitive-is w (record { 0 = names.FILTER }) q inner) (procedure-is w (code_no 72) (one_case (74 ∷ []) None remp_test) true q inner)
        (own w inner q vars (next_place s) [] inside (label 70) l refl) h))

    pub remp-ended : (xs : List Value) → IsList s.cells xs l → AllEnd w f xs s
        → Filters w (call_to (value.Prim (record { 0 = names.REMP })) (f ∷ l ∷ [])) f others xs s ⊎ Faults w (call_to (value.Prim (record { 0 = names.REMP })) (f ∷ l ∷ [])) f xs s
    remp-ended xs r give = elim (filter-ended w knows (turned q) l xs inner (list-later s inner behind xs l r) (turned-ends q xs inner round gives)) [
      | inl m ↦ inl (kept m)
      | inr m ↦ inr (record {
        fault = m.fault;
        state = m.state;
        called = by-filter (Err m.fault) m.state m.called;
        stops = stops-from w f xs m.fault s inner m.state behind (stops-back q xs m.fault inner m.state round gives m.stops);
      })
    ]
      where
        round : Home inner.cells q vars
        round = record { around = Some (next_place s); is = inside.frame }

        behind : LaterWorld s inner
        behind = later_then s outside inner (later_with s (cell.Scope [] None)) (later_with outside (cell.Scope vars (Some (next_place s))))

        gives : AllEnd w f xs inner
        gives = all-end-later w f xs s inner behind give

        kept : Filters w (call_to (value.Prim (record { 0 = names.FILTER })) (turned q ∷ l ∷ [])) (turned q) chosen xs inner → Filters w (call_to (value.Prim (record { 0 = names.REMP })) (f ∷ l ∷ [])) f others xs s
        kept m =
            let back : (ys : List Value) × InTurn w f xs inner ys m.state × (chosen xs m.answers ≡ others xs ys) = turned-did w knows f l q xs m.answers inner m.state round m.in_turn in
            record {
              value = m.value;
              state = m.state;
              called = by-filter (Ok m.value) m.state m.called;
              answers = back.0;
              in_turn = in-turn-from w f xs back.0 s inner m.state behind back.1;
              list = subst (λ ys. IsList m.state.cells ys m.value) back.2 m.list;
            }
