-- `for-each` on one list: its text calls `map` and gives nothing of it.
use Rattle.std.proofs.Common.{◌≡◌, ℕ, zero, suc, List, [], ◌∷◌, Some, None, true, false, length, Ok, Err, refl, ap, sym, subst, inl, inr, if◌then◌else◌}
use Rattle.std.specs.Prelude.{◌⊎◌}
use Rattle.base_data.specs.declared.op.names.TheConstants as names
use Rattle.base_region.specs.declared.region.Place.{Place}
use Rattle.base_region.proofs.Laws.{slice_get-added}
use Rattle.eval_value.specs.declared.value.Value.{Value}
use Rattle.eval_value.specs.declared.value.Value.TheVariants as value
use Rattle.eval_value.specs.declared.cell.Cell.{Cell}
use Rattle.eval_value.specs.declared.cell.Cell.TheVariants as cell
use Rattle.eval_prims.specs.Answers.{truth}
use Rattle.eval_prims.specs.Chains.{Chain, ended, chain_to, chain, list_elements, is_nil}
use Rattle.eval_prims.specs.Lists.{nil}
use Rattle.eval_code.specs.Codes.{procedure_code}
use Rattle.eval_code.specs.Procedures.{has_text}
use Rattle.eval_code.specs.Setting.{PlainSetting}
use Rattle.eval_code.specs.State.{WorldState, next_place, with_cell}
use Rattle.eval_code.specs.Variables.{Entries}
use Rattle.law_eval.specs.Kept.{LaterWorld}
use Rattle.law_eval.proofs.Keeping.{later_then, later_with}
use Rattle.law_lists.specs.Runs.{IsList}
use Rattle.law_given.specs.Calls.{CallEnd, call_to, CallEnds, Calls}
use Rattle.law_given.specs.Codes.{label, code_no, var, prim, formals, one_case, app, datum_at, text_code, for_each_body, for_each_text}
use Rattle.law_given.specs.Given.{Maps, Mapped, Visits, Visited, Faults}
use Rattle.law_given.specs.InTurn.{InTurn, AllGive, AllEnd}
use Rattle.law_given.proofs.Giving.{Evaluates, ExpressionEnds, procedure-is, primitive-is, call-four-ends, sequence-two, sequence-stops, no-arm}
use Rattle.law_given.proofs.Applying.{apply-ends, apply-none}
use Rattle.law_given.proofs.Calling.{case-ends, text-ends}
use Rattle.law_given.proofs.Inside.{Inside, entered-inside, own}
use Rattle.law_given.proofs.Knows.{Knows}
use Rattle.law_given.proofs.Later.{list-later, in-turn-from, stops-from, all-give-later, all-end-later}
use Rattle.law_given.proofs.MapText.{map-given, map-ended, map-only}
use Rattle.law_given.proofs.Inverting.{Parted, call-four-back, sequence-back, case-back, text-back}
use Rattle.law_given.proofs.Unique.{gives-one-value, gives-one-state}
use Rattle.core_language.specs.Core.{PlainCore, one_armed, none, more}
use Rattle.base_data.specs.declared.atom.Atom.TheVariants as a
use Rattle.eval_code.specs.Meaning.{eval_of, in_sequence}
use Rattle.law_given.proofs.Primitives.{bool-is}

-- the empty list has no elements
pub chain-of-nil : (n : ℕ) (cells : List Cell) → chain_to n cells nil ≡ ended nil
unfolding chain_to
chain-of-nil zero cells = refl
chain-of-nil (suc n) cells = refl

pub nil-elements : (cells : List Cell) → list_elements cells nil ≡ Some []
unfolding chain
nil-elements cells = ap (λ (c : Chain). if is_nil c.end then Some c.elements else None) (chain-of-nil (length cells) cells)

module _ (w : PlainSetting) (knows : Knows w.codes) (f l : Value) (s : WorldState) where
  abbrev outside : WorldState
  outside = with_cell (cell.Scope [] None) s

  abbrev p : Place
  p = next_place s

  abbrev vars : Entries
  vars = (label 23, Some f) ∷ (label 24, Some l) ∷ (label 25, Some nil) ∷ []

  abbrev inner : WorldState
  inner = with_cell (cell.Scope vars (Some p)) outside

  abbrev q : Place
  q = next_place outside

  body-ends : (r : CallEnd) (t : WorldState) → ExpressionEnds w for_each_body q inner r t → CallEnds w (call_to (value.Prim (record { 0 = names.FOR_EACH })) (f ∷ l ∷ [])) s r t
  unfolding has_text
  body-ends r t h =
      text-ends w (record { 0 = names.FOR_EACH }) (f ∷ l ∷ []) s outside t (text_code names.FOR_EACH for_each_text) for_each_text (code_no 21) p r refl refl knows.for_each_text refl
      (procedure-is w (code_no 21) (one_case (23 ∷ 24 ∷ []) (Some 25) for_each_body) true p outside)
      (case-ends w (code_no 21) p (f ∷ l ∷ []) outside (procedure_code (code_no 21) (one_case (23 ∷ 24 ∷ []) (Some 25) for_each_body) true) (formals (23 ∷ 24 ∷ []) (Some 25)) for_each_body r t knows.for_each_body refl h)

  inside : Inside inner.cells q vars p []
  inside = entered-inside outside vars p [] (record { around = None; is = slice_get-added s.cells (cell.Scope [] None) })

  behind : LaterWorld s inner
  behind = later_then s outside inner (later_with s (cell.Scope [] None)) (later_with outside (cell.Scope vars (Some p)))

  -- (apply map f l ls)
  mapping : (r : CallEnd) (t : WorldState) → CallEnds w (call_to (value.Prim (record { 0 = names.MAP })) (f ∷ l ∷ [])) inner r t → ExpressionEnds w (app (prim names.APPLY) (prim names.MAP ∷ var 23 ∷ var 24 ∷ var 25 ∷ [])) q inner r t
  mapping r t h =
      call-four-ends w (prim names.APPLY) (prim names.MAP) (var 23) (var 24) (var 25) q inner inner inner inner inner inner t
      (value.Prim (record { 0 = names.APPLY })) (value.Prim (record { 0 = names.MAP })) f l nil r
      (primitive-is w (record { 0 = names.APPLY }) q inner) (primitive-is w (record { 0 = names.MAP }) q inner)
      (own w inner q vars p [] inside (label 23) f refl) (own w inner q vars p [] inside (label 24) l refl) (own w inner q vars p [] inside (label 25) nil refl)
      (apply-ends w (value.Prim (record { 0 = names.MAP })) (f ∷ l ∷ []) [] nil inner r t (nil-elements inner.cells) h)

  visited : (xs : List Value) → Maps w (call_to (value.Prim (record { 0 = names.MAP })) (f ∷ l ∷ [])) f xs inner → Visits w (call_to (value.Prim (record { 0 = names.FOR_EACH })) (f ∷ l ∷ [])) f xs s value.Unspecified
  visited xs m = record {
    state = m.state;
    called = body-ends (Ok value.Unspecified) m.state
        (sequence-two w _ _ q inner m.state m.state m.value value.Unspecified (mapping (Ok m.value) m.state m.called) (no-arm w _ _ q m.state m.state (truth false) (bool-is w _ false q m.state) refl));
    answers = m.answers;
    in_turn = in-turn-from w f xs m.answers s inner m.state behind m.in_turn;
  }

  pub for-each-given : (xs : List Value) → IsList s.cells xs l → AllGive w f xs s → Visits w (call_to (value.Prim (record { 0 = names.FOR_EACH })) (f ∷ l ∷ [])) f xs s value.Unspecified
  for-each-given xs r give = visited xs (map-given w inner knows f l xs (list-later s inner behind xs l r) (all-give-later w f xs s inner behind give))

  pub for-each-ended : (xs : List Value) → IsList s.cells xs l → AllEnd w f xs s
      → Visits w (call_to (value.Prim (record { 0 = names.FOR_EACH })) (f ∷ l ∷ [])) f xs s value.Unspecified ⊎ Faults w (call_to (value.Prim (record { 0 = names.FOR_EACH })) (f ∷ l ∷ [])) f xs s
  for-each-ended xs r give = elim (map-ended w inner knows f l xs (list-later s inner behind xs l r) (all-end-later w f xs s inner behind give)) [
    | inl m ↦ inl (visited xs m)
    | inr m ↦ inr (record {
      fault = m.fault;
      state = m.state;
      called = body-ends (Err m.fault) m.state (sequence-stops w _ _ q inner m.state m.fault (mapping (Err m.fault) m.state m.called));
      stops = stops-from w f xs m.fault s inner m.state behind m.stops;
    })
  ]

  -- what a call that gave a value did
  pub for-each-only : (xs : List Value) (v : Value) (t : WorldState) → IsList s.cells xs l → Calls w (call_to (value.Prim (record { 0 = names.FOR_EACH })) (f ∷ l ∷ [])) s v t → Visited w f xs s v t
  unfolding has_text
  for-each-only xs v t r called = record {
    answers = m.answers;
    in_turn = in-turn-from w f xs m.answers s inner t behind (subst (λ a. InTurn w f xs inner m.answers a) state_is m.in_turn);
    is_nothing = sym (gives-one-value (eval_of w nothing q parts.state) value.Unspecified v parts.state t second parts.onward);
  }
    where
      nothing : PlainCore
      nothing = one_armed (datum_at names.FOR_EACH 49 51 (a.Bool false)) (datum_at names.FOR_EACH 52 54 (a.Bool false))

      body : Evaluates w for_each_body q inner v t
      body =
          case-back w (code_no 21) p (f ∷ l ∷ []) outside (procedure_code (code_no 21) (one_case (23 ∷ 24 ∷ []) (Some 25) for_each_body) true) (formals (23 ∷ 24 ∷ []) (Some 25)) for_each_body v t knows.for_each_body refl
          (text-back w (record { 0 = names.FOR_EACH }) (f ∷ l ∷ []) s outside t (text_code names.FOR_EACH for_each_text) for_each_text (code_no 21) p v refl refl knows.for_each_text refl
          (procedure-is w (code_no 21) (one_case (23 ∷ 24 ∷ []) (Some 25) for_each_body) true p outside) called)

      parts : Parted (eval_of w (app (prim names.APPLY) (prim names.MAP ∷ var 23 ∷ var 24 ∷ var 25 ∷ [])) q inner) (λ x. in_sequence w (eval_of w) (more nothing none) q) v t
      parts = sequence-back w (app (prim names.APPLY) (prim names.MAP ∷ var 23 ∷ var 24 ∷ var 25 ∷ [])) nothing q inner v t body

      second : Evaluates w nothing q parts.state value.Unspecified parts.state
      second = no-arm w _ _ q parts.state parts.state (truth false) (bool-is w _ false q parts.state) refl

      state_is : parts.state ≡ t
      state_is = gives-one-state (eval_of w nothing q parts.state) value.Unspecified v parts.state t second parts.onward

      mapped : Calls w (call_to (value.Prim (record { 0 = names.MAP })) (f ∷ l ∷ [])) inner parts.value parts.state
      mapped =
          apply-none w (value.Prim (record { 0 = names.MAP })) (f ∷ l ∷ []) [] nil inner (nil-elements inner.cells) refl parts.value parts.state
          (call-four-back w (prim names.APPLY) (prim names.MAP) (var 23) (var 24) (var 25) q inner inner inner inner inner inner parts.state
          (value.Prim (record { 0 = names.APPLY })) (value.Prim (record { 0 = names.MAP })) f l nil parts.value
          (primitive-is w (record { 0 = names.APPLY }) q inner) (primitive-is w (record { 0 = names.MAP }) q inner)
          (own w inner q vars p [] inside (label 23) f refl) (own w inner q vars p [] inside (label 24) l refl) (own w inner q vars p [] inside (label 25) nil refl) parts.first)

      m : Mapped w f xs inner parts.value parts.state
      m = map-only w inner knows f l xs parts.value parts.state (list-later s inner behind xs l r) mapped
