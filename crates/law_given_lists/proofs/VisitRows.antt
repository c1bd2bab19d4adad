-- `for-each` on two lists and more, by its text: it calls `map` and gives nothing of it.
use Rattle.std.proofs.Common.{◌≡◌, List, [], ◌∷◌, Some, None, true, false, length, Ok, Err, refl, ap, subst, if◌then◌else◌}
use Rattle.base_data.specs.declared.atom.Atom.TheVariants as a
use Rattle.base_data.specs.declared.op.names.TheConstants as names
use Rattle.base_region.specs.declared.region.Place.{Place}
use Rattle.base_region.proofs.Laws.{slice_get-added}
use Rattle.core_language.specs.Core.{PlainCore, one_armed, none, more}
use Rattle.eval_value.specs.declared.value.Value.{Value}
use Rattle.eval_value.specs.declared.value.Value.TheVariants as value
use Rattle.eval_value.specs.declared.cell.Cell.TheVariants as cell
use Rattle.eval_prims.specs.Answers.{truth}
use Rattle.eval_code.specs.Codes.{procedure_code}
use Rattle.eval_code.specs.Meaning.{eval_of, in_sequence}
use Rattle.eval_code.specs.Procedures.{has_text}
use Rattle.eval_code.specs.Setting.{PlainSetting}
use Rattle.eval_code.specs.State.{WorldState, Go, next_place, with_cell}
use Rattle.eval_code.specs.Variables.{Entries}
use Rattle.law_eval.specs.Kept.{LaterWorld}
use Rattle.law_eval.proofs.Keeping.{later_then, later_with}
use Rattle.law_given.specs.Calls.{CallEnd, call_to, CallEnds}
use Rattle.law_given.specs.Codes.{label, code_no, var, prim, formals, one_case, app, datum_at, text_code, for_each_body, for_each_text}
use Rattle.law_given.proofs.Giving.{Evaluates, ExpressionEnds, procedure-is, primitive-is, no-arm}
use Rattle.law_given.proofs.Inside.{Inside, home-later, entered-inside, own}
use Rattle.law_given.proofs.Knows.{Knows}
use Rattle.law_given.proofs.Later.{list-later}
use Rattle.law_given.proofs.Primitives.{bool-is}
use Rattle.law_given.proofs.Unique.{ends-one-end, ends-one-state}
use Rattle.law_given_lists.specs.Done.{MapDid, VisitDid}
use Rattle.law_given_lists.specs.RowCalls.{AllEnd}
use Rattle.law_given_lists.specs.Rows.{InRows}
use Rattle.law_given_lists.proofs.Elements.{elements-of}
use Rattle.law_given_lists.proofs.MapRows.{map-ended, map-only}
use Rattle.law_given_lists.proofs.Moving.{in-turn-from, stops-from, all-end-later}
use Rattle.law_given_lists.proofs.RowLemmas.{rows-later}
use Rattle.law_given_lists.proofs.RowLoop.{rest_list, with_rest, rest-later, rest-is, two-and-more}
use Rattle.law_given_lists.proofs.Splitting.{Iff, iff-then, Split, went, stopped}
use Rattle.law_given_lists.proofs.Steps.{sequence-iff, four-iff, apply-iff, case-iff, text-iff}

module _ (w : PlainSetting) (knows : Knows w.codes) (f l m : Value) (ms : List Value) (s : WorldState) where
  abbrev outside : WorldState
  outside = with_cell (cell.Scope [] None) s

  abbrev p : Place
  p = next_place s

  abbrev kept : WorldState
  kept = with_rest (m ∷ ms) outside

  abbrev rest : Value
  rest = rest_list (m ∷ ms) outside

  abbrev entries : Entries
  entries = (label 23, Some f) ∷ (label 24, Some l) ∷ (label 25, Some rest) ∷ []

  abbrev inner : WorldState
  inner = with_cell (cell.Scope entries (Some p)) kept

  abbrev q : Place
  q = next_place kept

  outside-kept : LaterWorld outside kept
  outside-kept = rest-later (m ∷ ms) outside

  kept-inner : LaterWorld kept inner
  kept-inner = later_with kept (cell.Scope entries (Some p))

  far : LaterWorld s inner
  far = later_then s outside inner (later_with s (cell.Scope [] None)) (later_then outside kept inner outside-kept kept-inner)

  inside : Inside inner.cells q entries p []
  inside =
      entered-inside kept entries p []
      (home-later outside kept outside-kept p [] (record { around = None; is = slice_get-added s.cells (cell.Scope [] None) }))

  abbrev mapping : PlainCore
  mapping = app (prim names.APPLY) (prim names.MAP ∷ var 23 ∷ var 24 ∷ var 25 ∷ [])

  abbrev no_value : PlainCore
  no_value = one_armed (datum_at names.FOR_EACH 49 51 (a.Bool false)) (datum_at names.FOR_EACH 52 54 (a.Bool false))

  abbrev go_on : Go
  go_on = λ x. in_sequence w (eval_of w) (more no_value none) q

  mapping-iff : (r : CallEnd) (t : WorldState) → Iff (ExpressionEnds w mapping q inner r t) (CallEnds w (call_to (value.Prim (record { 0 = names.MAP })) (f ∷ l ∷ m ∷ ms)) inner r t)
  mapping-iff r t =
      iff-then
      (four-iff w (prim names.APPLY) (prim names.MAP) (var 23) (var 24) (var 25) q inner inner inner inner inner inner t (value.Prim (record { 0 = names.APPLY })) (value.Prim (record { 0 = names.MAP })) f l rest r
      (primitive-is w (record { 0 = names.APPLY }) q inner) (primitive-is w (record { 0 = names.MAP }) q inner)
      (own w inner q entries p [] inside (label 23) f refl) (own w inner q entries p [] inside (label 24) l refl) (own w inner q entries p [] inside (label 25) rest refl))
      (apply-iff w (value.Prim (record { 0 = names.MAP })) (f ∷ l ∷ []) (m ∷ ms) rest inner r t (elements-of inner.cells (m ∷ ms) rest (list-later kept inner kept-inner (m ∷ ms) rest (rest-is (m ∷ ms) outside))))

  second : (t : WorldState) → Evaluates w no_value q t value.Unspecified t
  second t = no-arm w _ _ q t t (truth false) (bool-is w _ false q t) refl

  entered-iff : has_text names.FOR_EACH ≡ true → (r : CallEnd) (t : WorldState) → Iff (CallEnds w (call_to (value.Prim (record { 0 = names.FOR_EACH })) (f ∷ l ∷ m ∷ ms)) s r t) (Split (eval_of w mapping q inner) go_on r t)
  entered-iff is_text r t =
      iff-then
      (text-iff w (record { 0 = names.FOR_EACH }) (f ∷ l ∷ m ∷ ms) s outside t (text_code names.FOR_EACH for_each_text) for_each_text (code_no 21) p r refl is_text knows.for_each_text refl
      (procedure-is w (code_no 21) (one_case (23 ∷ 24 ∷ []) (Some 25) for_each_body) true p outside))
      (iff-then
      (case-iff w (code_no 21) p (f ∷ l ∷ m ∷ ms) outside (procedure_code (code_no 21) (one_case (23 ∷ 24 ∷ []) (Some 25) for_each_body) true) (formals (23 ∷ 24 ∷ []) (Some 25)) for_each_body r t knows.for_each_body
      (ap (λ h. if h then Some (formals (23 ∷ 24 ∷ []) (Some 25), for_each_body) else None) (two-and-more (length (m ∷ ms)))))
      (sequence-iff w mapping no_value q inner r t))

  module _ (rows : List (List Value)) (r : InRows s.cells rows (l ∷ m ∷ ms)) where
    -- what `map` did, and nothing of it
    visited : (e : CallEnd) (t : WorldState) → CallEnds w (call_to (value.Prim (record { 0 = names.MAP })) (f ∷ l ∷ m ∷ ms)) inner e t → MapDid w f rows inner e t → has_text names.FOR_EACH ≡ true
        → (e : CallEnd) × (t : WorldState) × CallEnds w (call_to (value.Prim (record { 0 = names.FOR_EACH })) (f ∷ l ∷ m ∷ ms)) s e t × VisitDid w f rows s e t
    visited (Ok v) t h d is_text = (
      Ok value.Unspecified,
      t,
      (entered-iff is_text (Ok value.Unspecified) t).1 (went v t ((mapping-iff (Ok v) t).1 h) (second t)),
      (d.0, in-turn-from w f rows d.0 s inner t far d.1, refl),
    )
    visited (Err b) t h d is_text = (Err b, t, (entered-iff is_text (Err b) t).1 (stopped ((mapping-iff (Err b) t).1 h)), stops-from w f rows b s inner t far d)

    pub for-each-ended : AllEnd w f rows s → (e : CallEnd) × (t : WorldState) × CallEnds w (call_to (value.Prim (record { 0 = names.FOR_EACH })) (f ∷ l ∷ m ∷ ms)) s e t × VisitDid w f rows s e t
    unfolding has_text
    for-each-ended give =
        let d = map-ended w knows f l m ms inner rows (rows-later s inner far r) (all-end-later w f rows s inner far give) in
        visited d.0 d.1 d.2 d.3 refl

    did-by : (e : CallEnd) (t : WorldState) → Split (eval_of w mapping q inner) go_on e t → VisitDid w f rows s e t
    did-by e t (stopped {e = b} h) = stops-from w f rows b s inner t far (map-only w knows f l m ms inner rows (rows-later s inner far r) (Err b) t ((mapping-iff (Err b) t).0 h))
    did-by e t (went v u h onward) =
        let d = map-only w knows f l m ms inner rows (rows-later s inner far r) (Ok v) u ((mapping-iff (Ok v) u).0 h) in
        subst (λ c. VisitDid w f rows s e c) (ends-one-state (go_on v u) (Ok value.Unspecified) e u t (second u) onward)
        (subst (λ c. VisitDid w f rows s c u) (ends-one-end (go_on v u) (Ok value.Unspecified) e u t (second u) onward) (d.0, in-turn-from w f rows d.0 s inner u far d.1, refl))

    pub for-each-only : (e : CallEnd) (t : WorldState) → CallEnds w (call_to (value.Prim (record { 0 = names.FOR_EACH })) (f ∷ l ∷ m ∷ ms)) s e t → VisitDid w f rows s e t
    unfolding has_text
    for-each-only e t called = did-by e t ((entered-iff refl e t).0 called)
