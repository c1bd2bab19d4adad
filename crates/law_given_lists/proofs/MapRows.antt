-- `map` on two lists and more, by its text.
use Rattle.std.proofs.Common.{◌≡◌, List, [], ◌∷◌, ◌++◌, Some, None, Bool, true, false, length, Ok, Err, refl, ap, subst, if◌then◌else◌}
use Rattle.base_data.specs.declared.fault.Bare.{Bare}
use Rattle.base_data.specs.declared.op.Op.{Op}
use Rattle.base_data.specs.declared.op.names.TheConstants as names
use Rattle.base_region.specs.declared.region.Place.{Place}
use Rattle.base_region.proofs.Laws.{slice_get-added}
use Rattle.core_language.specs.Core.{PlainCore, none, more}
use Rattle.eval_value.specs.declared.value.Value.{Value}
use Rattle.eval_value.specs.declared.value.Value.TheVariants as value
use Rattle.eval_value.specs.declared.cell.Cell.TheVariants as cell
use Rattle.eval_prims.specs.Answers.{truth}
use Rattle.eval_prims.specs.Chains.{pair_of, is_nil}
use Rattle.eval_prims.specs.Lists.{nil}
use Rattle.eval_code.specs.Codes.{procedure_code}
use Rattle.eval_code.specs.Meaning.{eval_of, operands}
use Rattle.eval_code.specs.Procedures.{has_text}
use Rattle.eval_code.specs.Setting.{PlainSetting}
use Rattle.eval_code.specs.State.{WorldState, Go, next_place, with_cell}
use Rattle.eval_code.specs.Variables.{Entries}
use Rattle.law_eval.specs.Kept.{LaterWorld}
use Rattle.law_eval.proofs.Keeping.{later_then, later_with}
use Rattle.law_lists.specs.Runs.{here, IsList}
use Rattle.law_given.specs.Calls.{CallEnd, call_to, call_of, CallEnds, Calls}
use Rattle.law_given.specs.Codes.{label, code_no, var, prim, formals, one_case, app, car, cons, first_is_null, text_code, map_many, map_body, map_text}
use Rattle.law_given.proofs.Giving.{Evaluates, ExpressionEnds, primitive-is, operand-stops, call-two}
use Rattle.law_given.proofs.Inside.{Inside, Home, home-later, inside-later, entered-inside, own, outer}
use Rattle.law_given.proofs.Knows.{Knows}
use Rattle.law_given.proofs.Later.{later-refl, calls-later, list-later}
use Rattle.law_given.proofs.MapOne.{list-some, list-more, map_home, map-one}
use Rattle.law_given.proofs.MapText.{text-is}
use Rattle.law_given.proofs.Primitives.{pair-not-nil, next_pair, null-is, car-is, nil-is, cons-is}
use Rattle.law_given.proofs.Unique.{ends-one-end, ends-one-state}
use Rattle.law_given_lists.specs.Done.{MapDid}
use Rattle.law_given_lists.specs.RowCalls.{AfterValue, no_call, one_call, stops_here, stops_behind, AllEnd}
use Rattle.law_given_lists.specs.Rows.{Pairs, InRows}
use Rattle.law_given_lists.proofs.Elements.{elements-of}
use Rattle.law_given_lists.proofs.Moving.{in-turn-from, in-turn-to, stops-from, all-end-later}
use Rattle.law_given_lists.proofs.RowLemmas.{pairs-later, rows-later, rows-none, rows-some}
use Rattle.law_given_lists.proofs.RowLoop.{rest_list, with_rest, rest-later, rest-is, two-and-more}
use Rattle.law_given_lists.proofs.RowParts.{Listed, cars-listed, cdrs-listed}
use Rattle.law_given_lists.proofs.Splitting.{Iff, iff-then, Split, went, stopped}
use Rattle.law_given_lists.proofs.Steps.{call-real, true-iff, false-iff, first-iff, operand-split, two-iff, apply-iff, closure-iff, case-iff, text-iff}

-- what was done from a later state on was done from an earlier one on
did-from : (w : PlainSetting) (f : Value) (rows : List (List Value)) (r : CallEnd) (o s t : WorldState) → LaterWorld o s → MapDid w f rows s r t → MapDid w f rows o r t
did-from w f rows (Ok v) o s t k d = (d.0, in-turn-from w f rows d.0 o s t k d.1, d.2)
did-from w f rows (Err e) o s t k d = stops-from w f rows e o s t k d

module _ (w : PlainSetting) (knows : Knows w.codes) (f : Value) (p : Place) where
  -- the loop along a list of lists, and that along one list
  abbrev g : Value
  g = value.Closure (code_no 9) p

  abbrev one : Value
  one = value.Closure (code_no 4) p

  abbrev Gives : List (List Value) → Value → WorldState → Type 0
  Gives rows lv s = (r : CallEnd) × (t : WorldState) × CallEnds w (call_to g (f ∷ lv ∷ [])) s r t × MapDid w f rows s r t

  module _ (lv l : Value) (ls : List Value) (s : WorldState) (round : Home s.cells p (map_home p)) (lists : IsList s.cells (l ∷ ls) lv) where
    abbrev vars : Entries
    vars = (label 11, Some f) ∷ (label 12, Some lv) ∷ []

    abbrev at : WorldState
    at = with_cell (cell.Scope vars (Some p)) s

    abbrev q : Place
    q = next_place s

    enter : LaterWorld s at
    enter = later_with s (cell.Scope vars (Some p))

    body-iff : (r : CallEnd) (t : WorldState) → Iff (CallEnds w (call_to g (f ∷ lv ∷ [])) s r t) (ExpressionEnds w map_many q at r t)
    body-iff r t =
        iff-then (closure-iff w (code_no 9) p (f ∷ lv ∷ []) s r t)
        (case-iff w (code_no 9) p (f ∷ lv ∷ []) s (procedure_code (code_no 9) (one_case (11 ∷ 12 ∷ []) None map_many) true) (formals (11 ∷ 12 ∷ []) None) map_many r t knows.map_many refl)

    inside : Inside at.cells q vars p (map_home p)
    inside = entered-inside s vars p (map_home p) round

    lists-at : IsList at.cells (l ∷ ls) lv
    lists-at = list-later s at enter (l ∷ ls) lv lists

    first-null : (b : Bool) → is_nil l ≡ b → Evaluates w (first_is_null (var 12)) q at (truth b) at
    first-null b e = let c = list-some lists-at in null-is w (car (var 12)) q at at l (car-is w (var 12) q at at lv (own w at q vars p (map_home p) inside (label 12) lv refl) l c.0 c.1) b e

    nothing : l ≡ nil → Calls w (call_to g (f ∷ lv ∷ [])) s nil at
    nothing e = (body-iff (Ok nil) at).1 ((true-iff w _ _ _ q at at (truth true) (Ok nil) at (first-null true (ap is_nil e)) refl).1 (nil-is w _ q at))

    module _ (row : List Value) (x d : Value) (ds : List Value) (pairs : Pairs s.cells row (d ∷ ds) (l ∷ ls)) (pair : pair_of s.cells l ≡ Some (x, d)) where
      -- in a state behind
      module _ (u : WorldState) (behind : LaterWorld at u) where
        inside-then : Inside u.cells q vars p (map_home p)
        inside-then = inside-later at u behind q vars p (map_home p) inside

        home-then : Home u.cells p (map_home p)
        home-then = home-later s u (later_then s at u enter behind) p (map_home p) round

        lists-then : IsList u.cells (l ∷ ls) lv
        lists-then = list-later at u behind (l ∷ ls) lv lists-at

        pairs-then : Pairs u.cells row (d ∷ ds) (l ∷ ls)
        pairs-then = pairs-later s u (later_then s at u enter behind) pairs

        -- (one car ls) and (one cdr ls)
        abbrev cars_then : Listed w one (value.Prim (record { 0 = names.CAR }) ∷ lv ∷ []) u row
        cars_then = cars-listed w one lv (l ∷ ls) row (d ∷ ds) u pairs-then (λ give. map-one w knows.map_one (value.Prim (record { 0 = names.CAR })) p (l ∷ ls) lv u home-then lists-then give)

        abbrev cdrs_then : Listed w one (value.Prim (record { 0 = names.CDR }) ∷ lv ∷ []) u (d ∷ ds)
        cdrs_then = cdrs-listed w one lv (l ∷ ls) row (d ∷ ds) u pairs-then (λ give. map-one w knows.map_one (value.Prim (record { 0 = names.CDR })) p (l ∷ ls) lv u home-then lists-then give)

        part-is : (op : Op) (v : Value) (t : WorldState) → Calls w (call_to one (value.Prim op ∷ lv ∷ [])) u v t → Evaluates w (app (var 2) (prim op.0 ∷ var 12 ∷ [])) q u v t
        part-is op v t h =
            call-two w (var 2) (prim op.0) (var 12) q u u u u t one (value.Prim op) lv v
            (outer w u q vars p (map_home p) inside-then (label 2) one refl refl) (primitive-is w op q u) (own w u q vars p (map_home p) inside-then (label 12) lv refl) h

      abbrev asked : Listed w one (value.Prim (record { 0 = names.CAR }) ∷ lv ∷ []) at row
      asked = cars_then at (later-refl at)

      asked-at : LaterWorld at asked.state
      asked-at = calls-later w one (value.Prim (record { 0 = names.CAR }) ∷ lv ∷ []) at asked.value asked.state asked.called

      till-asked : LaterWorld s asked.state
      till-asked = later_then s at asked.state enter asked-at

      abbrev on_row : PlainCore
      on_row = app (prim names.APPLY) (var 11 ∷ app (var 2) (prim names.CAR ∷ var 12 ∷ []) ∷ [])

      abbrev on_rest : PlainCore
      on_rest = app (var 3) (var 11 ∷ app (var 2) (prim names.CDR ∷ var 12 ∷ []) ∷ [])

      ask-iff : (r : CallEnd) (t : WorldState) → Iff (ExpressionEnds w on_row q at r t) (CallEnds w (call_to f row) asked.state r t)
      ask-iff r t =
          iff-then
          (two-iff w (prim names.APPLY) (var 11) (app (var 2) (prim names.CAR ∷ var 12 ∷ [])) q at at at asked.state t (value.Prim (record { 0 = names.APPLY })) f asked.value r
          (primitive-is w (record { 0 = names.APPLY }) q at) (own w at q vars p (map_home p) inside (label 11) f refl)
          (part-is at (later-refl at) (record { 0 = names.CAR }) asked.value asked.state asked.called))
          (apply-iff w f [] row asked.value asked.state r t (elements-of asked.state.cells row asked.value asked.list))

      abbrev go_on : Go
      go_on = λ v. operands w (eval_of w) (more on_rest none) q ((value.Prim (record { 0 = names.CONS }) ∷ []) ++ v ∷ [])

      next-iff : (r : CallEnd) (t : WorldState) → Iff (CallEnds w (call_to g (f ∷ lv ∷ [])) s r t) (Split (eval_of w on_row q at) go_on r t)
      next-iff r t =
          iff-then (body-iff r t)
          (iff-then (false-iff w _ _ _ q at at (truth false) r t (first-null false (pair-not-nil s.cells l x d pair)) refl)
          (first-iff w (prim names.CONS) on_row (more on_rest none) q at at (value.Prim (record { 0 = names.CONS })) r t (primitive-is w (record { 0 = names.CONS }) q at)))

      module _ (y : Value) (u : WorldState) (called : Calls w (call_to f row) asked.state y u) where
        behind : LaterWorld at u
        behind = later_then at asked.state u asked-at (calls-later w f row asked.state y u called)

        abbrev left : Listed w one (value.Prim (record { 0 = names.CDR }) ∷ lv ∷ []) u (d ∷ ds)
        left = cdrs_then u behind

        till-left : LaterWorld u left.state
        till-left = calls-later w one (value.Prim (record { 0 = names.CDR }) ∷ lv ∷ []) u left.value left.state left.called

        far : LaterWorld s left.state
        far = later_then s at left.state enter (later_then at u left.state behind till-left)

        again-iff : (r : CallEnd) (t : WorldState) → Iff (ExpressionEnds w on_rest q u r t) (CallEnds w (call_to g (f ∷ left.value ∷ [])) left.state r t)
        again-iff r t =
            two-iff w (var 3) (var 11) (app (var 2) (prim names.CDR ∷ var 12 ∷ [])) q u u u left.state t g f left.value r
            (outer w u q vars p (map_home p) (inside-then u behind) (label 3) g refl refl) (own w u q vars p (map_home p) (inside-then u behind) (label 11) f refl)
            (part-is u behind (record { 0 = names.CDR }) left.value left.state left.called)

        -- the pair of the answer and the list of the others
        paired : (v : Value) (t : WorldState) → Calls w (call_to g (f ∷ left.value ∷ [])) left.state v t → CallEnds w (call_to g (f ∷ lv ∷ [])) s (Ok (next_pair w t)) (with_cell (cell.Pair y v) t)
        paired v t h =
            (body-iff (Ok (next_pair w t)) (with_cell (cell.Pair y v) t)).1
            ((false-iff w _ _ _ q at at (truth false) (Ok (next_pair w t)) (with_cell (cell.Pair y v) t) (first-null false (pair-not-nil s.cells l x d pair)) refl).1
            (cons-is w on_row q at u y ((ask-iff (Ok y) u).1 called) on_rest v t ((again-iff (Ok v) t).1 h)))

        fault-behind : (e : Bare) (t : WorldState) → CallEnds w (call_to g (f ∷ left.value ∷ [])) left.state (Err e) t → CallEnds w (call_to g (f ∷ lv ∷ [])) s (Err e) t
        fault-behind e t h = (next-iff (Err e) t).1 (went y u ((ask-iff (Ok y) u).1 called) (operand-stops w on_rest none q (value.Prim (record { 0 = names.CONS }) ∷ y ∷ []) u t e ((again-iff (Err e) t).1 h)))

        -- what was done with the rests and with the row
        whole : (rows : List (List Value)) (v : Value) (t : WorldState) → MapDid w f rows u (Ok v) t → MapDid w f (row ∷ rows) s (Ok (next_pair w t)) (with_cell (cell.Pair y v) t)
        whole rows v t did = (
          y ∷ did.0,
          one_call till-asked called (in-turn-to w f rows did.0 u t (with_cell (cell.Pair y v) t) did.1 (later_with t (cell.Pair y v))),
          list-more t.cells y v did.0 did.2,
        )

      next-ends : (rows : List (List Value)) (r : CallEnd) (u : WorldState) (called : CallEnds w (call_to f row) asked.state r u) → AfterValue r (λ _. AllEnd w f rows u)
          → ((v : WorldState) (lw : Value) → LaterWorld s v → IsList v.cells (d ∷ ds) lw → AllEnd w f rows v → Gives rows lw v) → Gives (row ∷ rows) lv s
      next-ends rows (Err b) u called a again = (Err b, u, (next-iff (Err b) u).1 (stopped ((ask-iff (Err b) u).1 called)), stops_here till-asked called)
      next-ends rows (Ok y) u called a again =
          let m = again (left y u called).state (left y u called).value (far y u called) (left y u called).list (all-end-later w f rows u (left y u called).state (till-left y u called) a) in
          by m.0 m.1 m.2 (did-from w f rows m.0 u (left y u called).state m.1 (till-left y u called) m.3)
        where
          by : (r : CallEnd) (t : WorldState) → CallEnds w (call_to g (f ∷ (left y u called).value ∷ [])) (left y u called).state r t → MapDid w f rows u r t → Gives (row ∷ rows) lv s
          by (Ok v) t h did = (Ok (next_pair w t), with_cell (cell.Pair y v) t, paired y u called v t h, whole y u called rows v t did)
          by (Err e) t h did = (Err e, t, fault-behind y u called e t h, stops_behind till-asked called did)

      next-did : (rows : List (List Value)) (r : CallEnd) (t : WorldState) → CallEnds w (call_to g (f ∷ lv ∷ [])) s r t
          → ((v : WorldState) (lw : Value) → LaterWorld s v → IsList v.cells (d ∷ ds) lw → (e : CallEnd) (o : WorldState) → CallEnds w (call_to g (f ∷ lw ∷ [])) v e o → MapDid w f rows v e o)
          → MapDid w f (row ∷ rows) s r t
      next-did rows r t called again = by r t called ((next-iff r t).0 called)
        where
          of-rest : (y : Value) (u : WorldState) (h : Calls w (call_to f row) asked.state y u) (e : CallEnd) (o : WorldState) → ExpressionEnds w on_rest q u e o → MapDid w f rows u e o
          of-rest y u h e o k =
              did-from w f rows e u (left y u h).state o (till-left y u h) (again (left y u h).state (left y u h).value (far y u h) (left y u h).list e o ((again-iff y u h e o).0 k))

          same : (r : CallEnd) (t : WorldState) → CallEnds w (call_to g (f ∷ lv ∷ [])) s r t → (e : CallEnd) (o : WorldState) → CallEnds w (call_to g (f ∷ lv ∷ [])) s e o → MapDid w f (row ∷ rows) s e o → MapDid w f (row ∷ rows) s r t
          same r t called e o other did =
              subst (λ a. MapDid w f (row ∷ rows) s r a) (ends-one-state (call_of w (call_to g (f ∷ lv ∷ [])) s) e r o t other called)
              (subst (λ a. MapDid w f (row ∷ rows) s a o) (ends-one-end (call_of w (call_to g (f ∷ lv ∷ [])) s) e r o t other called) did)

          of-operand : (y : Value) (u : WorldState) (h : Calls w (call_to f row) asked.state y u) (r : CallEnd) (t : WorldState) → CallEnds w (call_to g (f ∷ lv ∷ [])) s r t
              → Split (eval_of w on_rest q u) (λ v. operands w (eval_of w) none q ((value.Prim (record { 0 = names.CONS }) ∷ y ∷ []) ++ v ∷ [])) r t → MapDid w f (row ∷ rows) s r t
          of-operand y u h r t called (stopped {e = e} k) = stops_behind till-asked h (of-rest y u h (Err e) t k)
          of-operand y u h r t called (went v o k onward) =
              same r t called (Ok (next_pair w o)) (with_cell (cell.Pair y v) o) (paired y u h v o ((again-iff y u h (Ok v) o).0 k)) (whole y u h rows v o (of-rest y u h (Ok v) o k))

          by : (r : CallEnd) (t : WorldState) → CallEnds w (call_to g (f ∷ lv ∷ [])) s r t → Split (eval_of w on_row q at) go_on r t → MapDid w f (row ∷ rows) s r t
          by r t called (stopped {e = b} h) = stops_here till-asked ((ask-iff (Err b) t).0 h)
          by r t called (went y u h onward) =
              of-operand y u ((ask-iff (Ok y) u).0 h) r t called (operand-split w on_rest none q (value.Prim (record { 0 = names.CONS }) ∷ y ∷ []) u r t (call-real w g (f ∷ lv ∷ []) s r t called) onward)

  many-ends : (rows : List (List Value)) (lv l : Value) (ls : List Value) (s : WorldState) → Home s.cells p (map_home p) → IsList s.cells (l ∷ ls) lv → InRows s.cells rows (l ∷ ls)
      → AllEnd w f rows s → Gives rows lv s
  many-ends [] lv l ls s round lists r give = (Ok nil, at lv l ls s round lists, nothing lv l ls s round lists (rows-none r), ([], no_call (enter lv l ls s round lists), here))
  many-ends (row ∷ rows) lv l ls s round lists r give =
      let c = rows-some r in
      let made = give (asked lv l ls s round lists row c.x c.d c.ds c.pairs c.is).state (till-asked lv l ls s round lists row c.x c.d c.ds c.pairs c.is) in
      next-ends lv l ls s round lists row c.x c.d c.ds c.pairs c.is rows made.0 made.1 made.2 made.3
      (λ v lw k is a. many-ends rows lw c.d c.ds v (home-later s v k p (map_home p) round) is (rows-later s v k c.behind) a)

  -- whatever a call came to, it did so
  many-did : (rows : List (List Value)) (lv l : Value) (ls : List Value) (s : WorldState) → Home s.cells p (map_home p) → IsList s.cells (l ∷ ls) lv → InRows s.cells rows (l ∷ ls)
      → (r : CallEnd) (t : WorldState) → CallEnds w (call_to g (f ∷ lv ∷ [])) s r t → MapDid w f rows s r t
  many-did [] lv l ls s round lists rs r t called =
      let done = nothing lv l ls s round lists (rows-none rs) in
      subst (λ a. MapDid w f [] s r a) (ends-one-state (call_of w (call_to g (f ∷ lv ∷ [])) s) (Ok nil) r (at lv l ls s round lists) t done called)
      (subst (λ a. MapDid w f [] s a (at lv l ls s round lists)) (ends-one-end (call_of w (call_to g (f ∷ lv ∷ [])) s) (Ok nil) r (at lv l ls s round lists) t done called) ([], no_call (enter lv l ls s round lists), here))
  many-did (row ∷ rows) lv l ls s round lists rs r t called =
      let c = rows-some rs in
      next-did lv l ls s round lists row c.x c.d c.ds c.pairs c.is rows r t called
      (λ v lw k is e o h. many-did rows lw c.d c.ds v (home-later s v k p (map_home p) round) is (rows-later s v k c.behind) e o h)

-- by the text
module _ (w : PlainSetting) (knows : Knows w.codes) (f l m : Value) (ms : List Value) (s : WorldState) where
  abbrev outside : WorldState
  outside = with_cell (cell.Scope [] None) s

  abbrev home_at : Place
  home_at = next_place outside

  abbrev ready : WorldState
  ready = with_cell (cell.Scope (map_home home_at) (Some (next_place s))) outside

  abbrev kept : WorldState
  kept = with_rest (m ∷ ms) ready

  abbrev rest : Value
  rest = rest_list (m ∷ ms) ready

  abbrev entries : Entries
  entries = (label 17, Some f) ∷ (label 18, Some l) ∷ (label 19, Some rest) ∷ []

  abbrev inner : WorldState
  inner = with_cell (cell.Scope entries (Some home_at)) kept

  abbrev place : Place
  place = next_place kept

  -- the list of the lists, and the state in which the loop is called on it
  abbrev lists : Value
  lists = next_pair w inner

  abbrev begun : WorldState
  begun = with_cell (cell.Pair l rest) inner

  kept-inner : LaterWorld kept inner
  kept-inner = later_with kept (cell.Scope entries (Some home_at))

  inner-begun : LaterWorld inner begun
  inner-begun = later_with inner (cell.Pair l rest)

  ready-kept : LaterWorld ready kept
  ready-kept = rest-later (m ∷ ms) ready

  far-begun : LaterWorld s begun
  far-begun =
      later_then s outside begun (later_with s (cell.Scope [] None))
      (later_then outside ready begun (later_with outside (cell.Scope (map_home home_at) (Some (next_place s))))
      (later_then ready kept begun ready-kept (later_then kept inner begun kept-inner inner-begun)))

  home-ready : Home ready.cells home_at (map_home home_at)
  home-ready = record { around = Some (next_place s); is = slice_get-added outside.cells (cell.Scope (map_home home_at) (Some (next_place s))) }

  inside-inner : Inside inner.cells place entries home_at (map_home home_at)
  inside-inner = entered-inside kept entries home_at (map_home home_at) (home-later ready kept ready-kept home_at (map_home home_at) home-ready)

  home-begun : Home begun.cells home_at (map_home home_at)
  home-begun = home-later ready begun (later_then ready kept begun ready-kept (later_then kept inner begun kept-inner inner-begun)) home_at (map_home home_at) home-ready

  lists-are : IsList begun.cells (l ∷ m ∷ ms) lists
  lists-are = list-more inner.cells l rest (m ∷ ms) (list-later kept inner kept-inner (m ∷ ms) rest (rest-is (m ∷ ms) ready))

  entered-iff : has_text names.MAP ≡ true → (e : CallEnd) (t : WorldState)
      → Iff (CallEnds w (call_to (value.Prim (record { 0 = names.MAP })) (f ∷ l ∷ m ∷ ms)) s e t) (CallEnds w (call_to (value.Closure (code_no 9) home_at) (f ∷ lists ∷ [])) begun e t)
  entered-iff is_text e t =
      iff-then
      (text-iff w (record { 0 = names.MAP }) (f ∷ l ∷ m ∷ ms) s ready t (text_code names.MAP map_text) map_text (code_no 15) home_at e refl is_text knows.map_text refl (text-is w s))
      (iff-then
      (case-iff w (code_no 15) home_at (f ∷ l ∷ m ∷ ms) ready (procedure_code (code_no 15) (one_case (17 ∷ 18 ∷ []) (Some 19) map_body) true) (formals (17 ∷ 18 ∷ []) (Some 19)) map_body e t knows.map_body
      (ap (λ h. if h then Some (formals (17 ∷ 18 ∷ []) (Some 19), map_body) else None) (two-and-more (length (m ∷ ms)))))
      (iff-then
      (false-iff w _ _ _ place inner inner (truth false) e t (null-is w (var 19) place inner inner rest (own w inner place entries home_at (map_home home_at) inside-inner (label 19) rest refl) false refl) refl)
      (two-iff w (var 3) (var 17) (cons (var 18) (var 19)) place inner inner inner begun t (value.Closure (code_no 9) home_at) f lists e
      (outer w inner place entries home_at (map_home home_at) inside-inner (label 3) (value.Closure (code_no 9) home_at) refl refl)
      (own w inner place entries home_at (map_home home_at) inside-inner (label 17) f refl)
      (cons-is w (var 18) place inner inner l (own w inner place entries home_at (map_home home_at) inside-inner (label 18) l refl) (var 19) rest inner (own w inner place entries home_at (map_home home_at) inside-inner (label 19) rest refl)))))

  module _ (rows : List (List Value)) (r : InRows s.cells rows (l ∷ m ∷ ms)) where
    pub map-ended : AllEnd w f rows s → (e : CallEnd) × (t : WorldState) × CallEnds w (call_to (value.Prim (record { 0 = names.MAP })) (f ∷ l ∷ m ∷ ms)) s e t × MapDid w f rows s e t
    unfolding has_text
    map-ended give =
        let d = many-ends w knows f home_at rows lists l (m ∷ ms) begun home-begun lists-are (rows-later s begun far-begun r) (all-end-later w f rows s begun far-begun give) in
        (d.0, d.1, (entered-iff refl d.0 d.1).1 d.2, did-from w f rows d.0 s begun d.1 far-begun d.3)

    pub map-only : (e : CallEnd) (t : WorldState) → CallEnds w (call_to (value.Prim (record { 0 = names.MAP })) (f ∷ l ∷ m ∷ ms)) s e t → MapDid w f rows s e t
    unfolding has_text
    map-only e t called =
        did-from w f rows e s begun t far-begun
        (many-did w knows f home_at rows lists l (m ∷ ms) begun home-begun lists-are (rows-later s begun far-begun r) e t ((entered-iff refl e t).0 called))
