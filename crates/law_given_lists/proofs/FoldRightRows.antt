-- `fold-right` on lists, by its text.
use Rattle.std.proofs.Common.{◌≡◌, List, [], ◌∷◌, ◌++◌, Some, None, Bool, true, false, ◌≤◌, Ok, Err, refl, ap, subst, inl, inr, arith}
use Rattle.std.specs.Prelude.{◌⊎◌}
use Rattle.base_data.specs.declared.fault.Bare.{Bare}
use Rattle.base_data.specs.declared.op.names.TheConstants as ops
use Rattle.base_region.specs.declared.region.Place.{Place}
use Rattle.core_language.specs.Core.{PlainCore, none}
use Rattle.eval_value.specs.FromDatum.{pairs_stored}
use Rattle.eval_value.specs.declared.value.Value.{Value}
use Rattle.eval_value.specs.declared.value.Value.TheVariants as value
use Rattle.eval_value.specs.declared.cell.Cell.{Cell}
use Rattle.eval_value.specs.declared.cell.Cell.TheVariants as cell
use Rattle.eval_value.proofs.Stored.{pairs_keep}
use Rattle.eval_prims.specs.Answers.{truth}
use Rattle.eval_prims.specs.Chains.{pair_of, is_nil, list_elements}
use Rattle.eval_prims.specs.Lists.{nil}
use Rattle.eval_code.specs.Codes.{procedure_code}
use Rattle.eval_code.specs.Meaning.{eval_of, operands}
use Rattle.eval_code.specs.Procedures.{has_text}
use Rattle.eval_code.specs.Setting.{PlainSetting}
use Rattle.eval_code.specs.State.{WorldState, Go, store, next_place, with_cell}
use Rattle.eval_code.specs.Variables.{Entries}
use Rattle.law_eval.specs.Kept.{LaterWorld}
use Rattle.law_eval.proofs.Keeping.{later_then, later_with}
use Rattle.law_lists.specs.Runs.{Runs, here, next, IsList}
use Rattle.law_lists.proofs.RunLemmas.{stored_runs, runs_stored}
use Rattle.law_given.specs.Calls.{CallEnd, call_to, call_of, CallEnds, Calls}
use Rattle.law_given.specs.Codes.{label, code_no, var, prim, formals, one_case, app, car, cars, cdrs, first_is_null, fold_right_args, fold_right_loop}
use Rattle.law_given.proofs.Giving.{Evaluates, ExpressionEnds, primitive-is, call-two}
use Rattle.law_given.proofs.Inside.{Inside, Home, one_home, home-later, inside-later, entered-inside, own, outer}
use Rattle.law_given.proofs.Knows.{Knows}
use Rattle.law_given.proofs.Later.{calls-later, list-later}
use Rattle.law_given.proofs.LoopText.{home_place}
use Rattle.law_given.proofs.MapOne.{list-some, list-more}
use Rattle.law_given.proofs.Primitives.{pair-not-nil, next_pair, null-is, car-is, list-is, appended}
use Rattle.law_given.proofs.Unique.{ends-one-end, ends-one-state}
use Rattle.law_given_lists.specs.RowCalls.{FoldRightByRows, right_end, right_step, right_stops, FoldRightEnds}
use Rattle.law_given_lists.specs.Rows.{Pairs, InRows}
use Rattle.law_given_lists.proofs.Elements.{elements-of}
use Rattle.law_given_lists.proofs.FoldText as text
use Rattle.law_given_lists.proofs.FoldText.{FoldNames}
use Rattle.law_given_lists.proofs.Moving.{right-from, right-ends-later}
use Rattle.law_given_lists.proofs.RowLemmas.{pairs-later, rows-later, rows-none, rows-some}
use Rattle.law_given_lists.proofs.RowParts.{Listed, cars-given, cdrs-given, cars-later, cdrs-later, cars-is, cdrs-is}
use Rattle.law_given_lists.proofs.Splitting.{Iff, iff-then, Split, went, stopped}
use Rattle.law_given_lists.proofs.Steps.{true-iff, false-iff, first-iff, second-iff, two-iff, three-iff, apply-iff, closure-iff, case-iff}

-- one list behind another
runs-joined : {cells : List Cell} {xs ys : List Value} {rest x : Value} → Runs cells xs rest x → IsList cells ys rest → IsList cells (xs ++ ys) x
runs-joined here r = r
runs-joined (next e q) r = next e (runs-joined q r)

module _ (w : PlainSetting) (knows : Knows w.codes) (f z : Value) (p : Place) where
  abbrev home : Entries
  home = one_home (label 109) (code_no 110) p

  abbrev g : Value
  g = value.Closure (code_no 110) p

  -- the loop on a list of lists that stand in rows
  abbrev Folds : List (List Value) → Value → WorldState → Type 0
  Folds rows lv s = (r : CallEnd) × (t : WorldState) × CallEnds w (call_to g (f ∷ z ∷ lv ∷ [])) s r t × FoldRightByRows w f z rows s r t

  module _ (lv l : Value) (ls : List Value) (s : WorldState) (round : Home s.cells p home) (lists : IsList s.cells (l ∷ ls) lv) where
    abbrev vars : Entries
    vars = (label 112, Some f) ∷ (label 113, Some z) ∷ (label 114, Some lv) ∷ []

    abbrev at : WorldState
    at = with_cell (cell.Scope vars (Some p)) s

    abbrev q : Place
    q = next_place s

    enter : LaterWorld s at
    enter = later_with s (cell.Scope vars (Some p))

    body-iff : (r : CallEnd) (t : WorldState) → Iff (CallEnds w (call_to g (f ∷ z ∷ lv ∷ [])) s r t) (ExpressionEnds w fold_right_loop q at r t)
    body-iff r t =
        iff-then (closure-iff w (code_no 110) p (f ∷ z ∷ lv ∷ []) s r t)
        (case-iff w (code_no 110) p (f ∷ z ∷ lv ∷ []) s (procedure_code (code_no 110) (one_case (112 ∷ 113 ∷ 114 ∷ []) None fold_right_loop) true) (formals (112 ∷ 113 ∷ 114 ∷ []) None) fold_right_loop r t knows.fold_right_loop refl)

    inside : Inside at.cells q vars p home
    inside = entered-inside s vars p home round

    lists-at : IsList at.cells (l ∷ ls) lv
    lists-at = list-later s at enter (l ∷ ls) lv lists

    list-read : Evaluates w (var 114) q at lv at
    list-read = own w at q vars p home inside (label 114) lv refl

    first-null : (b : Bool) → is_nil l ≡ b → Evaluates w (first_is_null (var 114)) q at (truth b) at
    first-null b e = let c = list-some lists-at in null-is w (car (var 114)) q at at l (car-is w (var 114) q at at lv list-read l c.0 c.1) b e

    nothing : l ≡ nil → Calls w (call_to g (f ∷ z ∷ lv ∷ [])) s z at
    nothing e =
        (body-iff (Ok z) at).1
        ((true-iff w _ _ _ q at at (truth true) (Ok z) at (first-null true (ap is_nil e)) refl).1 (own w at q vars p home inside (label 113) z refl))

    module _ (row : List Value) (x d : Value) (ds : List Value) (pairs : Pairs s.cells row (d ∷ ds) (l ∷ ls)) (pair : pair_of s.cells l ≡ Some (x, d)) where
      pairs-at : Pairs at.cells row (d ∷ ds) (l ∷ ls)
      pairs-at = pairs-later s at enter pairs

      -- (map car ls)
      abbrev asked : Listed w (value.Prim (record { 0 = ops.MAP })) (value.Prim (record { 0 = ops.CAR }) ∷ lv ∷ []) at row
      asked = cars-given w knows at lv (l ∷ ls) lists-at row (d ∷ ds) pairs-at

      asked-at : LaterWorld at asked.state
      asked-at = cars-later w knows at lv (l ∷ ls) lists-at row (d ∷ ds) pairs-at

      inside-asked : Inside asked.state.cells q vars p home
      inside-asked = inside-later at asked.state asked-at q vars p home inside

      lists-asked : IsList asked.state.cells (l ∷ ls) lv
      lists-asked = list-later at asked.state asked-at (l ∷ ls) lv lists-at

      pairs-asked : Pairs asked.state.cells row (d ∷ ds) (l ∷ ls)
      pairs-asked = pairs-later at asked.state asked-at pairs-at

      -- (map cdr ls), on which the loop goes on
      abbrev left : Listed w (value.Prim (record { 0 = ops.MAP })) (value.Prim (record { 0 = ops.CDR }) ∷ lv ∷ []) asked.state (d ∷ ds)
      left = cdrs-given w knows asked.state lv (l ∷ ls) lists-asked row (d ∷ ds) pairs-asked

      left-asked : LaterWorld asked.state left.state
      left-asked = cdrs-later w knows asked.state lv (l ∷ ls) lists-asked row (d ∷ ds) pairs-asked

      far : LaterWorld s left.state
      far = later_then s at left.state enter (later_then at asked.state left.state asked-at left-asked)

      abbrev again : PlainCore
      again = app (var 109) (var 112 ∷ var 113 ∷ cdrs (var 114) ∷ [])

      abbrev in_list : PlainCore
      in_list = app (prim ops.LIST) (again ∷ [])

      again-iff : (r : CallEnd) (t : WorldState) → Iff (ExpressionEnds w again q asked.state r t) (CallEnds w (call_to g (f ∷ z ∷ left.value ∷ [])) left.state r t)
      again-iff r t =
          three-iff w (var 109) (var 112) (var 113) (cdrs (var 114)) q asked.state asked.state asked.state asked.state left.state t g f z left.value r
          (outer w asked.state q vars p home inside-asked (label 109) g refl refl)
          (own w asked.state q vars p home inside-asked (label 112) f refl) (own w asked.state q vars p home inside-asked (label 113) z refl)
          (cdrs-is w knows asked.state lv (l ∷ ls) lists-asked row (d ∷ ds) pairs-asked (var 114) q (own w asked.state q vars p home inside-asked (label 114) lv refl))

      -- (list (go f z (map cdr ls)))
      list-iff : (r : CallEnd) (t : WorldState) → Iff (ExpressionEnds w in_list q asked.state r t) (Split (eval_of w again q asked.state) (λ v. operands w (eval_of w) none q ((value.Prim (record { 0 = ops.LIST }) ∷ []) ++ v ∷ [])) r t)
      list-iff r t = first-iff w (prim ops.LIST) again none q asked.state asked.state (value.Prim (record { 0 = ops.LIST })) r t (primitive-is w (record { 0 = ops.LIST }) q asked.state)

      cars-read : Evaluates w (cars (var 114)) q at asked.value asked.state
      cars-read = cars-is w knows at lv (l ∷ ls) lists-at row (d ∷ ds) pairs-at (var 114) q list-read

      -- (append (map car ls) (list ..))
      args-iff : (r : CallEnd) (t : WorldState)
          → Iff (ExpressionEnds w fold_right_args q at r t) (Split (eval_of w in_list q asked.state) (λ v. operands w (eval_of w) none q ((value.Prim (record { 0 = ops.APPEND }) ∷ asked.value ∷ []) ++ v ∷ [])) r t)
      args-iff r t = second-iff w (prim ops.APPEND) (cars (var 114)) in_list none q at at asked.state (value.Prim (record { 0 = ops.APPEND })) asked.value r t (primitive-is w (record { 0 = ops.APPEND }) q at) cars-read

      abbrev go_on : Go
      go_on = λ v. operands w (eval_of w) none q ((value.Prim (record { 0 = ops.APPLY }) ∷ f ∷ []) ++ v ∷ [])

      not-empty : (r : CallEnd) (t : WorldState) → Iff (CallEnds w (call_to g (f ∷ z ∷ lv ∷ [])) s r t) (ExpressionEnds w (app (prim ops.APPLY) (var 112 ∷ fold_right_args ∷ [])) q at r t)
      not-empty r t = iff-then (body-iff r t) (false-iff w _ _ _ q at at (truth false) r t (first-null false (pair-not-nil s.cells l x d pair)) refl)

      next-iff : (r : CallEnd) (t : WorldState) → Iff (CallEnds w (call_to g (f ∷ z ∷ lv ∷ [])) s r t) (Split (eval_of w fold_right_args q at) go_on r t)
      next-iff r t =
          iff-then (not-empty r t)
          (second-iff w (prim ops.APPLY) (var 112) fold_right_args none q at at at (value.Prim (record { 0 = ops.APPLY })) f r t (primitive-is w (record { 0 = ops.APPLY }) q at) (own w at q vars p home inside (label 112) f refl))

      -- where the loop gives a value
      module _ (y : Value) (u : WorldState) (called : Calls w (call_to g (f ∷ z ∷ left.value ∷ [])) left.state y u) where
        -- the list of it, and the row before it
        abbrev listed : WorldState
        listed = with_cell (cell.Pair y nil) u

        abbrev joined : WorldState
        joined = store (pairs_stored row (next_pair w u, listed.cells)).1 listed.names

        abbrev arguments : Value
        arguments = (pairs_stored row (next_pair w u, listed.cells)).0

        joined-listed : LaterWorld listed joined
        joined-listed = record { cells = pairs_keep row (next_pair w u, listed.cells); library = refl; names = later-names listed }
          where
            later-names : (t : WorldState) → t.names.number ≤ t.names.number
            later-names t = omega arith

        joined-later : LaterWorld u joined
        joined-later = later_then u listed joined (later_with u (cell.Pair y nil)) joined-listed

        last-one : IsList listed.cells (y ∷ []) (next_pair w u)
        last-one = list-more u.cells y nil [] here

        arguments-are : IsList joined.cells (row ++ y ∷ []) arguments
        arguments-are = runs-joined (stored_runs row (next_pair w u) listed.cells) (runs_stored row (next_pair w u) listed.cells last-one)

        row-elements : list_elements listed.cells asked.value ≡ Some row
        row-elements =
            let behind = later_then asked.state u listed (later_then asked.state left.state u left-asked (calls-later w g (f ∷ z ∷ left.value ∷ []) left.state y u called)) (later_with u (cell.Pair y nil)) in
            elements-of listed.cells row asked.value (list-later asked.state listed behind row asked.value asked.list)

        gathered : Evaluates w fold_right_args q at arguments joined
        gathered =
            call-two w (prim ops.APPEND) (cars (var 114)) in_list q at at asked.state listed joined (value.Prim (record { 0 = ops.APPEND })) asked.value (next_pair w u) arguments
            (primitive-is w (record { 0 = ops.APPEND }) q at) cars-read
            (list-is w again q asked.state u y ((again-iff (Ok y) u).1 called))
            (appended w asked.value (next_pair w u) row listed row-elements)

        value-iff : (r : CallEnd) (t : WorldState) → Iff (CallEnds w (call_to g (f ∷ z ∷ lv ∷ [])) s r t) (CallEnds w (call_to f (row ++ y ∷ [])) joined r t)
        value-iff r t =
            iff-then (not-empty r t)
            (iff-then (two-iff w (prim ops.APPLY) (var 112) fold_right_args q at at at joined t (value.Prim (record { 0 = ops.APPLY })) f arguments r
            (primitive-is w (record { 0 = ops.APPLY }) q at) (own w at q vars p home inside (label 112) f refl) gathered)
            (apply-iff w f [] (row ++ y ∷ []) arguments joined r t (elements-of joined.cells (row ++ y ∷ []) arguments arguments-are)))

      -- where it faults
      fault-ends : (e : Bare) (u : WorldState) → CallEnds w (call_to g (f ∷ z ∷ left.value ∷ [])) left.state (Err e) u → CallEnds w (call_to g (f ∷ z ∷ lv ∷ [])) s (Err e) u
      fault-ends e u h = (next-iff (Err e) u).1 (stopped ((args-iff (Err e) u).1 (stopped ((list-iff (Err e) u).1 (stopped ((again-iff (Err e) u).1 h))))))

      next-ends : (rows : List (List Value)) → Folds rows left.value left.state
          → ((y : Value) (t u : WorldState) → FoldRightByRows w f z rows s (Ok y) t → LaterWorld t u → (r : CallEnd) × (v : WorldState) × CallEnds w (call_to f (row ++ y ∷ [])) u r v) → Folds (row ∷ rows) lv s
      next-ends rows m give = by m.0 m.1 m.2 (right-from w f z rows m.0 s left.state m.1 far m.3)
        where
          by : (r : CallEnd) (t : WorldState) → CallEnds w (call_to g (f ∷ z ∷ left.value ∷ [])) left.state r t → FoldRightByRows w f z rows s r t → Folds (row ∷ rows) lv s
          by (Err e) t h fold = (Err e, t, fault-ends e t h, right_stops fold)
          by (Ok y) t h fold =
              let made = give y t (joined y t h) fold (joined-later y t h) in
              (made.0, made.1, (value-iff y t h made.0 made.1).1 made.2, right_step fold (joined-later y t h) made.2)

      -- what the loop came to, where the arguments came to something

      abbrev LoopCame : CallEnd → WorldState → Type 0
      LoopCame r t = ((y : Value) × (u : WorldState) × Calls w (call_to g (f ∷ z ∷ left.value ∷ [])) left.state y u) ⊎ ((e : Bare) × (Err e ≡ r) × CallEnds w (call_to g (f ∷ z ∷ left.value ∷ [])) left.state (Err e) t)

      of-list : (r : CallEnd) (t : WorldState) → Split (eval_of w again q asked.state) (λ v. operands w (eval_of w) none q ((value.Prim (record { 0 = ops.LIST }) ∷ []) ++ v ∷ [])) r t → LoopCame r t
      of-list r t (went y u h onward) = inl (y, u, (again-iff (Ok y) u).0 h)
      of-list r t (stopped {e = e} h) = inr (e, refl, (again-iff (Err e) t).0 h)

      gave : (r : CallEnd) (t : WorldState) (v : Value) → LoopCame (Ok v) t → (y : Value) × (u : WorldState) × Calls w (call_to g (f ∷ z ∷ left.value ∷ [])) left.state y u
      gave r t v (inl h) = h
      gave r t v (inr h) = let wrong : Err h.0 ≡ Ok v = h.1 in absurd (cc)

      of-args : (r : CallEnd) (t : WorldState) → Split (eval_of w in_list q asked.state) (λ v. operands w (eval_of w) none q ((value.Prim (record { 0 = ops.APPEND }) ∷ asked.value ∷ []) ++ v ∷ [])) r t → LoopCame r t
      of-args r t (went v u h onward) = inl (gave (Ok v) u v (of-list (Ok v) u ((list-iff (Ok v) u).0 h)))
      of-args r t (stopped {e = e} h) = of-list (Err e) t ((list-iff (Err e) t).0 h)

      next-did : (rows : List (List Value)) (r : CallEnd) (t : WorldState) → CallEnds w (call_to g (f ∷ z ∷ lv ∷ [])) s r t
          → ((e : CallEnd) (o : WorldState) → CallEnds w (call_to g (f ∷ z ∷ left.value ∷ [])) left.state e o → FoldRightByRows w f z rows left.state e o) → FoldRightByRows w f z (row ∷ rows) s r t
      next-did rows r t called more = of-split r t called ((next-iff r t).0 called)
        where
          by-value : (r : CallEnd) (t : WorldState) → CallEnds w (call_to g (f ∷ z ∷ lv ∷ [])) s r t → (y : Value) (u : WorldState) → Calls w (call_to g (f ∷ z ∷ left.value ∷ [])) left.state y u → FoldRightByRows w f z (row ∷ rows) s r t
          by-value r t called y u h = right_step (right-from w f z rows (Ok y) s left.state u far (more (Ok y) u h)) (joined-later y u h) ((value-iff y u h r t).0 called)

          by : (r : CallEnd) (t : WorldState) → CallEnds w (call_to g (f ∷ z ∷ lv ∷ [])) s r t → LoopCame r t → FoldRightByRows w f z (row ∷ rows) s r t
          by r t called (inl h) = by-value r t called h.0 h.1 h.2
          by r t called (inr h) =
              subst (λ a. FoldRightByRows w f z (row ∷ rows) s a t) h.1 (right_stops (right-from w f z rows (Err h.0) s left.state t far (more (Err h.0) t h.2)))

          of-split : (r : CallEnd) (t : WorldState) → CallEnds w (call_to g (f ∷ z ∷ lv ∷ [])) s r t → Split (eval_of w fold_right_args q at) go_on r t → FoldRightByRows w f z (row ∷ rows) s r t
          of-split r t called (stopped {e = e} h) = by (Err e) t called (of-args (Err e) t ((args-iff (Err e) t).0 h))
          of-split r t called (went v u h onward) = let k = gave (Ok v) u v (of-args (Ok v) u ((args-iff (Ok v) u).0 h)) in by-value r t called k.0 k.1 k.2

  fold-right-ends : (rows : List (List Value)) (lv l : Value) (ls : List Value) (s : WorldState) → Home s.cells p home → IsList s.cells (l ∷ ls) lv → InRows s.cells rows (l ∷ ls)
      → FoldRightEnds w f z rows s → Folds rows lv s
  fold-right-ends [] lv l ls s round lists r give = (Ok z, at lv l ls s round lists, nothing lv l ls s round lists (rows-none r), right_end (enter lv l ls s round lists))
  fold-right-ends (row ∷ rows) lv l ls s round lists r give =
      let c = rows-some r in
      let k = far lv l ls s round lists row c.x c.d c.ds c.pairs c.is in
      let next = left lv l ls s round lists row c.x c.d c.ds c.pairs c.is in
      next-ends lv l ls s round lists row c.x c.d c.ds c.pairs c.is rows
      (fold-right-ends rows next.value c.d c.ds next.state (home-later s next.state k p home round) next.list (rows-later s next.state k c.behind) (right-ends-later w f z rows s next.state k give.0)) give.1

  -- whatever a call came to, it did so
  fold-right-did : (rows : List (List Value)) (lv l : Value) (ls : List Value) (s : WorldState) → Home s.cells p home → IsList s.cells (l ∷ ls) lv → InRows s.cells rows (l ∷ ls)
      → (r : CallEnd) (t : WorldState) → CallEnds w (call_to g (f ∷ z ∷ lv ∷ [])) s r t → FoldRightByRows w f z rows s r t
  fold-right-did [] lv l ls s round lists rs r t called =
      let done = nothing lv l ls s round lists (rows-none rs) in
      subst (λ a. FoldRightByRows w f z [] s r a) (ends-one-state (call_of w (call_to g (f ∷ z ∷ lv ∷ [])) s) (Ok z) r (at lv l ls s round lists) t done called)
      (subst (λ a. FoldRightByRows w f z [] s a (at lv l ls s round lists)) (ends-one-end (call_of w (call_to g (f ∷ z ∷ lv ∷ [])) s) (Ok z) r (at lv l ls s round lists) t done called) (right_end (enter lv l ls s round lists)))
  fold-right-did (row ∷ rows) lv l ls s round lists rs r t called =
      let c = rows-some rs in
      let k = far lv l ls s round lists row c.x c.d c.ds c.pairs c.is in
      let next = left lv l ls s round lists row c.x c.d c.ds c.pairs c.is in
      next-did lv l ls s round lists row c.x c.d c.ds c.pairs c.is rows r t called
      (λ e o h. fold-right-did rows next.value c.d c.ds next.state (home-later s next.state k p home round) next.list (rows-later s next.state k c.behind) e o h)

module _ (w : PlainSetting) (knows : Knows w.codes) (f z l : Value) (ls : List Value) (rows : List (List Value)) (s : WorldState) (r : InRows s.cells rows (l ∷ ls)) where
  abbrev enter_names : FoldNames 109 119 120 121 122 (value.Closure (code_no 110) (home_place w s 109 110))
  enter_names = record { procedure = λ f z l ls. refl; start = λ f z l ls. refl; list = λ f z l ls. refl; lists = λ f z l ls. refl; no_loop = λ f z l ls. refl; loop = refl }

  module _ (is_text : has_text ops.FOLD_RIGHT ≡ true) where
    abbrev begun : WorldState
    begun = text.loop_state w s 109 110 ops.FOLD_RIGHT 117 119 120 121 122 112 113 114 fold_right_loop refl refl is_text enter_names knows.fold_right_text knows.fold_right_body f z l ls

    abbrev lv : Value
    lv = text.lists_value w s 109 110 ops.FOLD_RIGHT 117 119 120 121 122 112 113 114 fold_right_loop refl refl is_text enter_names knows.fold_right_text knows.fold_right_body f z l ls

    far-begun : LaterWorld s begun
    far-begun = text.loop-later w s 109 110 ops.FOLD_RIGHT 117 119 120 121 122 112 113 114 fold_right_loop refl refl is_text enter_names knows.fold_right_text knows.fold_right_body f z l ls

    begun-home : Home begun.cells (home_place w s 109 110) (one_home (label 109) (code_no 110) (home_place w s 109 110))
    begun-home = text.loop-home w s 109 110 ops.FOLD_RIGHT 117 119 120 121 122 112 113 114 fold_right_loop refl refl is_text enter_names knows.fold_right_text knows.fold_right_body f z l ls

    begun-lists : IsList begun.cells (l ∷ ls) lv
    begun-lists = text.lists-are w s 109 110 ops.FOLD_RIGHT 117 119 120 121 122 112 113 114 fold_right_loop refl refl is_text enter_names knows.fold_right_text knows.fold_right_body f z l ls

    begun-iff : (e : CallEnd) (t : WorldState) → Iff (CallEnds w (call_to (value.Prim (record { 0 = ops.FOLD_RIGHT })) (f ∷ z ∷ l ∷ ls)) s e t) (CallEnds w (call_to (value.Closure (code_no 110) (home_place w s 109 110)) (f ∷ z ∷ lv ∷ [])) begun e t)
    begun-iff = text.entered-iff w s 109 110 ops.FOLD_RIGHT 117 119 120 121 122 112 113 114 fold_right_loop refl refl is_text enter_names knows.fold_right_text knows.fold_right_body f z l ls

    ended-by : FoldRightEnds w f z rows s → (e : CallEnd) × (t : WorldState) × CallEnds w (call_to (value.Prim (record { 0 = ops.FOLD_RIGHT })) (f ∷ z ∷ l ∷ ls)) s e t × FoldRightByRows w f z rows s e t
    ended-by give =
        let m = fold-right-ends w knows f z (home_place w s 109 110) rows lv l ls begun begun-home begun-lists (rows-later s begun far-begun r) (right-ends-later w f z rows s begun far-begun give) in
        (m.0, m.1, (begun-iff m.0 m.1).1 m.2, right-from w f z rows m.0 s begun m.1 far-begun m.3)

    did-by : (e : CallEnd) (t : WorldState) → CallEnds w (call_to (value.Prim (record { 0 = ops.FOLD_RIGHT })) (f ∷ z ∷ l ∷ ls)) s e t → FoldRightByRows w f z rows s e t
    did-by e t called =
        right-from w f z rows e s begun t far-begun
        (fold-right-did w knows f z (home_place w s 109 110) rows lv l ls begun begun-home begun-lists (rows-later s begun far-begun r) e t ((begun-iff e t).0 called))

  pub fold-right-ended : FoldRightEnds w f z rows s → (e : CallEnd) × (t : WorldState) × CallEnds w (call_to (value.Prim (record { 0 = ops.FOLD_RIGHT })) (f ∷ z ∷ l ∷ ls)) s e t × FoldRightByRows w f z rows s e t
  unfolding has_text
  fold-right-ended give = ended-by refl give

  pub fold-right-only : (e : CallEnd) (t : WorldState) → CallEnds w (call_to (value.Prim (record { 0 = ops.FOLD_RIGHT })) (f ∷ z ∷ l ∷ ls)) s e t → FoldRightByRows w f z rows s e t
  unfolding has_text
  fold-right-only e t called = did-by refl e t called
