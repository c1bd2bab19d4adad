-- `fold-left` on lists, by its text.
use Rattle.std.proofs.Common.{◌≡◌, List, [], ◌∷◌, ◌++◌, Some, None, Bool, true, false, Ok, Err, refl, ap, subst}
use Rattle.base_data.specs.declared.op.names.TheConstants as names
use Rattle.base_region.specs.declared.region.Place.{Place}
use Rattle.core_language.specs.Core.{PlainCore, none, more}
use Rattle.eval_value.specs.declared.value.Value.{Value}
use Rattle.eval_value.specs.declared.value.Value.TheVariants as value
use Rattle.eval_value.specs.declared.cell.Cell.TheVariants as cell
use Rattle.eval_prims.specs.Answers.{truth}
use Rattle.eval_prims.specs.Chains.{pair_of, is_nil}
use Rattle.eval_prims.specs.Lists.{nil}
use Rattle.eval_code.specs.Codes.{procedure_code}
use Rattle.eval_code.specs.Meaning.{eval_of, operands}
use Rattle.eval_code.specs.Procedures.{has_text}
use Rattle.eval_code.specs.Setting.{PlainSetting}
use Rattle.eval_code.specs.State.{WorldState, Go, next_place, with_cell}
use Rattle.eval_code.specs.Variables.{Entries}
use Rattle.law_eval.specs.Kept.{LaterWorld}
use Rattle.law_eval.proofs.Keeping.{later_then, later_with}
use Rattle.law_lists.specs.Runs.{IsList}
use Rattle.law_given.specs.Calls.{CallEnd, Ends, call_to, call_of, CallEnds, Calls}
use Rattle.law_given.specs.Codes.{label, code_no, var, prim, formals, one_case, app, car, cars, cdrs, first_is_null, fold_left_loop}
use Rattle.law_given.proofs.Giving.{Evaluates, ExpressionEnds, primitive-is}
use Rattle.law_given.proofs.Inside.{Inside, Home, one_home, home-later, inside-later, entered-inside, own, outer}
use Rattle.law_given.proofs.Knows.{Knows}
use Rattle.law_given.proofs.Later.{calls-later, list-later}
use Rattle.law_given.proofs.LoopText.{home_place}
use Rattle.law_given.proofs.MapOne.{list-some}
use Rattle.law_given.proofs.Primitives.{pair-not-nil, null-is, car-is}
use Rattle.law_given.proofs.Unique.{ends-one-end, ends-one-state}
use Rattle.law_given_lists.specs.RowCalls.{AfterValue, FoldLeftByRows, left_end, left_step, left_stops, FoldLeftEnds}
use Rattle.law_given_lists.specs.Rows.{Pairs, InRows}
use Rattle.law_given_lists.proofs.Elements.{elements-of}
use Rattle.law_given_lists.proofs.FoldText as text
use Rattle.law_given_lists.proofs.FoldText.{FoldNames}
use Rattle.law_given_lists.proofs.Moving.{left-from, left-ends-later}
use Rattle.law_given_lists.proofs.RowLemmas.{pairs-later, rows-later, rows-none, rows-some}
use Rattle.law_given_lists.proofs.RowParts.{Listed, cars-given, cdrs-given, cars-later, cdrs-later, cars-is, cdrs-is}
use Rattle.law_given_lists.proofs.Splitting.{Iff, iff-then, Real, Split, went, stopped}
use Rattle.law_given_lists.proofs.Steps.{call-real, true-iff, false-iff, second-iff, last-iff, three-iff, apply-iff, closure-iff, case-iff}

module _ (w : PlainSetting) (knows : Knows w.codes) (f : Value) (p : Place) where
  abbrev home : Entries
  home = one_home (label 93) (code_no 94) p

  abbrev g : Value
  g = value.Closure (code_no 94) p

  -- the loop on a value and a list of lists that stand in rows
  abbrev Folds : Value → List (List Value) → Value → WorldState → Type 0
  Folds z rows lv s = (r : CallEnd) × (t : WorldState) × CallEnds w (call_to g (f ∷ z ∷ lv ∷ [])) s r t × FoldLeftByRows w f z rows s r t

  module _ (z lv l : Value) (ls : List Value) (s : WorldState) (round : Home s.cells p home) (lists : IsList s.cells (l ∷ ls) lv) where
    abbrev vars : Entries
    vars = (label 96, Some f) ∷ (label 97, Some z) ∷ (label 98, Some lv) ∷ []

    abbrev at : WorldState
    at = with_cell (cell.Scope vars (Some p)) s

    abbrev q : Place
    q = next_place s

    enter : LaterWorld s at
    enter = later_with s (cell.Scope vars (Some p))

    body-iff : (r : CallEnd) (t : WorldState) → Iff (CallEnds w (call_to g (f ∷ z ∷ lv ∷ [])) s r t) (ExpressionEnds w fold_left_loop q at r t)
    body-iff r t =
        iff-then (closure-iff w (code_no 94) p (f ∷ z ∷ lv ∷ []) s r t)
        (case-iff w (code_no 94) p (f ∷ z ∷ lv ∷ []) s (procedure_code (code_no 94) (one_case (96 ∷ 97 ∷ 98 ∷ []) None fold_left_loop) true) (formals (96 ∷ 97 ∷ 98 ∷ []) None) fold_left_loop r t knows.fold_left_loop refl)

    inside : Inside at.cells q vars p home
    inside = entered-inside s vars p home round

    lists-at : IsList at.cells (l ∷ ls) lv
    lists-at = list-later s at enter (l ∷ ls) lv lists

    list-read : Evaluates w (var 98) q at lv at
    list-read = own w at q vars p home inside (label 98) lv refl

    first-null : (b : Bool) → is_nil l ≡ b → Evaluates w (first_is_null (var 98)) q at (truth b) at
    first-null b e = let c = list-some lists-at in null-is w (car (var 98)) q at at l (car-is w (var 98) q at at lv list-read l c.0 c.1) b e

    nothing : l ≡ nil → Calls w (call_to g (f ∷ z ∷ lv ∷ [])) s z at
    nothing e =
        (body-iff (Ok z) at).1
        ((true-iff w _ _ _ q at at (truth true) (Ok z) at (first-null true (ap is_nil e)) refl).1 (own w at q vars p home inside (label 97) z refl))

    module _ (row : List Value) (x d : Value) (ds : List Value) (pairs : Pairs s.cells row (d ∷ ds) (l ∷ ls)) (pair : pair_of s.cells l ≡ Some (x, d)) where
      pairs-at : Pairs at.cells row (d ∷ ds) (l ∷ ls)
      pairs-at = pairs-later s at enter pairs

      -- (map car ls), where f is called
      abbrev asked : Listed w (value.Prim (record { 0 = names.MAP })) (value.Prim (record { 0 = names.CAR }) ∷ lv ∷ []) at row
      asked = cars-given w knows at lv (l ∷ ls) lists-at row (d ∷ ds) pairs-at

      asked-at : LaterWorld at asked.state
      asked-at = cars-later w knows at lv (l ∷ ls) lists-at row (d ∷ ds) pairs-at

      till-asked : LaterWorld s asked.state
      till-asked = later_then s at asked.state enter asked-at

      abbrev on_row : PlainCore
      on_row = app (prim names.APPLY) (var 96 ∷ var 97 ∷ cars (var 98) ∷ [])

      step-iff : (r : CallEnd) (t : WorldState) → Iff (ExpressionEnds w on_row q at r t) (CallEnds w (call_to f (z ∷ row)) asked.state r t)
      step-iff r t =
          iff-then
          (three-iff w (prim names.APPLY) (var 96) (var 97) (cars (var 98)) q at at at at asked.state t (value.Prim (record { 0 = names.APPLY })) f z asked.value r
          (primitive-is w (record { 0 = names.APPLY }) q at) (own w at q vars p home inside (label 96) f refl) (own w at q vars p home inside (label 97) z refl)
          (cars-is w knows at lv (l ∷ ls) lists-at row (d ∷ ds) pairs-at (var 98) q list-read))
          (apply-iff w f (z ∷ []) row asked.value asked.state r t (elements-of asked.state.cells row asked.value asked.list))

      -- what is done with the value of a call
      abbrev go_on : Go
      go_on = λ v. operands w (eval_of w) (more (cdrs (var 98)) none) q ((g ∷ f ∷ []) ++ v ∷ [])

      next-iff : (r : CallEnd) (t : WorldState) → Iff (CallEnds w (call_to g (f ∷ z ∷ lv ∷ [])) s r t) (Split (eval_of w on_row q at) go_on r t)
      next-iff r t =
          iff-then (body-iff r t)
          (iff-then (false-iff w _ _ _ q at at (truth false) r t (first-null false (pair-not-nil s.cells l x d pair)) refl)
          (second-iff w (var 93) (var 96) on_row (more (cdrs (var 98)) none) q at at at g f r t (outer w at q vars p home inside (label 93) g refl refl) (own w at q vars p home inside (label 96) f refl)))

      module _ (y : Value) (u : WorldState) (called : Calls w (call_to f (z ∷ row)) asked.state y u) where
        behind : LaterWorld at u
        behind = later_then at asked.state u asked-at (calls-later w f (z ∷ row) asked.state y u called)

        inside-then : Inside u.cells q vars p home
        inside-then = inside-later at u behind q vars p home inside

        lists-then : IsList u.cells (l ∷ ls) lv
        lists-then = list-later at u behind (l ∷ ls) lv lists-at

        pairs-then : Pairs u.cells row (d ∷ ds) (l ∷ ls)
        pairs-then = pairs-later at u behind pairs-at

        -- (map cdr ls), on which the loop goes on
        abbrev left : Listed w (value.Prim (record { 0 = names.MAP })) (value.Prim (record { 0 = names.CDR }) ∷ lv ∷ []) u (d ∷ ds)
        left = cdrs-given w knows u lv (l ∷ ls) lists-then row (d ∷ ds) pairs-then

        till-left : LaterWorld u left.state
        till-left = cdrs-later w knows u lv (l ∷ ls) lists-then row (d ∷ ds) pairs-then

        far : LaterWorld s left.state
        far = later_then s at left.state enter (later_then at u left.state behind till-left)

        again-iff : (r : CallEnd) (t : WorldState) → Real r → Iff (Ends (go_on y u) r t) (CallEnds w (call_to g (f ∷ y ∷ left.value ∷ [])) left.state r t)
        again-iff r t real =
            last-iff w (cdrs (var 98)) q g (f ∷ y ∷ []) u left.state left.value r t real
            (cdrs-is w knows u lv (l ∷ ls) lists-then row (d ∷ ds) pairs-then (var 98) q (own w u q vars p home inside-then (label 98) lv refl))

      next-ends : (rows : List (List Value)) (r : CallEnd) (u : WorldState) (called : CallEnds w (call_to f (z ∷ row)) asked.state r u) → AfterValue r (λ y. FoldLeftEnds w f y rows u)
          → ((y : Value) (v : WorldState) (lw : Value) → LaterWorld s v → IsList v.cells (d ∷ ds) lw → FoldLeftEnds w f y rows v → Folds y rows lw v) → Folds z (row ∷ rows) lv s
      next-ends rows (Err b) u called a again = (Err b, u, (next-iff (Err b) u).1 (stopped ((step-iff (Err b) u).1 called)), left_stops till-asked called)
      next-ends rows (Ok y) u called a again =
          let m = again y (left y u called).state (left y u called).value (far y u called) (left y u called).list (left-ends-later w f y rows u (left y u called).state (till-left y u called) a) in (
            m.0,
            m.1,
            (next-iff m.0 m.1).1 (went y u ((step-iff (Ok y) u).1 called)
                ((again-iff y u called m.0 m.1 (call-real w g (f ∷ y ∷ (left y u called).value ∷ []) (left y u called).state m.0 m.1 m.2)).1 m.2)),
            left_step till-asked called (left-from w f y rows m.0 u (left y u called).state m.1 (till-left y u called) m.3),
          )

      next-did : (rows : List (List Value)) (r : CallEnd) (t : WorldState) → CallEnds w (call_to g (f ∷ z ∷ lv ∷ [])) s r t
          → ((y : Value) (v : WorldState) (lw : Value) → LaterWorld s v → IsList v.cells (d ∷ ds) lw → (e : CallEnd) (o : WorldState) → CallEnds w (call_to g (f ∷ y ∷ lw ∷ [])) v e o → FoldLeftByRows w f y rows v e o)
          → FoldLeftByRows w f z (row ∷ rows) s r t
      next-did rows r t called again = by r t (call-real w g (f ∷ z ∷ lv ∷ []) s r t called) ((next-iff r t).0 called)
        where
          on : (r : CallEnd) (t : WorldState) → Real r → (y : Value) (u : WorldState) (h : Calls w (call_to f (z ∷ row)) asked.state y u) → Ends (go_on y u) r t → FoldLeftByRows w f z (row ∷ rows) s r t
          on r t real y u h onward =
              left_step till-asked h
              (left-from w f y rows r u (left y u h).state t (till-left y u h) (again y (left y u h).state (left y u h).value (far y u h) (left y u h).list r t ((again-iff y u h r t real).0 onward)))

          by : (r : CallEnd) (t : WorldState) → Real r → Split (eval_of w on_row q at) go_on r t → FoldLeftByRows w f z (row ∷ rows) s r t
          by r t real (stopped {e = b} h) = left_stops till-asked ((step-iff (Err b) t).0 h)
          by r t real (went y u h onward) = on r t real y u ((step-iff (Ok y) u).0 h) onward

  fold-left-ends : (rows : List (List Value)) (z lv l : Value) (ls : List Value) (s : WorldState) → Home s.cells p home → IsList s.cells (l ∷ ls) lv → InRows s.cells rows (l ∷ ls)
      → FoldLeftEnds w f z rows s → Folds z rows lv s
  fold-left-ends [] z lv l ls s round lists r give = (Ok z, at z lv l ls s round lists, nothing z lv l ls s round lists (rows-none r), left_end (enter z lv l ls s round lists))
  fold-left-ends (row ∷ rows) z lv l ls s round lists r give =
      let c = rows-some r in
      let made = give (asked z lv l ls s round lists row c.x c.d c.ds c.pairs c.is).state (till-asked z lv l ls s round lists row c.x c.d c.ds c.pairs c.is) in
      next-ends z lv l ls s round lists row c.x c.d c.ds c.pairs c.is rows made.0 made.1 made.2 made.3
      (λ y v lw k is a. fold-left-ends rows y lw c.d c.ds v (home-later s v k p home round) is (rows-later s v k c.behind) a)

  -- whatever a call came to, it did so
  fold-left-did : (rows : List (List Value)) (z lv l : Value) (ls : List Value) (s : WorldState) → Home s.cells p home → IsList s.cells (l ∷ ls) lv → InRows s.cells rows (l ∷ ls)
      → (r : CallEnd) (t : WorldState) → CallEnds w (call_to g (f ∷ z ∷ lv ∷ [])) s r t → FoldLeftByRows w f z rows s r t
  fold-left-did [] z lv l ls s round lists rs r t called =
      let done = nothing z lv l ls s round lists (rows-none rs) in
      subst (λ a. FoldLeftByRows w f z [] s r a) (ends-one-state (call_of w (call_to g (f ∷ z ∷ lv ∷ [])) s) (Ok z) r (at z lv l ls s round lists) t done called)
      (subst (λ a. FoldLeftByRows w f z [] s a (at z lv l ls s round lists)) (ends-one-end (call_of w (call_to g (f ∷ z ∷ lv ∷ [])) s) (Ok z) r (at z lv l ls s round lists) t done called) (left_end (enter z lv l ls s round lists)))
  fold-left-did (row ∷ rows) z lv l ls s round lists rs r t called =
      let c = rows-some rs in
      next-did z lv l ls s round lists row c.x c.d c.ds c.pairs c.is rows r t called
      (λ y v lw k is e o h. fold-left-did rows y lw c.d c.ds v (home-later s v k p home round) is (rows-later s v k c.behind) e o h)

module _ (w : PlainSetting) (knows : Knows w.codes) (f z l : Value) (ls : List Value) (rows : List (List Value)) (s : WorldState) (r : InRows s.cells rows (l ∷ ls)) where
  abbrev enter_names : FoldNames 93 103 104 105 106 (value.Closure (code_no 94) (home_place w s 93 94))
  enter_names = record { procedure = λ f z l ls. refl; start = λ f z l ls. refl; list = λ f z l ls. refl; lists = λ f z l ls. refl; no_loop = λ f z l ls. refl; loop = refl }

  module _ (is_text : has_text names.FOLD_LEFT ≡ true) where
    abbrev begun : WorldState
    begun = text.loop_state w s 93 94 names.FOLD_LEFT 101 103 104 105 106 96 97 98 fold_left_loop refl refl is_text enter_names knows.fold_left_text knows.fold_left_body f z l ls

    abbrev lv : Value
    lv = text.lists_value w s 93 94 names.FOLD_LEFT 101 103 104 105 106 96 97 98 fold_left_loop refl refl is_text enter_names knows.fold_left_text knows.fold_left_body f z l ls

    far-begun : LaterWorld s begun
    far-begun = text.loop-later w s 93 94 names.FOLD_LEFT 101 103 104 105 106 96 97 98 fold_left_loop refl refl is_text enter_names knows.fold_left_text knows.fold_left_body f z l ls

    begun-home : Home begun.cells (home_place w s 93 94) (one_home (label 93) (code_no 94) (home_place w s 93 94))
    begun-home = text.loop-home w s 93 94 names.FOLD_LEFT 101 103 104 105 106 96 97 98 fold_left_loop refl refl is_text enter_names knows.fold_left_text knows.fold_left_body f z l ls

    begun-lists : IsList begun.cells (l ∷ ls) lv
    begun-lists = text.lists-are w s 93 94 names.FOLD_LEFT 101 103 104 105 106 96 97 98 fold_left_loop refl refl is_text enter_names knows.fold_left_text knows.fold_left_body f z l ls

    begun-iff : (e : CallEnd) (t : WorldState) → Iff (CallEnds w (call_to (value.Prim (record { 0 = names.FOLD_LEFT })) (f ∷ z ∷ l ∷ ls)) s e t) (CallEnds w (call_to (value.Closure (code_no 94) (home_place w s 93 94)) (f ∷ z ∷ lv ∷ [])) begun e t)
    begun-iff = text.entered-iff w s 93 94 names.FOLD_LEFT 101 103 104 105 106 96 97 98 fold_left_loop refl refl is_text enter_names knows.fold_left_text knows.fold_left_body f z l ls

    ended-by : FoldLeftEnds w f z rows s → (e : CallEnd) × (t : WorldState) × CallEnds w (call_to (value.Prim (record { 0 = names.FOLD_LEFT })) (f ∷ z ∷ l ∷ ls)) s e t × FoldLeftByRows w f z rows s e t
    ended-by give =
        let m = fold-left-ends w knows f (home_place w s 93 94) rows z lv l ls begun begun-home begun-lists (rows-later s begun far-begun r) (left-ends-later w f z rows s begun far-begun give) in
        (m.0, m.1, (begun-iff m.0 m.1).1 m.2, left-from w f z rows m.0 s begun m.1 far-begun m.3)

    did-by : (e : CallEnd) (t : WorldState) → CallEnds w (call_to (value.Prim (record { 0 = names.FOLD_LEFT })) (f ∷ z ∷ l ∷ ls)) s e t → FoldLeftByRows w f z rows s e t
    did-by e t called =
        left-from w f z rows e s begun t far-begun
        (fold-left-did w knows f (home_place w s 93 94) rows z lv l ls begun begun-home begun-lists (rows-later s begun far-begun r) e t ((begun-iff e t).0 called))

  pub fold-left-ended : FoldLeftEnds w f z rows s → (e : CallEnd) × (t : WorldState) × CallEnds w (call_to (value.Prim (record { 0 = names.FOLD_LEFT })) (f ∷ z ∷ l ∷ ls)) s e t × FoldLeftByRows w f z rows s e t
  unfolding has_text
  fold-left-ended give = ended-by refl give

  pub fold-left-only : (e : CallEnd) (t : WorldState) → CallEnds w (call_to (value.Prim (record { 0 = names.FOLD_LEFT })) (f ∷ z ∷ l ∷ ls)) s e t → FoldLeftByRows w f z rows s e t
  unfolding has_text
  fold-left-only e t called = did-by refl e t called
