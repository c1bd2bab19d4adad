-- `exists` on lists, by its text.
use Rattle.std.proofs.Common.{◌≡◌, List, [], ◌∷◌, ◌++◌, Some, None, true, false, Ok, Err, refl, ap, subst, arith}
use Rattle.base_data.specs.declared.op.names.TheConstants as ops
use Rattle.base_region.specs.declared.region.Place.{Place}
use Rattle.core_language.specs.Core.{none}
use Rattle.eval_value.specs.declared.value.Value.{Value}
use Rattle.eval_value.specs.declared.value.Value.TheVariants as value
use Rattle.eval_value.specs.declared.cell.Cell.TheVariants as cell
use Rattle.eval_prims.specs.Answers.{truth}
use Rattle.eval_prims.specs.Chains.{pair_of, is_nil}
use Rattle.eval_prims.specs.Lists.{nil}
use Rattle.eval_code.specs.Codes.{procedure_code}
use Rattle.eval_code.specs.Meaning.{eval_of, operands}
use Rattle.eval_code.specs.Procedures.{has_text, truth_of}
use Rattle.eval_code.specs.Setting.{PlainSetting}
use Rattle.eval_code.specs.State.{WorldState, Go, next_place, with_cell}
use Rattle.eval_code.specs.Variables.{Entries}
use Rattle.law_eval.specs.Kept.{LaterWorld}
use Rattle.law_eval.proofs.Keeping.{later_then, later_with}
use Rattle.law_lists.specs.Runs.{IsList}
use Rattle.law_lists.proofs.RunLemmas.{pair_still}
use Rattle.law_given.specs.Calls.{CallEnd, Ends, call_to, call_of, CallEnds, Calls}
use Rattle.law_given.specs.Codes.{label, code_no, var, formals, one_case, lambda, cdrs, on_cars, exists_next, exists_loop}
use Rattle.law_given.proofs.FindLoop.{by-truth}
use Rattle.law_given.proofs.Giving.{Evaluates, ExpressionEnds, procedure-is}
use Rattle.law_given.proofs.Inside.{Inside, Home, one_home, home-later, inside-later, entered-inside, own, outer}
use Rattle.law_given.proofs.Knows.{Knows}
use Rattle.law_given.proofs.Later.{later-refl, calls-later, list-later}
use Rattle.law_given.proofs.Looking.{get-below, later-stay, in_cell, in_parent, variable-is}
use Rattle.law_given.proofs.Loop.{Names, two_vars, entered-later}
use Rattle.law_given.proofs.LoopText.{home_place}
use Rattle.law_given.proofs.Primitives.{pair-not-nil, bool-is}
use Rattle.law_given.proofs.Unique.{ends-one-end, ends-one-state}
use Rattle.law_given_lists.specs.RowCalls.{AfterValue, ExistsByRows, some_none, some_last, some_here, some_behind, some_stops, ExistsEnds}
use Rattle.law_given_lists.specs.Rows.{Pairs, InRows}
use Rattle.law_given_lists.proofs.Moving.{exists-from, exists-ends-later}
use Rattle.law_given_lists.proofs.RowLemmas.{pairs-later, rows-later, rows-none, rows-some}
use Rattle.law_given_lists.proofs.RowLoop as loop
use Rattle.law_given_lists.proofs.RowLoop.{EnterNames}
use Rattle.law_given_lists.proofs.RowParts.{Listed, cdrs-given, cdrs-later, cdrs-is}
use Rattle.law_given_lists.proofs.Splitting.{Iff, iff-then, Split, went, stopped}
use Rattle.law_given_lists.proofs.Steps.{true-iff, false-iff, first-iff, two-iff, closure-iff, case-iff}

module _ (w : PlainSetting) (knows : Knows w.codes) (f : Value) (p : Place) where
  abbrev home : Entries
  home = one_home (label 42) (code_no 43) p

  abbrev g : Value
  g = value.Closure (code_no 43) p

  abbrev names : Names 42 45 46 home g
  names = record { procedure = λ f l. refl; list = λ f l. refl; no_loop = λ f l. refl; loop = refl }

  -- the loop on a list of lists that stand in rows
  abbrev Holds : List (List Value) → Value → WorldState → Type 0
  Holds rows lv s = (r : CallEnd) × (t : WorldState) × CallEnds w (call_to g (f ∷ lv ∷ [])) s r t × ExistsByRows w f rows s r t

  module _ (lv l : Value) (more : List Value) (s : WorldState) (round : Home s.cells p home) (lists : IsList s.cells (l ∷ more) lv) where
    abbrev at : WorldState
    at = loop.at w knows 43 42 45 46 exists_loop knows.exists_loop p home names f lv s round

    abbrev q : Place
    q = next_place s

    enter : LaterWorld s at
    enter = entered-later w 43 42 45 46 exists_loop knows.exists_loop p home names f lv s round

    body-iff : (r : CallEnd) (t : WorldState) → Iff (CallEnds w (call_to g (f ∷ lv ∷ [])) s r t) (ExpressionEnds w exists_loop q at r t)
    body-iff = loop.body-iff w knows 43 42 45 46 exists_loop knows.exists_loop p home names f lv s round

    nothing : l ≡ nil → Calls w (call_to g (f ∷ lv ∷ [])) s (truth false) at
    nothing e =
        (body-iff (Ok (truth false)) at).1
        ((true-iff w _ _ _ q at at (truth true) (Ok (truth false)) at (loop.first-null w knows 43 42 45 46 exists_loop knows.exists_loop p home names f lv s round l more lists at (later-refl at) true (ap is_nil e)) refl).1
        (bool-is w _ false q at))

    module _ (row : List Value) (x d : Value) (ds : List Value) (pairs : Pairs s.cells row (d ∷ ds) (l ∷ more)) (pair : pair_of s.cells l ≡ Some (x, d)) where
      pair-at : pair_of at.cells l ≡ Some (x, d)
      pair-at = pair_still s.cells at.cells (later-stay s at enter) l x d pair

      -- (map car ls), where f is called
      abbrev asked : Listed w (value.Prim (record { 0 = ops.MAP })) (value.Prim (record { 0 = ops.CAR }) ∷ lv ∷ []) at row
      asked = loop.asked w knows 43 42 45 46 exists_loop knows.exists_loop p home names f lv s round l more lists at (later-refl at) row (d ∷ ds) pairs

      asked-at : LaterWorld at asked.state
      asked-at = loop.asked-later w knows 43 42 45 46 exists_loop knows.exists_loop p home names f lv s round l more lists at (later-refl at) row (d ∷ ds) pairs

      till-asked : LaterWorld s asked.state
      till-asked = later_then s at asked.state enter asked-at

      ask-iff : (r : CallEnd) (t : WorldState) → Iff (ExpressionEnds w (on_cars (var 45) (var 46)) q at r t) (CallEnds w (call_to f row) asked.state r t)
      ask-iff = loop.ask-iff w knows 43 42 45 46 exists_loop knows.exists_loop p home names f lv s round l more lists at (later-refl at) row (d ∷ ds) pairs

      -- the last row
      last-iff : d ≡ nil → (r : CallEnd) (t : WorldState) → Iff (CallEnds w (call_to g (f ∷ lv ∷ [])) s r t) (CallEnds w (call_to f row) asked.state r t)
      last-iff e r t =
          iff-then (body-iff r t)
          (iff-then (false-iff w _ _ _ q at at (truth false) r t (loop.first-null w knows 43 42 45 46 exists_loop knows.exists_loop p home names f lv s round l more lists at (later-refl at) false (pair-not-nil s.cells l x d pair)) refl)
          (iff-then (true-iff w _ _ _ q at at (truth true) r t (loop.rest-null w knows 43 42 45 46 exists_loop knows.exists_loop p home names f lv s round l more lists at (later-refl at) x d pair-at true (ap is_nil e)) refl)
          (ask-iff r t)))

      -- the procedure that looks at the answer
      abbrev looks : Value
      looks = value.Closure (code_no 48) q

      abbrev go_on : Go
      go_on = λ v. operands w (eval_of w) none q ((looks ∷ []) ++ v ∷ [])

      -- a row before it
      next-iff : is_nil d ≡ false → (r : CallEnd) (t : WorldState) → Iff (CallEnds w (call_to g (f ∷ lv ∷ [])) s r t) (Split (eval_of w (on_cars (var 45) (var 46)) q at) go_on r t)
      next-iff e r t =
          iff-then (body-iff r t)
          (iff-then (false-iff w _ _ _ q at at (truth false) r t (loop.first-null w knows 43 42 45 46 exists_loop knows.exists_loop p home names f lv s round l more lists at (later-refl at) false (pair-not-nil s.cells l x d pair)) refl)
          (iff-then (false-iff w _ _ _ q at at (truth false) r t (loop.rest-null w knows 43 42 45 46 exists_loop knows.exists_loop p home names f lv s round l more lists at (later-refl at) x d pair-at false e) refl)
          (first-iff w (lambda 48 (50 ∷ []) None exists_next) (on_cars (var 45) (var 46)) none q at at looks r t (procedure-is w (code_no 48) (one_case (50 ∷ []) None exists_next) true q at))))

      -- what comes of an answer
      module _ (y : Value) (u : WorldState) (called : Calls w (call_to f row) asked.state y u) where
        behind : LaterWorld at u
        behind = later_then at asked.state u asked-at (calls-later w f row asked.state y u called)

        abbrev frame : Entries
        frame = (label 50, Some y) ∷ []

        abbrev looked : WorldState
        looked = with_cell (cell.Scope frame (Some q)) u

        look-later : LaterWorld u looked
        look-later = later_with u (cell.Scope frame (Some q))

        around : Inside u.cells q (two_vars 45 46 f lv) p home
        around = inside-later at u behind q (two_vars 45 46 f lv) p home (entered-inside s (two_vars 45 46 f lv) p home round)

        inside-looked : Inside looked.cells (next_place u) frame q (two_vars 45 46 f lv)
        inside-looked = entered-inside u frame q (two_vars 45 46 f lv) (record { around = Some p; is = around.frame })

        answer-read : Evaluates w (var 50) (next_place u) looked y looked
        answer-read = own w looked (next_place u) frame q (two_vars 45 46 f lv) inside-looked (label 50) y refl

        looked-iff : (r : CallEnd) (t : WorldState) → Iff (Ends (go_on y u) r t) (ExpressionEnds w exists_next (next_place u) looked r t)
        looked-iff r t =
            iff-then (closure-iff w (code_no 48) q (y ∷ []) u r t)
            (case-iff w (code_no 48) q (y ∷ []) u (procedure_code (code_no 48) (one_case (50 ∷ []) None exists_next) true) (formals (50 ∷ []) None) exists_next r t knows.exists_next refl)

        far-looked : LaterWorld s looked
        far-looked = later_then s at looked enter (later_then at u looked behind look-later)

        -- (map cdr ls), on which the loop goes on
        lists-looked : IsList looked.cells (l ∷ more) lv
        lists-looked = list-later s looked far-looked (l ∷ more) lv lists

        pairs-looked : Pairs looked.cells row (d ∷ ds) (l ∷ more)
        pairs-looked = pairs-later s looked far-looked pairs

        abbrev left : Listed w (value.Prim (record { 0 = ops.MAP })) (value.Prim (record { 0 = ops.CDR }) ∷ lv ∷ []) looked (d ∷ ds)
        left = cdrs-given w knows looked lv (l ∷ more) lists-looked row (d ∷ ds) pairs-looked

        left-looked : LaterWorld looked left.state
        left-looked = cdrs-later w knows looked lv (l ∷ more) lists-looked row (d ∷ ds) pairs-looked

        till-left : LaterWorld u left.state
        till-left = later_then u looked left.state look-later left-looked

        far : LaterWorld s left.state
        far = later_then s looked left.state far-looked left-looked

        -- the loop is found in the third cell
        loop-read : Evaluates w (var 42) (next_place u) looked g looked
        loop-read =
            let third = get-below looked.cells (next_place u).0 (cell.Scope frame (Some q)) inside-looked.frame in
            let second = get-below u.cells q.0 (cell.Scope (two_vars 45 46 f lv) (Some p)) around.frame in
            variable-is w (label 42) (next_place u) looked g 3
            (in_parent inside-looked.frame refl (in_parent (later-stay u looked look-later q.0 (cell.Scope (two_vars 45 46 f lv) (Some p)) around.frame) refl
            (in_cell (later-stay u looked look-later p.0 (cell.Scope home around.around) around.home) refl)))
            (omega (arith, third, second))

        again-iff : truth_of y ≡ false → (r : CallEnd) (t : WorldState) → Iff (Ends (go_on y u) r t) (CallEnds w (call_to g (f ∷ left.value ∷ [])) left.state r t)
        again-iff e r t =
            iff-then (looked-iff r t)
            (iff-then (false-iff w _ _ _ (next_place u) looked looked y r t answer-read e)
            (two-iff w (var 42) (var 45) (cdrs (var 46)) (next_place u) looked looked looked left.state t g f left.value r loop-read
            (outer w looked (next_place u) frame q (two_vars 45 46 f lv) inside-looked (label 45) f refl refl)
            (cdrs-is w knows looked lv (l ∷ more) lists-looked row (d ∷ ds) pairs-looked (var 46) (next_place u)
            (outer w looked (next_place u) frame q (two_vars 45 46 f lv) inside-looked (label 46) lv refl refl))))

        ends-here : truth_of y ≡ true → Ends (go_on y u) (Ok y) looked
        ends-here e = (looked-iff (Ok y) looked).1 ((true-iff w _ _ _ (next_place u) looked looked y (Ok y) looked answer-read e).1 answer-read)

      next-ends : (next : List Value) (rows : List (List Value)) → is_nil d ≡ false → (r : CallEnd) (u : WorldState) (called : CallEnds w (call_to f row) asked.state r u)
          → AfterValue r (λ y. truth_of y ≡ false → ExistsEnds w f (next ∷ rows) u)
          → ((v : WorldState) (lw : Value) → LaterWorld s v → IsList v.cells (d ∷ ds) lw → ExistsEnds w f (next ∷ rows) v → Holds (next ∷ rows) lw v) → Holds (row ∷ next ∷ rows) lv s
      next-ends next rows e (Err b) u called a again = (Err b, u, (next-iff e (Err b) u).1 (stopped ((ask-iff (Err b) u).1 called)), some_stops till-asked called)
      next-ends next rows e (Ok y) u called a again =
          by-truth (truth_of y) (Holds (row ∷ next ∷ rows) lv s)
          (λ is. (Ok y, (looked y u called), (next-iff e (Ok y) (looked y u called)).1 (went y u ((ask-iff (Ok y) u).1 called) (ends-here y u called is)), some_here till-asked called is (look-later y u called)))
          (λ is. let m = again (left y u called).state (left y u called).value (far y u called) (left y u called).list (exists-ends-later w f (next ∷ rows) u (left y u called).state (till-left y u called) (a is)) in (
            m.0,
            m.1,
            (next-iff e m.0 m.1).1 (went y u ((ask-iff (Ok y) u).1 called) ((again-iff y u called is m.0 m.1).1 m.2)),
            some_behind till-asked called is (exists-from w f (next ∷ rows) m.0 u (left y u called).state m.1 (till-left y u called) m.3),
          ))

      next-did : (next : List Value) (rows : List (List Value)) → is_nil d ≡ false → (r : CallEnd) (t : WorldState) → CallEnds w (call_to g (f ∷ lv ∷ [])) s r t
          → ((v : WorldState) (lw : Value) → LaterWorld s v → IsList v.cells (d ∷ ds) lw → (e : CallEnd) (o : WorldState) → CallEnds w (call_to g (f ∷ lw ∷ [])) v e o → ExistsByRows w f (next ∷ rows) v e o)
          → ExistsByRows w f (row ∷ next ∷ rows) s r t
      next-did next rows e r t called again = by r t ((next-iff e r t).0 called)
        where
          first : (y : Value) (u : WorldState) → Evaluates w (on_cars (var 45) (var 46)) q at y u → Calls w (call_to f row) asked.state y u
          first y u h = (ask-iff (Ok y) u).0 h

          by : (r : CallEnd) (t : WorldState) → Split (eval_of w (on_cars (var 45) (var 46)) q at) go_on r t → ExistsByRows w f (row ∷ next ∷ rows) s r t
          by r t (stopped {e = b} h) = some_stops till-asked ((ask-iff (Err b) t).0 h)
          by r t (went y u g1 onward) =
              by-truth (truth_of y) (ExistsByRows w f (row ∷ next ∷ rows) s r t)
              (λ is. subst (λ a. ExistsByRows w f (row ∷ next ∷ rows) s r a) (ends-one-state (go_on y u) (Ok y) r (looked y u (first y u g1)) t (ends-here y u (first y u g1) is) onward)
              (subst (λ a. ExistsByRows w f (row ∷ next ∷ rows) s a (looked y u (first y u g1))) (ends-one-end (go_on y u) (Ok y) r (looked y u (first y u g1)) t (ends-here y u (first y u g1) is) onward) (some_here till-asked (first y u g1) is (look-later y u (first y u g1)))))
              (λ is. some_behind till-asked (first y u g1) is (exists-from w f (next ∷ rows) r u (left y u (first y u g1)).state t (till-left y u (first y u g1))
              (again (left y u (first y u g1)).state (left y u (first y u g1)).value (far y u (first y u g1)) (left y u (first y u g1)).list r t ((again-iff y u (first y u g1) is r t).0 onward))))

  exists-ends : (rows : List (List Value)) (lv l : Value) (more : List Value) (s : WorldState) → Home s.cells p home → IsList s.cells (l ∷ more) lv → InRows s.cells rows (l ∷ more)
      → ExistsEnds w f rows s → Holds rows lv s
  exists-ends [] lv l more s round lists r give = (Ok (truth false), at lv l more s round lists, nothing lv l more s round lists (rows-none r), some_none (enter lv l more s round lists))
  exists-ends (row ∷ []) lv l more s round lists r give =
      let c = rows-some r in
      let made = give (asked lv l more s round lists row c.x c.d c.ds c.pairs c.is).state (till-asked lv l more s round lists row c.x c.d c.ds c.pairs c.is) in (
        made.0,
        made.1,
        (last-iff lv l more s round lists row c.x c.d c.ds c.pairs c.is (rows-none c.behind) made.0 made.1).1 made.2,
        some_last (till-asked lv l more s round lists row c.x c.d c.ds c.pairs c.is) made.2,
      )
  exists-ends (row ∷ next ∷ rows) lv l more s round lists r give =
      let c = rows-some r in
      let b = rows-some c.behind in
      let made = give (asked lv l more s round lists row c.x c.d c.ds c.pairs c.is).state (till-asked lv l more s round lists row c.x c.d c.ds c.pairs c.is) in
      next-ends lv l more s round lists row c.x c.d c.ds c.pairs c.is next rows (pair-not-nil s.cells c.d b.x b.d b.is) made.0 made.1 made.2 made.3
      (λ v lw k is a. exists-ends (next ∷ rows) lw c.d c.ds v (home-later s v k p home round) is (rows-later s v k c.behind) a)

  -- whatever a call came to, it did so
  exists-did : (rows : List (List Value)) (lv l : Value) (more : List Value) (s : WorldState) → Home s.cells p home → IsList s.cells (l ∷ more) lv → InRows s.cells rows (l ∷ more)
      → (r : CallEnd) (t : WorldState) → CallEnds w (call_to g (f ∷ lv ∷ [])) s r t → ExistsByRows w f rows s r t
  exists-did [] lv l more s round lists rs r t called =
      let done = nothing lv l more s round lists (rows-none rs) in
      subst (λ a. ExistsByRows w f [] s r a) (ends-one-state (call_of w (call_to g (f ∷ lv ∷ [])) s) (Ok (truth false)) r (at lv l more s round lists) t done called)
      (subst (λ a. ExistsByRows w f [] s a (at lv l more s round lists)) (ends-one-end (call_of w (call_to g (f ∷ lv ∷ [])) s) (Ok (truth false)) r (at lv l more s round lists) t done called) (some_none (enter lv l more s round lists)))
  exists-did (row ∷ []) lv l more s round lists rs r t called =
      let c = rows-some rs in
      some_last (till-asked lv l more s round lists row c.x c.d c.ds c.pairs c.is) ((last-iff lv l more s round lists row c.x c.d c.ds c.pairs c.is (rows-none c.behind) r t).0 called)
  exists-did (row ∷ next ∷ rows) lv l more s round lists rs r t called =
      let c = rows-some rs in
      let b = rows-some c.behind in
      next-did lv l more s round lists row c.x c.d c.ds c.pairs c.is next rows (pair-not-nil s.cells c.d b.x b.d b.is) r t called
      (λ v lw k is e o h. exists-did (next ∷ rows) lw c.d c.ds v (home-later s v k p home round) is (rows-later s v k c.behind) e o h)

module _ (w : PlainSetting) (knows : Knows w.codes) (f l : Value) (more : List Value) (rows : List (List Value)) (s : WorldState) (r : InRows s.cells rows (l ∷ more)) where
  abbrev enter_names : EnterNames 42 55 56 57 (value.Closure (code_no 43) (home_place w s 42 43))
  enter_names = record { procedure = λ f l ls. refl; list = λ f l ls. refl; lists = λ f l ls. refl; no_loop = λ f l ls. refl; loop = refl }

  module _ (is_text : has_text ops.EXISTS ≡ true) where
    abbrev begun : WorldState
    begun = loop.loop_state w s 42 43 ops.EXISTS 53 55 56 57 45 46 exists_loop refl refl is_text enter_names knows.exists_text knows.exists_body f l more

    abbrev lv : Value
    lv = loop.lists_value w s 42 43 ops.EXISTS 53 55 56 57 45 46 exists_loop refl refl is_text enter_names knows.exists_text knows.exists_body f l more

    far-begun : LaterWorld s begun
    far-begun = loop.loop-later w s 42 43 ops.EXISTS 53 55 56 57 45 46 exists_loop refl refl is_text enter_names knows.exists_text knows.exists_body f l more

    begun-home : Home begun.cells (home_place w s 42 43) (one_home (label 42) (code_no 43) (home_place w s 42 43))
    begun-home = loop.loop-home w s 42 43 ops.EXISTS 53 55 56 57 45 46 exists_loop refl refl is_text enter_names knows.exists_text knows.exists_body f l more

    begun-lists : IsList begun.cells (l ∷ more) lv
    begun-lists = loop.lists-are w s 42 43 ops.EXISTS 53 55 56 57 45 46 exists_loop refl refl is_text enter_names knows.exists_text knows.exists_body f l more

    begun-iff : (e : CallEnd) (t : WorldState) → Iff (CallEnds w (call_to (value.Prim (record { 0 = ops.EXISTS })) (f ∷ l ∷ more)) s e t) (CallEnds w (call_to (value.Closure (code_no 43) (home_place w s 42 43)) (f ∷ lv ∷ [])) begun e t)
    begun-iff = loop.entered-iff w s 42 43 ops.EXISTS 53 55 56 57 45 46 exists_loop refl refl is_text enter_names knows.exists_text knows.exists_body f l more

    ended-by : ExistsEnds w f rows s → (e : CallEnd) × (t : WorldState) × CallEnds w (call_to (value.Prim (record { 0 = ops.EXISTS })) (f ∷ l ∷ more)) s e t × ExistsByRows w f rows s e t
    ended-by give =
        let m = exists-ends w knows f (home_place w s 42 43) rows lv l more begun begun-home begun-lists (rows-later s begun far-begun r) (exists-ends-later w f rows s begun far-begun give) in
        (m.0, m.1, (begun-iff m.0 m.1).1 m.2, exists-from w f rows m.0 s begun m.1 far-begun m.3)

    did-by : (e : CallEnd) (t : WorldState) → CallEnds w (call_to (value.Prim (record { 0 = ops.EXISTS })) (f ∷ l ∷ more)) s e t → ExistsByRows w f rows s e t
    did-by e t called =
        exists-from w f rows e s begun t far-begun
        (exists-did w knows f (home_place w s 42 43) rows lv l more begun begun-home begun-lists (rows-later s begun far-begun r) e t ((begun-iff e t).0 called))

  pub exists-ended : ExistsEnds w f rows s → (e : CallEnd) × (t : WorldState) × CallEnds w (call_to (value.Prim (record { 0 = ops.EXISTS })) (f ∷ l ∷ more)) s e t × ExistsByRows w f rows s e t
  unfolding has_text
  exists-ended give = ended-by refl give

  pub exists-only : (e : CallEnd) (t : WorldState) → CallEnds w (call_to (value.Prim (record { 0 = ops.EXISTS })) (f ∷ l ∷ more)) s e t → ExistsByRows w f rows s e t
  unfolding has_text
  exists-only e t called = did-by refl e t called
