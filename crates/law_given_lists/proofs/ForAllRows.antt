-- `for-all` on lists, by its text.
use Rattle.std.proofs.Common.{◌≡◌, List, [], ◌∷◌, Some, true, false, Ok, Err, refl, ap, subst}
use Rattle.base_data.specs.declared.atom.Atom.TheVariants as a
use Rattle.base_data.specs.declared.op.names.TheConstants as ops
use Rattle.base_region.specs.declared.region.Place.{Place}
use Rattle.core_language.specs.Core.{PlainCore}
use Rattle.eval_value.specs.declared.value.Value.{Value}
use Rattle.eval_value.specs.declared.value.Value.TheVariants as value
use Rattle.eval_prims.specs.Answers.{truth}
use Rattle.eval_prims.specs.Chains.{pair_of, is_nil}
use Rattle.eval_prims.specs.Lists.{nil}
use Rattle.eval_code.specs.Meaning.{eval_of, two_arms}
use Rattle.eval_code.specs.Procedures.{has_text, truth_of}
use Rattle.eval_code.specs.Setting.{PlainSetting}
use Rattle.eval_code.specs.State.{WorldState, next_place}
use Rattle.eval_code.specs.Variables.{Entries}
use Rattle.law_eval.specs.Kept.{LaterWorld}
use Rattle.law_eval.proofs.Keeping.{later_then}
use Rattle.law_lists.specs.Runs.{IsList}
use Rattle.law_lists.proofs.RunLemmas.{pair_still}
use Rattle.law_given.specs.Calls.{CallEnd, Ends, call_to, call_of, CallEnds, Calls}
use Rattle.law_given.specs.Codes.{label, code_no, var, app, datum_at, cdrs, on_cars, for_all_loop}
use Rattle.law_given.proofs.FindLoop.{by-truth}
use Rattle.law_given.proofs.Giving.{Evaluates, ExpressionEnds}
use Rattle.law_given.proofs.Inside.{Home, one_home, home-later}
use Rattle.law_given.proofs.Knows.{Knows}
use Rattle.law_given.proofs.Later.{later-refl, calls-later}
use Rattle.law_given.proofs.Looking.{later-stay}
use Rattle.law_given.proofs.Loop.{Names, entered-later}
use Rattle.law_given.proofs.LoopText.{home_place}
use Rattle.law_given.proofs.Primitives.{pair-not-nil, bool-is}
use Rattle.law_given.proofs.Unique.{ends-one-end, ends-one-state}
use Rattle.law_given_lists.specs.RowCalls.{AfterValue, ForAllByRows, all_none, all_last, all_but, all_so_far, all_stops, ForAllEnds}
use Rattle.law_given_lists.specs.Rows.{Pairs, InRows}
use Rattle.law_given_lists.proofs.Moving.{all-from, for-all-ends-later}
use Rattle.law_given_lists.proofs.RowLemmas.{rows-later, rows-none, rows-some}
use Rattle.law_given_lists.proofs.RowLoop as loop
use Rattle.law_given_lists.proofs.RowLoop.{EnterNames}
use Rattle.law_given_lists.proofs.RowParts.{Listed}
use Rattle.law_given_lists.proofs.Splitting.{Iff, iff-then, Split, went, stopped}
use Rattle.law_given_lists.proofs.Steps.{test-iff, true-arm, false-arm, true-iff, false-iff}

module _ (w : PlainSetting) (knows : Knows w.codes) (f : Value) (p : Place) where
  abbrev home : Entries
  home = one_home (label 28) (code_no 29) p

  abbrev g : Value
  g = value.Closure (code_no 29) p

  abbrev names : Names 28 31 32 home g
  names = record { procedure = λ f l. refl; list = λ f l. refl; no_loop = λ f l. refl; loop = refl }

  -- the loop on a list of lists that stand in rows
  abbrev Holds : List (List Value) → Value → WorldState → Type 0
  Holds rows lv s = (r : CallEnd) × (t : WorldState) × CallEnds w (call_to g (f ∷ lv ∷ [])) s r t × ForAllByRows w f rows s r t

  module _ (lv l : Value) (more : List Value) (s : WorldState) (round : Home s.cells p home) (lists : IsList s.cells (l ∷ more) lv) where
    abbrev at : WorldState
    at = loop.at w knows 29 28 31 32 for_all_loop knows.for_all_loop p home names f lv s round

    abbrev q : Place
    q = next_place s

    enter : LaterWorld s at
    enter = entered-later w 29 28 31 32 for_all_loop knows.for_all_loop p home names f lv s round

    body-iff : (r : CallEnd) (t : WorldState) → Iff (CallEnds w (call_to g (f ∷ lv ∷ [])) s r t) (ExpressionEnds w for_all_loop q at r t)
    body-iff = loop.body-iff w knows 29 28 31 32 for_all_loop knows.for_all_loop p home names f lv s round

    nothing : l ≡ nil → Calls w (call_to g (f ∷ lv ∷ [])) s (truth true) at
    nothing e =
        (body-iff (Ok (truth true)) at).1
        ((true-iff w _ _ _ q at at (truth true) (Ok (truth true)) at (loop.first-null w knows 29 28 31 32 for_all_loop knows.for_all_loop p home names f lv s round l more lists at (later-refl at) true (ap is_nil e)) refl).1
        (bool-is w _ true q at))

    module _ (row : List Value) (x d : Value) (ds : List Value) (pairs : Pairs s.cells row (d ∷ ds) (l ∷ more)) (pair : pair_of s.cells l ≡ Some (x, d)) where
      pair-at : pair_of at.cells l ≡ Some (x, d)
      pair-at = pair_still s.cells at.cells (later-stay s at enter) l x d pair

      -- (map car ls), where f is called
      abbrev asked : Listed w (value.Prim (record { 0 = ops.MAP })) (value.Prim (record { 0 = ops.CAR }) ∷ lv ∷ []) at row
      asked = loop.asked w knows 29 28 31 32 for_all_loop knows.for_all_loop p home names f lv s round l more lists at (later-refl at) row (d ∷ ds) pairs

      asked-at : LaterWorld at asked.state
      asked-at = loop.asked-later w knows 29 28 31 32 for_all_loop knows.for_all_loop p home names f lv s round l more lists at (later-refl at) row (d ∷ ds) pairs

      till-asked : LaterWorld s asked.state
      till-asked = later_then s at asked.state enter asked-at

      ask-iff : (r : CallEnd) (t : WorldState) → Iff (ExpressionEnds w (on_cars (var 31) (var 32)) q at r t) (CallEnds w (call_to f row) asked.state r t)
      ask-iff = loop.ask-iff w knows 29 28 31 32 for_all_loop knows.for_all_loop p home names f lv s round l more lists at (later-refl at) row (d ∷ ds) pairs

      -- the last row
      last-iff : d ≡ nil → (r : CallEnd) (t : WorldState) → Iff (CallEnds w (call_to g (f ∷ lv ∷ [])) s r t) (CallEnds w (call_to f row) asked.state r t)
      last-iff e r t =
          iff-then (body-iff r t)
          (iff-then (false-iff w _ _ _ q at at (truth false) r t (loop.first-null w knows 29 28 31 32 for_all_loop knows.for_all_loop p home names f lv s round l more lists at (later-refl at) false (pair-not-nil s.cells l x d pair)) refl)
          (iff-then (true-iff w _ _ _ q at at (truth true) r t (loop.rest-null w knows 29 28 31 32 for_all_loop knows.for_all_loop p home names f lv s round l more lists at (later-refl at) x d pair-at true (ap is_nil e)) refl)
          (ask-iff r t)))

      abbrev no_more : PlainCore
      no_more = datum_at ops.FOR_ALL 163 165 (a.Bool false)

      -- a row before it
      next-iff : is_nil d ≡ false → (r : CallEnd) (t : WorldState) → Iff (CallEnds w (call_to g (f ∷ lv ∷ [])) s r t) (Split (eval_of w (on_cars (var 31) (var 32)) q at) (two_arms w (eval_of w) (app (var 28) (var 31 ∷ cdrs (var 32) ∷ [])) no_more q) r t)
      next-iff e r t =
          iff-then (body-iff r t)
          (iff-then (false-iff w _ _ _ q at at (truth false) r t (loop.first-null w knows 29 28 31 32 for_all_loop knows.for_all_loop p home names f lv s round l more lists at (later-refl at) false (pair-not-nil s.cells l x d pair)) refl)
          (iff-then (false-iff w _ _ _ q at at (truth false) r t (loop.rest-null w knows 29 28 31 32 for_all_loop knows.for_all_loop p home names f lv s round l more lists at (later-refl at) x d pair-at false e) refl)
          (test-iff w (on_cars (var 31) (var 32)) (app (var 28) (var 31 ∷ cdrs (var 32) ∷ [])) no_more q at r t)))

      -- what comes of an answer
      module _ (y : Value) (u : WorldState) (called : Calls w (call_to f row) asked.state y u) where
        behind : LaterWorld at u
        behind = later_then at asked.state u asked-at (calls-later w f row asked.state y u called)

        -- (map cdr ls), on which the loop goes on
        abbrev left : Listed w (value.Prim (record { 0 = ops.MAP })) (value.Prim (record { 0 = ops.CDR }) ∷ lv ∷ []) u (d ∷ ds)
        left = loop.left w knows 29 28 31 32 for_all_loop knows.for_all_loop p home names f lv s round l more lists u behind row (d ∷ ds) pairs

        till-left : LaterWorld u left.state
        till-left = loop.left-later w knows 29 28 31 32 for_all_loop knows.for_all_loop p home names f lv s round l more lists u behind row (d ∷ ds) pairs

        far : LaterWorld s left.state
        far = later_then s at left.state enter (later_then at u left.state behind till-left)

        again-iff : truth_of y ≡ true → (r : CallEnd) (t : WorldState) → Iff (Ends ((two_arms w (eval_of w) (app (var 28) (var 31 ∷ cdrs (var 32) ∷ [])) no_more q) y u) r t) (CallEnds w (call_to g (f ∷ left.value ∷ [])) left.state r t)
        again-iff e r t =
            iff-then (true-arm w (app (var 28) (var 31 ∷ cdrs (var 32) ∷ [])) no_more q y u r t e)
            (loop.again-iff w knows 29 28 31 32 for_all_loop knows.for_all_loop p home names f lv s round l more lists u behind row (d ∷ ds) pairs r t)

        ends-here : truth_of y ≡ false → Ends ((two_arms w (eval_of w) (app (var 28) (var 31 ∷ cdrs (var 32) ∷ [])) no_more q) y u) (Ok (truth false)) u
        ends-here e = (false-arm w (app (var 28) (var 31 ∷ cdrs (var 32) ∷ [])) no_more q y u (Ok (truth false)) u e).1 (bool-is w _ false q u)

      next-ends : (next : List Value) (rows : List (List Value)) → is_nil d ≡ false → (r : CallEnd) (u : WorldState) (called : CallEnds w (call_to f row) asked.state r u)
          → AfterValue r (λ y. truth_of y ≡ true → ForAllEnds w f (next ∷ rows) u)
          → ((v : WorldState) (lw : Value) → LaterWorld s v → IsList v.cells (d ∷ ds) lw → ForAllEnds w f (next ∷ rows) v → Holds (next ∷ rows) lw v) → Holds (row ∷ next ∷ rows) lv s
      next-ends next rows e (Err b) u called a again = (Err b, u, (next-iff e (Err b) u).1 (stopped ((ask-iff (Err b) u).1 called)), all_stops till-asked called)
      next-ends next rows e (Ok y) u called a again =
          by-truth (truth_of y) (Holds (row ∷ next ∷ rows) lv s)
          (λ is. let m = again (left y u called).state (left y u called).value (far y u called) (left y u called).list (for-all-ends-later w f (next ∷ rows) u (left y u called).state (till-left y u called) (a is)) in (
            m.0,
            m.1,
            (next-iff e m.0 m.1).1 (went y u ((ask-iff (Ok y) u).1 called) ((again-iff y u called is m.0 m.1).1 m.2)),
            all_so_far till-asked called is (all-from w f (next ∷ rows) m.0 u (left y u called).state m.1 (till-left y u called) m.3),
          ))
          (λ is. (Ok (truth false), u, (next-iff e (Ok (truth false)) u).1 (went y u ((ask-iff (Ok y) u).1 called) (ends-here y u called is)), all_but till-asked called is))

      next-did : (next : List Value) (rows : List (List Value)) → is_nil d ≡ false → (r : CallEnd) (t : WorldState) → CallEnds w (call_to g (f ∷ lv ∷ [])) s r t
          → ((v : WorldState) (lw : Value) → LaterWorld s v → IsList v.cells (d ∷ ds) lw → (e : CallEnd) (o : WorldState) → CallEnds w (call_to g (f ∷ lw ∷ [])) v e o → ForAllByRows w f (next ∷ rows) v e o)
          → ForAllByRows w f (row ∷ next ∷ rows) s r t
      next-did next rows e r t called again = by r t ((next-iff e r t).0 called)
        where
          first : (y : Value) (u : WorldState) → Evaluates w (on_cars (var 31) (var 32)) q at y u → Calls w (call_to f row) asked.state y u
          first y u h = (ask-iff (Ok y) u).0 h

          by : (r : CallEnd) (t : WorldState) → Split (eval_of w (on_cars (var 31) (var 32)) q at) (two_arms w (eval_of w) (app (var 28) (var 31 ∷ cdrs (var 32) ∷ [])) no_more q) r t → ForAllByRows w f (row ∷ next ∷ rows) s r t
          by r t (stopped {e = b} h) = all_stops till-asked ((ask-iff (Err b) t).0 h)
          by r t (went y u g1 onward) =
              by-truth (truth_of y) (ForAllByRows w f (row ∷ next ∷ rows) s r t)
              (λ is. all_so_far till-asked (first y u g1) is (all-from w f (next ∷ rows) r u (left y u (first y u g1)).state t (till-left y u (first y u g1))
              (again (left y u (first y u g1)).state (left y u (first y u g1)).value (far y u (first y u g1)) (left y u (first y u g1)).list r t ((again-iff y u (first y u g1) is r t).0 onward))))
              (λ is. subst (λ a. ForAllByRows w f (row ∷ next ∷ rows) s r a) (ends-one-state ((two_arms w (eval_of w) (app (var 28) (var 31 ∷ cdrs (var 32) ∷ [])) no_more q) y u) (Ok (truth false)) r u t (ends-here y u (first y u g1) is) onward)
              (subst (λ a. ForAllByRows w f (row ∷ next ∷ rows) s a u) (ends-one-end ((two_arms w (eval_of w) (app (var 28) (var 31 ∷ cdrs (var 32) ∷ [])) no_more q) y u) (Ok (truth false)) r u t (ends-here y u (first y u g1) is) onward) (all_but till-asked (first y u g1) is)))

  for-all-ends : (rows : List (List Value)) (lv l : Value) (more : List Value) (s : WorldState) → Home s.cells p home → IsList s.cells (l ∷ more) lv → InRows s.cells rows (l ∷ more)
      → ForAllEnds w f rows s → Holds rows lv s
  for-all-ends [] lv l more s round lists r give = (Ok (truth true), at lv l more s round lists, nothing lv l more s round lists (rows-none r), all_none (enter lv l more s round lists))
  for-all-ends (row ∷ []) lv l more s round lists r give =
      let c = rows-some r in
      let made = give (asked lv l more s round lists row c.x c.d c.ds c.pairs c.is).state (till-asked lv l more s round lists row c.x c.d c.ds c.pairs c.is) in (
        made.0,
        made.1,
        (last-iff lv l more s round lists row c.x c.d c.ds c.pairs c.is (rows-none c.behind) made.0 made.1).1 made.2,
        all_last (till-asked lv l more s round lists row c.x c.d c.ds c.pairs c.is) made.2,
      )
  for-all-ends (row ∷ next ∷ rows) lv l more s round lists r give =
      let c = rows-some r in
      let b = rows-some c.behind in
      let made = give (asked lv l more s round lists row c.x c.d c.ds c.pairs c.is).state (till-asked lv l more s round lists row c.x c.d c.ds c.pairs c.is) in
      next-ends lv l more s round lists row c.x c.d c.ds c.pairs c.is next rows (pair-not-nil s.cells c.d b.x b.d b.is) made.0 made.1 made.2 made.3
      (λ v lw k is a. for-all-ends (next ∷ rows) lw c.d c.ds v (home-later s v k p home round) is (rows-later s v k c.behind) a)

  -- whatever a call came to, it did so
  for-all-did : (rows : List (List Value)) (lv l : Value) (more : List Value) (s : WorldState) → Home s.cells p home → IsList s.cells (l ∷ more) lv → InRows s.cells rows (l ∷ more)
      → (r : CallEnd) (t : WorldState) → CallEnds w (call_to g (f ∷ lv ∷ [])) s r t → ForAllByRows w f rows s r t
  for-all-did [] lv l more s round lists rs r t called =
      let done = nothing lv l more s round lists (rows-none rs) in
      subst (λ a. ForAllByRows w f [] s r a) (ends-one-state (call_of w (call_to g (f ∷ lv ∷ [])) s) (Ok (truth true)) r (at lv l more s round lists) t done called)
      (subst (λ a. ForAllByRows w f [] s a (at lv l more s round lists)) (ends-one-end (call_of w (call_to g (f ∷ lv ∷ [])) s) (Ok (truth true)) r (at lv l more s round lists) t done called) (all_none (enter lv l more s round lists)))
  for-all-did (row ∷ []) lv l more s round lists rs r t called =
      let c = rows-some rs in
      all_last (till-asked lv l more s round lists row c.x c.d c.ds c.pairs c.is) ((last-iff lv l more s round lists row c.x c.d c.ds c.pairs c.is (rows-none c.behind) r t).0 called)
  for-all-did (row ∷ next ∷ rows) lv l more s round lists rs r t called =
      let c = rows-some rs in
      let b = rows-some c.behind in
      next-did lv l more s round lists row c.x c.d c.ds c.pairs c.is next rows (pair-not-nil s.cells c.d b.x b.d b.is) r t called
      (λ v lw k is e o h. for-all-did (next ∷ rows) lw c.d c.ds v (home-later s v k p home round) is (rows-later s v k c.behind) e o h)

module _ (w : PlainSetting) (knows : Knows w.codes) (f l : Value) (more : List Value) (rows : List (List Value)) (s : WorldState) (r : InRows s.cells rows (l ∷ more)) where
  abbrev enter_names : EnterNames 28 37 38 39 (value.Closure (code_no 29) (home_place w s 28 29))
  enter_names = record { procedure = λ f l ls. refl; list = λ f l ls. refl; lists = λ f l ls. refl; no_loop = λ f l ls. refl; loop = refl }

  module _ (is_text : has_text ops.FOR_ALL ≡ true) where
    abbrev begun : WorldState
    begun = loop.loop_state w s 28 29 ops.FOR_ALL 35 37 38 39 31 32 for_all_loop refl refl is_text enter_names knows.for_all_text knows.for_all_body f l more

    abbrev lv : Value
    lv = loop.lists_value w s 28 29 ops.FOR_ALL 35 37 38 39 31 32 for_all_loop refl refl is_text enter_names knows.for_all_text knows.for_all_body f l more

    far-begun : LaterWorld s begun
    far-begun = loop.loop-later w s 28 29 ops.FOR_ALL 35 37 38 39 31 32 for_all_loop refl refl is_text enter_names knows.for_all_text knows.for_all_body f l more

    begun-home : Home begun.cells (home_place w s 28 29) (one_home (label 28) (code_no 29) (home_place w s 28 29))
    begun-home = loop.loop-home w s 28 29 ops.FOR_ALL 35 37 38 39 31 32 for_all_loop refl refl is_text enter_names knows.for_all_text knows.for_all_body f l more

    begun-lists : IsList begun.cells (l ∷ more) lv
    begun-lists = loop.lists-are w s 28 29 ops.FOR_ALL 35 37 38 39 31 32 for_all_loop refl refl is_text enter_names knows.for_all_text knows.for_all_body f l more

    begun-iff : (e : CallEnd) (t : WorldState) → Iff (CallEnds w (call_to (value.Prim (record { 0 = ops.FOR_ALL })) (f ∷ l ∷ more)) s e t) (CallEnds w (call_to (value.Closure (code_no 29) (home_place w s 28 29)) (f ∷ lv ∷ [])) begun e t)
    begun-iff = loop.entered-iff w s 28 29 ops.FOR_ALL 35 37 38 39 31 32 for_all_loop refl refl is_text enter_names knows.for_all_text knows.for_all_body f l more

    ended-by : ForAllEnds w f rows s → (e : CallEnd) × (t : WorldState) × CallEnds w (call_to (value.Prim (record { 0 = ops.FOR_ALL })) (f ∷ l ∷ more)) s e t × ForAllByRows w f rows s e t
    ended-by give =
        let m = for-all-ends w knows f (home_place w s 28 29) rows lv l more begun begun-home begun-lists (rows-later s begun far-begun r) (for-all-ends-later w f rows s begun far-begun give) in
        (m.0, m.1, (begun-iff m.0 m.1).1 m.2, all-from w f rows m.0 s begun m.1 far-begun m.3)

    did-by : (e : CallEnd) (t : WorldState) → CallEnds w (call_to (value.Prim (record { 0 = ops.FOR_ALL })) (f ∷ l ∷ more)) s e t → ForAllByRows w f rows s e t
    did-by e t called =
        all-from w f rows e s begun t far-begun
        (for-all-did w knows f (home_place w s 28 29) rows lv l more begun begun-home begun-lists (rows-later s begun far-begun r) e t ((begun-iff e t).0 called))

  pub for-all-ended : ForAllEnds w f rows s → (e : CallEnd) × (t : WorldState) × CallEnds w (call_to (value.Prim (record { 0 = ops.FOR_ALL })) (f ∷ l ∷ more)) s e t × ForAllByRows w f rows s e t
  unfolding has_text
  for-all-ended give = ended-by refl give

  pub for-all-only : (e : CallEnd) (t : WorldState) → CallEnds w (call_to (value.Prim (record { 0 = ops.FOR_ALL })) (f ∷ l ∷ more)) s e t → ForAllByRows w f rows s e t
  unfolding has_text
  for-all-only e t called = did-by refl e t called
