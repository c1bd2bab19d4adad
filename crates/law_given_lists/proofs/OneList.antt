-- Of one list, whose rows are its elements.
use Rattle.std.proofs.Common.{List, [], ◌∷◌, map, Ok}
use Rattle.base_data.specs.declared.op.names.TheConstants as names
use Rattle.eval_value.specs.declared.value.Value.{Value}
use Rattle.eval_code.specs.Setting.{PlainSetting}
use Rattle.eval_code.specs.State.{WorldState}
use Rattle.law_lists.specs.Runs.{IsList}
use Rattle.law_given.specs.Calls.{call_to, Calls}
use Rattle.law_given.specs.Given.{built_in, ForAlls, Existences, FoldsLeft, FoldsRight}
use Rattle.law_given.specs.InTurn as given
use Rattle.law_given.proofs.Knows.{Knows}
use Rattle.law_given.proofs.Later.{later-refl}
use Rattle.law_given_lists.specs.RowCalls.{ForAllByRows, all_none, all_last, all_but, all_so_far, ForAllGives, ExistsByRows, some_none, some_last, some_here, some_behind, ExistsGives}
use Rattle.law_given_lists.specs.RowCalls.{FoldLeftByRows, left_end, left_step, FoldLeftGives, FoldRightByRows, right_end, right_step, FoldRightGives}
use Rattle.law_given_lists.proofs.ExistsRows.{exists-only}
use Rattle.law_given_lists.proofs.FoldLeftRows.{fold-left-only}
use Rattle.law_given_lists.proofs.FoldRightRows.{fold-right-only}
use Rattle.law_given_lists.proofs.ForAllRows.{for-all-only}
use Rattle.law_given_lists.proofs.RowLemmas.{one-in-rows}
use Rattle.law_given_lists.proofs.RowValues.{for-all-gives, exists-gives, left-gives, right-gives}

-- the rows of one list
abbrev singles : List Value → List (List Value)
singles xs = map (λ x. x ∷ []) xs

module _ (w : PlainSetting) (f : Value) where
  all-of-one : (xs : List Value) (s : WorldState) (v : Value) (t : WorldState) → ForAllByRows w f (singles xs) s (Ok v) t → given.ForAll w f xs s v t
  all-of-one [] s v t (all_none h) = given.all_none h
  all-of-one (x ∷ []) s v t (all_last h c) = given.all_last h c (later-refl t)
  all-of-one (x ∷ z ∷ xs) s v t (all_but h c e) = given.all_but h c e (later-refl t)
  all-of-one (x ∷ z ∷ xs) s v t (all_so_far {u = u} h c e i) = given.all_so_far h c e (all-of-one (z ∷ xs) u v t i)

  exists-of-one : (xs : List Value) (s : WorldState) (v : Value) (t : WorldState) → ExistsByRows w f (singles xs) s (Ok v) t → given.Exists w f xs s v t
  exists-of-one [] s v t (some_none h) = given.some_none h
  exists-of-one (x ∷ []) s v t (some_last h c) = given.some_last h c (later-refl t)
  exists-of-one (x ∷ z ∷ xs) s v t (some_here h c e k) = given.some_here h c e k
  exists-of-one (x ∷ z ∷ xs) s v t (some_behind {u = u} h c e i) = given.some_behind h c e (exists-of-one (z ∷ xs) u v t i)

  right-of-one : (z : Value) (xs : List Value) (s : WorldState) (v : Value) (t : WorldState) → FoldRightByRows w f z (singles xs) s (Ok v) t → given.FoldRight w f z xs s v t
  right-of-one z [] s v t (right_end h) = given.right_end h
  right-of-one z (x ∷ xs) s v t (right_step {x = y} {t = u} i h c) = given.right_step (right-of-one z xs s y u i) h c

  left-of-one : (z : Value) (xs : List Value) (s : WorldState) (v : Value) (t : WorldState) → FoldLeftByRows w f z (singles xs) s (Ok v) t → given.FoldLeft w f z xs s v t
  left-of-one z [] s v t (left_end h) = given.left_end h
  left-of-one z (x ∷ xs) s v t (left_step {y = y} {u = u} h c i) = given.left_step h c (left-of-one y xs u v t i)

  -- what is asked of the calls

  all-asks : (xs : List Value) (s : WorldState) → given.ForAllGives w f xs s → ForAllGives w f (singles xs) s
  all-asks [] s g = tt
  all-asks (x ∷ xs) s g = λ t k. let c = g t k in (c.0, c.1, c.2, λ e. all-asks xs c.1 (c.3 e))

  exists-asks : (xs : List Value) (s : WorldState) → given.SearchGives w f xs s → ExistsGives w f (singles xs) s
  exists-asks [] s g = tt
  exists-asks (x ∷ xs) s g = λ t k. let c = g t k in (c.0, c.1, c.2, λ e. exists-asks xs c.1 (c.3 e))

  left-asks : (z : Value) (xs : List Value) (s : WorldState) → given.FoldLeftGives w f z xs s → FoldLeftGives w f z (singles xs) s
  left-asks z [] s g = tt
  left-asks z (x ∷ xs) s g = λ t k. let c = g t k in (c.0, c.1, c.2, left-asks c.0 xs c.1 c.3)

  right-asks : (z : Value) (xs : List Value) (s : WorldState) → given.FoldRightGives w f z xs s → FoldRightGives w f z (singles xs) s
  right-asks z [] s g = tt
  right-asks z (x ∷ xs) s g = (right-asks z xs s g.0, λ r t u i k. g.1 r t u (right-of-one z xs s r t i) k)

-- By the laws of any number of lists.

module _ (w : PlainSetting) (knows : Knows w.codes) (f l : Value) (xs : List Value) (s : WorldState) (r : IsList s.cells xs l) where
  pub for-all-of-one : given.ForAllGives w f xs s → ForAlls w (call_to (built_in names.FOR_ALL) (f ∷ l ∷ [])) f xs s
  for-all-of-one g = by (for-all-gives w knows f l [] (singles xs) s (one-in-rows r) (all-asks w f xs s g))
    where
      by : ((v : Value) × (t : WorldState) × Calls w (call_to (built_in names.FOR_ALL) (f ∷ l ∷ [])) s v t × ForAllByRows w f (singles xs) s (Ok v) t) → ForAlls w (call_to (built_in names.FOR_ALL) (f ∷ l ∷ [])) f xs s
      by m = record { value = m.0; state = m.1; called = m.2; all = all-of-one w f xs s m.0 m.1 m.3 }

  pub for-all-of-one-only : (v : Value) (t : WorldState) → Calls w (call_to (built_in names.FOR_ALL) (f ∷ l ∷ [])) s v t → given.ForAll w f xs s v t
  for-all-of-one-only v t called = all-of-one w f xs s v t (for-all-only w knows f l [] (singles xs) s (one-in-rows r) (Ok v) t called)

  pub exists-of-list : given.SearchGives w f xs s → Existences w (call_to (built_in names.EXISTS) (f ∷ l ∷ [])) f xs s
  exists-of-list g = by (exists-gives w knows f l [] (singles xs) s (one-in-rows r) (exists-asks w f xs s g))
    where
      by : ((v : Value) × (t : WorldState) × Calls w (call_to (built_in names.EXISTS) (f ∷ l ∷ [])) s v t × ExistsByRows w f (singles xs) s (Ok v) t) → Existences w (call_to (built_in names.EXISTS) (f ∷ l ∷ [])) f xs s
      by m = record { value = m.0; state = m.1; called = m.2; exists = exists-of-one w f xs s m.0 m.1 m.3 }

  pub exists-of-list-only : (v : Value) (t : WorldState) → Calls w (call_to (built_in names.EXISTS) (f ∷ l ∷ [])) s v t → given.Exists w f xs s v t
  exists-of-list-only v t called = exists-of-one w f xs s v t (exists-only w knows f l [] (singles xs) s (one-in-rows r) (Ok v) t called)

  module _ (z : Value) where
    pub left-of-list : given.FoldLeftGives w f z xs s → FoldsLeft w (call_to (built_in names.FOLD_LEFT) (f ∷ z ∷ l ∷ [])) f z xs s
    left-of-list g = by (left-gives w knows f z l [] (singles xs) s (one-in-rows r) (left-asks w f z xs s g))
      where
        by : ((v : Value) × (t : WorldState) × Calls w (call_to (built_in names.FOLD_LEFT) (f ∷ z ∷ l ∷ [])) s v t × FoldLeftByRows w f z (singles xs) s (Ok v) t) → FoldsLeft w (call_to (built_in names.FOLD_LEFT) (f ∷ z ∷ l ∷ [])) f z xs s
        by m = record { value = m.0; state = m.1; called = m.2; fold = left-of-one w f z xs s m.0 m.1 m.3 }

    pub left-of-list-only : (v : Value) (t : WorldState) → Calls w (call_to (built_in names.FOLD_LEFT) (f ∷ z ∷ l ∷ [])) s v t → given.FoldLeft w f z xs s v t
    left-of-list-only v t called = left-of-one w f z xs s v t (fold-left-only w knows f z l [] (singles xs) s (one-in-rows r) (Ok v) t called)

    pub right-of-list : given.FoldRightGives w f z xs s → FoldsRight w (call_to (built_in names.FOLD_RIGHT) (f ∷ z ∷ l ∷ [])) f z xs s
    right-of-list g = by (right-gives w knows f z l [] (singles xs) s (one-in-rows r) (right-asks w f z xs s g))
      where
        by : ((v : Value) × (t : WorldState) × Calls w (call_to (built_in names.FOLD_RIGHT) (f ∷ z ∷ l ∷ [])) s v t × FoldRightByRows w f z (singles xs) s (Ok v) t) → FoldsRight w (call_to (built_in names.FOLD_RIGHT) (f ∷ z ∷ l ∷ [])) f z xs s
        by m = record { value = m.0; state = m.1; called = m.2; fold = right-of-one w f z xs s m.0 m.1 m.3 }

    pub right-of-list-only : (v : Value) (t : WorldState) → Calls w (call_to (built_in names.FOLD_RIGHT) (f ∷ z ∷ l ∷ [])) s v t → given.FoldRight w f z xs s v t
    right-of-list-only v t called = right-of-one w f z xs s v t (fold-right-only w knows f z l [] (singles xs) s (one-in-rows r) (Ok v) t called)
