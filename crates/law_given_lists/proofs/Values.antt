-- Where each call gives a value, so does the whole.
use Rattle.std.proofs.Common.{◌≡◌, List, [], ◌∷◌, ◌++◌, Ok, Err, true, false, refl, ap, sym, subst, ◌∙◌}
use Rattle.base_data.specs.declared.fault.Bare.{Bare}
use Rattle.eval_value.specs.declared.value.Value.{Value}
use Rattle.eval_prims.specs.Answers.{truth}
use Rattle.eval_code.specs.Procedures.{truth_of}
use Rattle.eval_code.specs.Setting.{PlainSetting}
use Rattle.eval_code.specs.State.{WorldState}
use Rattle.law_given.specs.Calls.{CallEnd, call_to, call_of, CallEnds, Calls}
use Rattle.law_given.proofs.Unique.{gives-one-value, gives-one-state, ends-one-end}
use Rattle.law_given_lists.specs.Done.{MapDid, VisitDid}
use Rattle.law_given_lists.specs.RowCalls.{RowsStop, stops_here, stops_behind, AllEnd, AllGive, ForAllByRows, all_none, all_last, all_but, all_so_far, all_stops, ForAllEnds, ForAllGives}
use Rattle.law_given_lists.specs.RowCalls.{ExistsByRows, some_none, some_last, some_here, some_behind, some_stops, ExistsEnds, ExistsGives, FoldLeftByRows, left_end, left_step, left_stops, FoldLeftEnds, FoldLeftGives, FoldRightByRows, right_end, right_step, right_stops, FoldRightEnds, FoldRightGives}

abbrev pub IsValue : CallEnd → Type 0
IsValue r = (v : Value) × (r ≡ Ok v)

abbrev IsGiven : CallEnd → Type 0
IsGiven (Ok v) = Unit {0}
IsGiven (Err e) = ⊥

-- a call of which it is known that it gives a value doesn't fault
gave : (w : PlainSetting) (f : Value) (args : List Value) (s t u : WorldState) (v : Value) (e : Bare) → Calls w (call_to f args) s v t → CallEnds w (call_to f args) s (Err e) u → ⊥
gave w f args s t u v e h k = subst IsGiven (ends-one-end (call_of w (call_to f args) s) (Ok v) (Err e) t u h k) tt

-- what comes is a value
value-of : (C D : CallEnd → WorldState → Type 0) (e : CallEnd) (t : WorldState) → IsValue e → C e t → D e t → (v : Value) × (t : WorldState) × C (Ok v) t × D (Ok v) t
value-of C D e t i h d = (i.0, t, subst (λ a. C a t) i.1 h, subst (λ a. D a t) i.1 d)

pub from-ends : (C D : CallEnd → WorldState → Type 0) → ((e : CallEnd) (t : WorldState) → D e t → IsValue e) → ((e : CallEnd) × (t : WorldState) × C e t × D e t) → (v : Value) × (t : WorldState) × C (Ok v) t × D (Ok v) t
from-ends C D values m = value-of C D m.0 m.1 (values m.0 m.1 m.3) m.2 m.3

module _ (w : PlainSetting) (f : Value) where
  pub all-ends : (rows : List (List Value)) (s : WorldState) → AllGive w f rows s → AllEnd w f rows s
  all-ends [] s g = tt
  all-ends (row ∷ rows) s g = λ t k. let c = g t k in (Ok c.0, c.1, c.2, all-ends rows c.1 c.3)

  no-stop : (rows : List (List Value)) (s : WorldState) (e : Bare) (t : WorldState) → AllGive w f rows s → RowsStop w f rows s e t → ⊥
  no-stop [] s e t g i = elim i [ ]
  no-stop (row ∷ rows) s e t g (stops_here {t = u} h c) = let m = g u h in gave w f row u m.1 t m.0 e m.2 c
  no-stop (row ∷ rows) s e t g (stops_behind {y = y} {t = u} {u = v} h c i) =
      let m = g u h in
      no-stop rows v e t (subst (AllGive w f rows) (gives-one-state (call_of w (call_to f row) u) m.0 y m.1 v m.2 c) m.3) i

  pub map-values : (rows : List (List Value)) (s : WorldState) (r : CallEnd) (t : WorldState) → AllGive w f rows s → MapDid w f rows s r t → IsValue r
  map-values rows s (Ok v) t g d = (v, refl)
  map-values rows s (Err e) t g d = absurd (no-stop rows s e t g d)

  pub visit-values : (rows : List (List Value)) (s : WorldState) (r : CallEnd) (t : WorldState) → AllGive w f rows s → VisitDid w f rows s r t → IsValue r
  visit-values rows s (Ok v) t g d = (v, refl)
  visit-values rows s (Err e) t g d = absurd (no-stop rows s e t g d)

  pub for-all-ends : (rows : List (List Value)) (s : WorldState) → ForAllGives w f rows s → ForAllEnds w f rows s
  for-all-ends [] s g = tt
  for-all-ends (row ∷ rows) s g = λ t k. let c = g t k in (Ok c.0, c.1, c.2, λ e. for-all-ends rows c.1 (c.3 e))

  pub for-all-values : (rows : List (List Value)) (s : WorldState) (r : CallEnd) (t : WorldState) → ForAllGives w f rows s → ForAllByRows w f rows s r t → IsValue r
  for-all-values [] s r t g (all_none h) = (truth true, refl)
  for-all-values (row ∷ []) s r t g (all_last {t = u} h c) = let m = g u h in (m.0, ends-one-end (call_of w (call_to f row) u) r (Ok m.0) t m.1 c m.2)
  for-all-values (row ∷ next ∷ rows) s r t g (all_but h c e) = (truth false, refl)
  for-all-values (row ∷ next ∷ rows) s r t g (all_so_far {y = y} {t = u} {u = v} h c e i) =
      let m = g u h in
      for-all-values (next ∷ rows) v r t
      (subst (ForAllGives w f (next ∷ rows)) (gives-one-state (call_of w (call_to f row) u) m.0 y m.1 v m.2 c) (m.3 (ap truth_of (gives-one-value (call_of w (call_to f row) u) m.0 y m.1 v m.2 c) ∙ e))) i
  for-all-values (row ∷ next ∷ rows) s r t g (all_stops {e = e} {t = u} h c) = let m = g u h in absurd (gave w f row u m.1 t m.0 e m.2 c)

  pub exists-ends : (rows : List (List Value)) (s : WorldState) → ExistsGives w f rows s → ExistsEnds w f rows s
  exists-ends [] s g = tt
  exists-ends (row ∷ rows) s g = λ t k. let c = g t k in (Ok c.0, c.1, c.2, λ e. exists-ends rows c.1 (c.3 e))

  pub exists-values : (rows : List (List Value)) (s : WorldState) (r : CallEnd) (t : WorldState) → ExistsGives w f rows s → ExistsByRows w f rows s r t → IsValue r
  exists-values [] s r t g (some_none h) = (truth false, refl)
  exists-values (row ∷ []) s r t g (some_last {t = u} h c) = let m = g u h in (m.0, ends-one-end (call_of w (call_to f row) u) r (Ok m.0) t m.1 c m.2)
  exists-values (row ∷ next ∷ rows) s r t g (some_here {y = y} h c e k) = (y, refl)
  exists-values (row ∷ next ∷ rows) s r t g (some_behind {y = y} {t = u} {u = v} h c e i) =
      let m = g u h in
      exists-values (next ∷ rows) v r t
      (subst (ExistsGives w f (next ∷ rows)) (gives-one-state (call_of w (call_to f row) u) m.0 y m.1 v m.2 c) (m.3 (ap truth_of (gives-one-value (call_of w (call_to f row) u) m.0 y m.1 v m.2 c) ∙ e))) i
  exists-values (row ∷ next ∷ rows) s r t g (some_stops {e = e} {t = u} h c) = let m = g u h in absurd (gave w f row u m.1 t m.0 e m.2 c)

  pub left-ends : (z : Value) (rows : List (List Value)) (s : WorldState) → FoldLeftGives w f z rows s → FoldLeftEnds w f z rows s
  left-ends z [] s g = tt
  left-ends z (row ∷ rows) s g = λ t k. let c = g t k in (Ok c.0, c.1, c.2, left-ends c.0 rows c.1 c.3)

  pub left-values : (z : Value) (rows : List (List Value)) (s : WorldState) (r : CallEnd) (t : WorldState) → FoldLeftGives w f z rows s → FoldLeftByRows w f z rows s r t → IsValue r
  left-values z [] s r t g (left_end h) = (z, refl)
  left-values z (row ∷ rows) s r t g (left_step {y = y} {t = u} {u = v} h c i) =
      let m = g u h in
      left-values y rows v r t
      (subst (λ a. FoldLeftGives w f a rows v) (gives-one-value (call_of w (call_to f (z ∷ row)) u) m.0 y m.1 v m.2 c)
      (subst (FoldLeftGives w f m.0 rows) (gives-one-state (call_of w (call_to f (z ∷ row)) u) m.0 y m.1 v m.2 c) m.3)) i
  left-values z (row ∷ rows) s r t g (left_stops {e = e} {t = u} h c) = let m = g u h in absurd (gave w f (z ∷ row) u m.1 t m.0 e m.2 c)

  pub right-ends : (z : Value) (rows : List (List Value)) (s : WorldState) → FoldRightGives w f z rows s → FoldRightEnds w f z rows s
  right-ends z [] s g = tt
  right-ends z (row ∷ rows) s g = (right-ends z rows s g.0, λ x t u i h. let m = g.1 x t u i h in (Ok m.0, m.1, m.2))

  pub right-values : (z : Value) (rows : List (List Value)) (s : WorldState) (r : CallEnd) (t : WorldState) → FoldRightGives w f z rows s → FoldRightByRows w f z rows s r t → IsValue r
  right-values z [] s r t g (right_end h) = (z, refl)
  right-values z (row ∷ rows) s r t g (right_step {x = x} {t = u} {u = v} i h c) =
      let m = g.1 x u v i h in (m.0, ends-one-end (call_of w (call_to f (row ++ x ∷ [])) v) r (Ok m.0) t m.1 c m.2)
  right-values z (row ∷ rows) s r t g (right_stops {e = e} i) =
      let m = right-values z rows s (Err e) t g.0 i in absurd (subst IsGiven (sym m.1) tt)
