-- Frames and their rows.
use Rattle.std.specs.Prelude.{◌≡◌, ℕ, zero, suc, Bool, true, false, cond, List, [], ◌∷◌, ◌++◌, take, ◌≤◌, length, Option, None, Some, is_some, Result, Ok, Err, OnOk, OnErr, refl}
use Rattle.std.proofs.Common.{sym, ◌∙◌, ap, subst, arith, true≢false}
use Rattle.std.specs.Map.{lookup, set_value}
use Rattle.indexmap.specs.IndexMap.{IndexMap, insert_entry}
use Rattle.indexmap.proofs.CallerLemmas.{insert_entry-new}
use Rattle.base_data.specs.Gives.{BareGives}
use Rattle.base_data.specs.Same.{same_name_equiv}
use Rattle.base_data.specs.declared.fault.Bare.{Bare}
use Rattle.base_data.specs.declared.fault.BareStop.{BareStop}
use Rattle.base_data.specs.declared.fault.BareStop.TheVariants as bare_stop
use Rattle.base_data.specs.declared.name.FrameNo.{FrameNo}
use Rattle.stx_frames.specs.Rows.{Row, label_in, put_row, second_binder}
use Rattle.stx_frames.specs.Scope.{Scope, same_frame, has_frame, rows_at, label_at, with_row, bound}

abbrev pub or_empty : Option (List Row) → List Row
or_empty None = []
or_empty (Some rs) = rs

or_empty-cond : (b : Bool) (rs : List Row) (o : Option (List Row)) → cond b rs (or_empty o) ≡ or_empty (cond b (Some rs) o)
or_empty-cond true rs o = refl
or_empty-cond false rs o = refl

is_some-cond : (b : Bool) (rs : List Row) (o : Option (List Row)) → cond b true (is_some o) ≡ is_some (cond b (Some rs) o)
is_some-cond true rs o = refl
is_some-cond false rs o = refl

pub rows_at-lookup : (f : FrameNo) (es : Scope) → rows_at f es ≡ or_empty (lookup (same_frame f) es)
rows_at-lookup f [] = refl
rows_at-lookup f (e ∷ es) = ap (cond (same_frame f e.0) e.1) (rows_at-lookup f es) ∙ or_empty-cond (same_frame f e.0) e.1 (lookup (same_frame f) es)

pub has_frame-lookup : (f : FrameNo) (es : Scope) → has_frame f es ≡ is_some (lookup (same_frame f) es)
has_frame-lookup f [] = refl
has_frame-lookup f (e ∷ es) = ap (cond (same_frame f e.0) true) (has_frame-lookup f es) ∙ is_some-cond (same_frame f e.0) e.1 (lookup (same_frame f) es)

pub lookup-absent : (f : FrameNo) (es : Scope) → has_frame f es ≡ false → lookup (same_frame f) es ≡ None
lookup-absent f es h = by (lookup (same_frame f) es) (sym (has_frame-lookup f es) ∙ h)
  where
    by : (o : Option (List Row)) → is_some o ≡ false → o ≡ None
    by None e = refl
    by (Some x) e = absurd (true≢false e)

-- the rows that a look-up found
pub found_rows : (f : FrameNo) (es fs : Scope) (rs : List Row) → Some rs ≡ lookup (same_frame f) es → es ≡ fs → rows_at f fs ≡ rs
found_rows f es fs rs h v = sym (ap (rows_at f) v) ∙ rows_at-lookup f es ∙ ap or_empty (sym h)

pub no_rows : (f : FrameNo) (es fs : Scope) → None ≡ lookup (same_frame f) es → es ≡ fs → rows_at f fs ≡ []
no_rows f es fs h v = sym (ap (rows_at f) v) ∙ rows_at-lookup f es ∙ ap or_empty (sym h)

-- what was lent and came back with a row more
set_value-row : (f : FrameNo) (r : Row) (es : Scope) (rs : List Row) → lookup (same_frame f) es ≡ Some rs → set_value (same_frame f) es (rs ++ r ∷ []) ≡ with_row es f r
set_value-row f r [] rs h = cc
set_value-row f r (e ∷ es) rs h = by (same_frame f e.0) h (set_value-row f r es rs)
  where
    by : (b : Bool) → cond b (Some e.1) (lookup (same_frame f) es) ≡ Some rs → (lookup (same_frame f) es ≡ Some rs → set_value (same_frame f) es (rs ++ r ∷ []) ≡ with_row es f r)
        → cond b ((e.0, rs ++ r ∷ []) ∷ es) (e ∷ set_value (same_frame f) es (rs ++ r ∷ [])) ≡ cond b ((e.0, e.1 ++ r ∷ []) ∷ es) (e ∷ with_row es f r)
    by true h k = let s : rs ≡ e.1 = cc in ap (λ (xs : List Row). (e.0, xs ++ r ∷ []) ∷ es) s
    by false h k = ap (λ xs. e ∷ xs) (k h)

module _ {X : Type 0} (f : FrameNo) (row : Row) (es fs gs : Scope) (rs new : List Row)
    (found : Some rs ≡ lookup (same_frame f) es) (view : es ≡ fs) (back : gs ≡ set_value (same_frame f) es new) where
  -- what a table answers is what its frames answer
  pub bound_as_put : (r : Result X BareStop) → BareGives (λ _. new) r (put_row rs row) → BareGives (λ _. gs) r (bound fs f row)
  bound_as_put r h = answer r h (is_some (label_in rs row.symbol row.marks)) refl
    where
      there : rows_at f fs ≡ rs
      there = found_rows f es fs rs found view

      same : is_some (label_at fs f row.symbol row.marks) ≡ is_some (label_in rs row.symbol row.marks)
      same = ap (λ xs. is_some (label_in xs row.symbol row.marks)) there

      given : (b : Bool) → is_some (label_in rs row.symbol row.marks) ≡ b → bound fs f row ≡ cond {A = Result Scope Bare} b (Err (second_binder row.symbol)) (Ok (with_row fs f row))
      given b e = ap (λ v. cond {A = Result Scope Bare} v (Err (second_binder row.symbol)) (Ok (with_row fs f row))) (same ∙ e)

      put : (b : Bool) → is_some (label_in rs row.symbol row.marks) ≡ b → put_row rs row ≡ cond {A = Result (List Row) Bare} b (Err (second_binder row.symbol)) (Ok (rs ++ row ∷ []))
      put b e = ap (λ v. cond {A = Result (List Row) Bare} v (Err (second_binder row.symbol)) (Ok (rs ++ row ∷ []))) e

      more : new ≡ rs ++ row ∷ [] → gs ≡ with_row fs f row
      more e = back ∙ ap (set_value (same_frame f) es) e ∙ set_value-row f row es rs (sym found) ∙ ap (λ (x : Scope). with_row x f row) view

      answer : (r : Result X BareStop) → BareGives (λ _. new) r (put_row rs row) → (b : Bool) → is_some (label_in rs row.symbol row.marks) ≡ b → BareGives (λ _. gs) r (bound fs f row)
      answer (Ok x) h true e = let p = put true e in absurd (cc)
      answer (Ok x) h false e = let p = put false e in let n : new ≡ rs ++ row ∷ [] = cc in given false e ∙ ap Ok (sym (more n))
      answer (Err (bare_stop.Fault g)) h true e = let p = put true e in let n : second_binder row.symbol ≡ g = cc in given true e ∙ ap Err n
      answer (Err (bare_stop.Fault g)) h false e = let p = put false e in absurd (cc)
      answer (Err bare_stop.Memory) h b e = tt

pub with_row-absent : (f : FrameNo) (r : Row) (es : Scope) → has_frame f es ≡ false → with_row es f r ≡ es ++ (f, r ∷ []) ∷ []
with_row-absent f r [] h = refl
with_row-absent f r (e ∷ es) h = by (same_frame f e.0) h (with_row-absent f r es)
  where
    by : (b : Bool) → cond b true (has_frame f es) ≡ false → (has_frame f es ≡ false → with_row es f r ≡ es ++ (f, r ∷ []) ∷ [])
        → cond b ((e.0, e.1 ++ r ∷ []) ∷ es) (e ∷ with_row es f r) ≡ e ∷ (es ++ (f, r ∷ []) ∷ [])
    by true h k = absurd (true≢false h)
    by false h k = ap (λ xs. e ∷ xs) (k h)

pub same_frame-self : (f : FrameNo) → same_frame f f ≡ true
same_frame-self f = same_name_equiv.refl f.0

pub take-with_row : (f : FrameNo) (r : Row) (n : ℕ) (es : Scope) → n ≤ length es → has_frame f (take n es) ≡ false → take n (with_row es f r) ≡ take n es
take-with_row f r zero es l h = refl
take-with_row f r (suc n) [] l h = absurd (omega arith)
take-with_row f r (suc n) (e ∷ es) l h = by (same_frame f e.0) h (take-with_row f r n es (omega arith))
  where
    by : (b : Bool) → cond b true (has_frame f (take n es)) ≡ false → (has_frame f (take n es) ≡ false → take n (with_row es f r) ≡ take n es)
        → take (suc n) (cond b ((e.0, e.1 ++ r ∷ []) ∷ es) (e ∷ with_row es f r)) ≡ e ∷ take n es
    by true h k = absurd (true≢false h)
    by false h k = ap (λ xs. e ∷ xs) (k h)

pub length-with_row : (f : FrameNo) (r : Row) (es : Scope) → length es ≤ length (with_row es f r)
length-with_row f r [] = omega arith
length-with_row f r (e ∷ es) = by (same_frame f e.0) (length-with_row f r es)
  where
    by : (b : Bool) → length es ≤ length (with_row es f r) → length (e ∷ es) ≤ length (cond b ((e.0, e.1 ++ r ∷ []) ∷ es) (e ∷ with_row es f r))
    by true k = omega arith
    by false k = omega arith

-- the first row of a frame is taken
pub bound-absent : (fs : Scope) (f : FrameNo) (r : Row) → has_frame f fs ≡ false → bound fs f r ≡ Ok (with_row fs f r)
bound-absent fs f r h = ap (λ (rs : List Row). cond {A = Result Scope Bare} (is_some (label_in rs r.symbol r.marks)) (Err (second_binder r.symbol)) (Ok (with_row fs f r))) none
  where
    none : rows_at f fs ≡ []
    none = rows_at-lookup f fs ∙ ap or_empty (lookup-absent f fs h)

module _ {X : Type 0} (f : FrameNo) (row row' : Row) (fs gs : Scope) (same : row' ≡ row) where
  -- a row more, where it is taken
  pub added : (r : Result X BareStop) → BareGives (λ _. gs) r (bound fs f row') → OnOk r (gs ≡ with_row fs f row)
  added (Ok x) g = by (is_some (label_at fs f row'.symbol row'.marks)) g ∙ ap (with_row fs f) same
    where
      by : (b : Bool) → cond {A = Result Scope Bare} b (Err (second_binder row'.symbol)) (Ok (with_row fs f row')) ≡ Ok gs → gs ≡ with_row fs f row'
      by true e = absurd (cc)
      by false e = cc
  added (Err e) g = tt

  -- what stands before is as it was
  pub added_front : (r : Result X BareStop) → BareGives (λ _. gs) r (bound fs f row') → OnErr r (gs ≡ fs) → (n : ℕ) → n ≤ length fs → has_frame f (take n fs) ≡ false → take n gs ≡ take n fs
  added_front (Ok x) g u n l h = ap (take n) (added (Ok x) g) ∙ take-with_row f row n fs l h
  added_front (Err x) g u n l h = ap (take n) u

  pub added_grown : (r : Result X BareStop) → BareGives (λ _. gs) r (bound fs f row') → OnErr r (gs ≡ fs) → length fs ≤ length gs
  added_grown (Ok x) g u = subst (λ (y : Scope). length fs ≤ length y) (sym (added (Ok x) g)) (length-with_row f row fs)
  added_grown (Err x) g u = subst (λ (y : Scope). length fs ≤ length y) (sym u) (omega arith)

-- a frame that is new, with its first row
pub bound_first : {S : Type 0} (m : IndexMap FrameNo (List Row) S) (f f' : FrameNo) (r : Row) (fs gs : Scope) (rs none : List Row) → has_frame f fs ≡ false → m.entries ≡ fs → f' ≡ f → none ≡ []
    → put_row none r ≡ Ok rs → gs ≡ insert_entry same_frame m.entries f' rs → bound fs f r ≡ Ok gs
bound_first m f f' r fs gs rs none h view name empty put made =
    let p : Ok (r ∷ []) ≡ Ok rs = ap (λ xs. put_row xs r) (sym empty) ∙ put in
    let one : r ∷ [] ≡ rs = cc in
    let absent : has_frame f' m.entries ≡ false = ap (λ g. has_frame g m.entries) name ∙ ap (has_frame f) view ∙ h in
    bound-absent fs f r h
    ∙ ap Ok
    (with_row-absent f r fs h
    ∙ sym
    (made ∙ insert_entry-new same_frame m f' rs (lookup-absent f' m.entries absent)
    ∙ (λ i. view i ++ (name i, sym one i) ∷ [])))
