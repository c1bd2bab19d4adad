-- What was kept stays right while frames grow.
use Rattle.std.specs.Prelude.{◌≡◌, ℕ, ◌≤◌, Bool, true, false, cond, ◌&&◌, nat_eq, ◌⊎◌, List, [], ◌∷◌, ◌++◌, length, Option, None, Some, is_some, Result, Ok, Err, OnOk, OnErr, refl}
use Rattle.std.proofs.Common.{sym, ◌∙◌, ap, subst, arith, ⊎_elim, length-append, append-nil, append_assoc}
use Rattle.std.specs.Cmp.{unsigned_Decides, first_so, second_so}
use Rattle.base_data.specs.Gives.{BareGives}
use Rattle.base_data.specs.declared.fault.Bare.{Bare}
use Rattle.base_data.specs.declared.fault.BareStop.{BareStop}
use Rattle.base_data.specs.declared.name.FrameNo.{FrameNo}
use Rattle.base_data.specs.declared.name.Label.{Label}
use Rattle.base_data.specs.declared.name.Mark.{Mark}
use Rattle.stx_tree.specs.declared.frame_row.FrameRow.{FrameRow}
use Rattle.stx_tree.specs.declared.stamp.Stamp.{Stamp}
use Rattle.stx_frames.specs.declared.memo.Answer.{Answer}
use Rattle.stx_frames.specs.Kept.{KeptAnswer, kept, Has}
use Rattle.stx_frames.specs.Right.{sizes_before, same_sizes, AreBelow, IsRight, AllRight}
use Rattle.stx_frames.specs.Rows.{Row, is_of, label_in, second_binder}
use Rattle.stx_frames.specs.Scope.{Scope, same_frame, rows_at, label_at, or_else, label_by, with_row, bound, row_in, adopted}

-- each frame's rows go on
pub record Grows (fs gs : Scope) : Type 0 where
  pub more : (f : FrameNo) → (rs : List Row) × (rows_at f gs ≡ rows_at f fs ++ rs)

grows_refl : (fs : Scope) → Grows fs fs
grows_refl fs = record { more = λ f. ([], sym (append-nil (rows_at f fs))) }

grows_trans : (fs gs hs : Scope) → Grows fs gs → Grows gs hs → Grows fs hs
grows_trans fs gs hs p q = record { more = λ f. ((p.more f).0 ++ (q.more f).0, (q.more f).1 ∙ ap (λ rs. rs ++ (q.more f).0) (p.more f).1 ∙ append_assoc (rows_at f fs) (p.more f).0 (q.more f).0) }

row_more : (fs : Scope) (f : FrameNo) (r : Row) (g : FrameNo) → (rs : List Row) × (rows_at g (with_row fs f r) ≡ rows_at g fs ++ rs)
row_more [] f r g = (cond (same_frame g f) (r ∷ []) [], refl)
row_more (e ∷ es) f r g = by (same_frame f e.0) (row_more es f r g)
  where
    head : (b : Bool) → (rs : List Row) × (cond b (e.1 ++ r ∷ []) (rows_at g es) ≡ cond b e.1 (rows_at g es) ++ rs)
    head true = (r ∷ [], refl)
    head false = ([], sym (append-nil (rows_at g es)))

    rest : (b : Bool) → (rs : List Row) × (rows_at g (with_row es f r) ≡ rows_at g es ++ rs) → (rs : List Row) × (cond b e.1 (rows_at g (with_row es f r)) ≡ cond b e.1 (rows_at g es) ++ rs)
    rest true p = ([], sym (append-nil e.1))
    rest false p = p

    by : (a : Bool) → (rs : List Row) × (rows_at g (with_row es f r) ≡ rows_at g es ++ rs)
        → (rs : List Row) × (rows_at g (cond a ((e.0, e.1 ++ r ∷ []) ∷ es) (e ∷ with_row es f r)) ≡ cond (same_frame g e.0) e.1 (rows_at g es) ++ rs)
    by true p = head (same_frame g e.0)
    by false p = rest (same_frame g e.0) p

pub grows_row : (fs : Scope) (f : FrameNo) (r : Row) → Grows fs (with_row fs f r)
grows_row fs f r = record { more = row_more fs f r }

pub grows_adopted : (fs : Scope) (rs : List FrameRow) → Grows fs (adopted fs rs)
grows_adopted fs [] = grows_refl fs
grows_adopted fs (r ∷ rs) = grows_trans fs (with_row fs r.frame (row_in r)) (adopted fs (r ∷ rs)) (grows_row fs r.frame (row_in r)) (grows_adopted (with_row fs r.frame (row_in r)) rs)

given_more : (fs gs : Scope) (g : FrameNo) → (rs : List Row) × (rows_at g (fs ++ gs) ≡ rows_at g fs ++ rs)
given_more [] gs g = (rows_at g gs, refl)
given_more (e ∷ es) gs g = by (same_frame g e.0) (given_more es gs g)
  where
    by : (b : Bool) → (rs : List Row) × (rows_at g (es ++ gs) ≡ rows_at g es ++ rs) → (rs : List Row) × (cond b e.1 (rows_at g (es ++ gs)) ≡ cond b e.1 (rows_at g es) ++ rs)
    by true k = ([], sym (append-nil e.1))
    by false k = k

pub grows_given : (fs gs : Scope) → Grows fs (fs ++ gs)
grows_given fs gs = record { more = given_more fs gs }

none_more : (rs ms : List Row) → length (rs ++ ms) ≤ length rs → rs ++ ms ≡ rs
none_more rs [] h = append-nil rs
none_more rs (m ∷ ms) h = absurd (omega (arith, length-append rs (m ∷ ms)))

-- what rows give they give when others follow
label_more : (rs ms : List Row) (s : List ℕ) (xs : List Mark) (l : Label) → label_in rs s xs ≡ Some l → label_in (rs ++ ms) s xs ≡ Some l
label_more [] ms s xs l h = absurd (cc)
label_more (r ∷ rs) ms s xs l h = by (is_of s xs r) h (label_more rs ms s xs l)
  where
    by : (b : Bool) → cond b (Some r.label) (label_in rs s xs) ≡ Some l → (label_in rs s xs ≡ Some l → label_in (rs ++ ms) s xs ≡ Some l)
        → cond b (Some r.label) (label_in (rs ++ ms) s xs) ≡ Some l
    by true k m = k
    by false k m = m k

module _ (fs gs : Scope) (g : Grows fs gs) where
  below_grown : (ts : List Stamp) (ns : List ℕ) → AreBelow fs ts ns → AreBelow gs ts ns
  below_grown ts [] h = tt
  below_grown [] (n ∷ ns) h = h
  below_grown (t ∷ ts) (n ∷ ns) h =
      let p = g.more t.frame in
      (omega (arith, h.0, ap length p.1, length-append (rows_at t.frame fs) p.0), below_grown ts ns h.1)

  -- a frame that is no larger than it was has its rows
  pinned : (t : FrameNo) (n : ℕ) → n ≤ length (rows_at t fs) → nat_eq (length (rows_at t gs)) n ≡ true → rows_at t gs ≡ rows_at t fs
  pinned t n l e =
      let p = g.more t in
      let size = (unsigned_Decides (length (rows_at t gs)) n).0 e in
      p.1 ∙ none_more (rows_at t fs) p.0 (omega (arith, l, size, ap length p.1))

  same_were : (ts : List Stamp) (ns : List ℕ) → AreBelow fs ts ns → same_sizes gs ts ns ≡ true → same_sizes fs ts ns ≡ true
  same_were ts [] b e = refl
  same_were [] (n ∷ ns) b e = e
  same_were (t ∷ ts) (n ∷ ns) b e =
      let here = first_so (nat_eq (length (rows_at t.frame gs)) n) (same_sizes gs ts ns) e in
      let there = second_so (nat_eq (length (rows_at t.frame gs)) n) (same_sizes gs ts ns) e in
      let rows = pinned t.frame n b.0 here in
      ap (λ (rs : List Row). nat_eq (length rs) n && same_sizes fs ts ns) (sym rows) ∙ ap (λ x. x && same_sizes fs ts ns) here ∙ same_were ts ns b.1 there

  -- where no frame that it depends on has grown, an answer is as it was
  same_answer : (s : List ℕ) (ts : List Stamp) (ns : List ℕ) → AreBelow fs ts ns → same_sizes gs ts ns ≡ true → ns ≡ sizes_before fs s ts
      → (ns ≡ sizes_before gs s ts) × (label_by gs s ts ≡ label_by fs s ts)
  same_answer s [] ns b e k = (k, refl)
  same_answer s (t ∷ ts) ns b e k = by (label_at fs t.frame s t.marks) refl ns b e k (same_answer s ts)
    where
      p : (rs : List Row) × (rows_at t.frame gs ≡ rows_at t.frame fs ++ rs)
      p = g.more t.frame

      by : (o : Option Label) → label_at fs t.frame s t.marks ≡ o → (ns : List ℕ) → AreBelow fs (t ∷ ts) ns → same_sizes gs (t ∷ ts) ns ≡ true
          → ns ≡ cond (is_some (label_at fs t.frame s t.marks)) [] (length (rows_at t.frame fs) ∷ sizes_before fs s ts)
          → ((ms : List ℕ) → AreBelow fs ts ms → same_sizes gs ts ms ≡ true → ms ≡ sizes_before fs s ts → (ms ≡ sizes_before gs s ts) × (label_by gs s ts ≡ label_by fs s ts))
          → (ns ≡ cond (is_some (label_at gs t.frame s t.marks)) [] (length (rows_at t.frame gs) ∷ sizes_before gs s ts))
          × (or_else (label_at gs t.frame s t.marks) (label_by gs s ts) ≡ or_else (label_at fs t.frame s t.marks) (label_by fs s ts))
      by (Some l) o ns b e k m =
          let still : label_at gs t.frame s t.marks ≡ Some l = ap (λ rs. label_in rs s t.marks) p.1 ∙ label_more (rows_at t.frame fs) p.0 s t.marks l o in (
            k ∙ ap (λ x. cond {A = List ℕ} (is_some x) [] (length (rows_at t.frame fs) ∷ sizes_before fs s ts)) o
                ∙ sym (ap (λ x. cond {A = List ℕ} (is_some x) [] (length (rows_at t.frame gs) ∷ sizes_before gs s ts)) still),
            ap (λ x. or_else x (label_by gs s ts)) still ∙ sym (ap (λ x. or_else x (label_by fs s ts)) o),
          )
      by None o [] b e k m = absurd (let z : [] ≡ length (rows_at t.frame fs) ∷ sizes_before fs s ts = k ∙ ap (λ x. cond {A = List ℕ} (is_some x) [] (length (rows_at t.frame fs) ∷ sizes_before fs s ts)) o in cc)
      by None o (n ∷ ns) b e k m =
          let z : n ∷ ns ≡ length (rows_at t.frame fs) ∷ sizes_before fs s ts = k ∙ ap (λ x. cond {A = List ℕ} (is_some x) [] (length (rows_at t.frame fs) ∷ sizes_before fs s ts)) o in
          let first : n ≡ length (rows_at t.frame fs) = cc in
          let others : ns ≡ sizes_before fs s ts = cc in
          let here = first_so (nat_eq (length (rows_at t.frame gs)) n) (same_sizes gs ts ns) e in
          let there = second_so (nat_eq (length (rows_at t.frame gs)) n) (same_sizes gs ts ns) e in
          let rows = pinned t.frame n b.0 here in
          let still : label_at gs t.frame s t.marks ≡ None = ap (λ rs. label_in rs s t.marks) rows ∙ o in
          let r = m ns b.1 there others in
          let size : n ≡ length (rows_at t.frame gs) = first ∙ sym (ap (λ (rs : List Row). length rs) rows) in (
            (λ i. size i ∷ r.0 i) ∙ sym (ap (λ x. cond {A = List ℕ} (is_some x) [] (length (rows_at t.frame gs) ∷ sizes_before gs s ts)) still),
            ap (λ x. or_else x (label_by gs s ts)) still ∙ r.1 ∙ sym (ap (λ x. or_else x (label_by fs s ts)) o),
          )

  right_grown : (k : KeptAnswer) → IsRight fs k → IsRight gs k
  right_grown k h = record {
    below = below_grown k.stamps k.sizes h.below;
    right = λ e.
        let a = h.right (same_were k.stamps k.sizes h.below e) in
        let p = same_answer k.symbol k.stamps k.sizes h.below e a.sizes in
        record { label = a.label ∙ sym p.1; sizes = p.0 };
  }

  all_grown : (ks : List KeptAnswer) → AllRight fs ks → AllRight gs ks
  all_grown ks h = record { each = λ k has. right_grown k (h.each k has) }

below_before : (fs : Scope) (s : List ℕ) (ts : List Stamp) → AreBelow fs ts (sizes_before fs s ts)
below_before fs s [] = tt
below_before fs s (t ∷ ts) = by (is_some (label_at fs t.frame s t.marks)) (below_before fs s ts)
  where
    by : (b : Bool) → AreBelow fs ts (sizes_before fs s ts) → AreBelow fs (t ∷ ts) (cond b [] (length (rows_at t.frame fs) ∷ sizes_before fs s ts))
    by true h = tt
    by false h = (omega arith, h)

-- a new answer is right
right_now : (fs : Scope) (s : List ℕ) (ts : List Stamp) (a : Answer) → a.label ≡ label_by fs s ts → a.sizes ≡ sizes_before fs s ts → IsRight fs (kept s ts a)
right_now fs s ts a l n = record {
  below = subst (AreBelow fs ts) (sym n) (below_before fs s ts);
  right = λ e. record { label = l; sizes = n };
}

pub all_put : (fs : Scope) (ks ls : List KeptAnswer) (s : List ℕ) (ts : List Stamp) (a : Answer) → AllRight fs ks → a.label ≡ label_by fs s ts → a.sizes ≡ sizes_before fs s ts
    → ((x : KeptAnswer) → Has x ls → Has x ks ⊎ (x ≡ kept s ts a)) → AllRight fs ls
all_put fs ks ls s ts a all l n h = record { each = λ x has. ⊎_elim (λ y. all.each x y) (λ e. subst (IsRight fs) (sym e) (right_now fs s ts a l n)) (h x has) }

-- after a call that made the frames grow, or left them
pub all_after : {X E : Type 0} (r : Result X E) (fs gs hs : Scope) (ks : List KeptAnswer) → OnOk r (gs ≡ hs) → OnErr r (gs ≡ fs) → Grows fs hs → AllRight fs ks → AllRight gs ks
all_after (Ok x) fs gs hs ks e u g h = subst (λ (x : Scope). AllRight x ks) (sym e) (all_grown fs hs g ks h)
all_after (Err x) fs gs hs ks e u g h = subst (λ (x : Scope). AllRight x ks) (sym u) h

pub all_bound : {X : Type 0} (r : Result X BareStop) (fs gs : Scope) (f : FrameNo) (row : Row) (ks : List KeptAnswer)
    → BareGives (λ _. gs) r (bound fs f row) → OnErr r (gs ≡ fs) → AllRight fs ks → AllRight gs ks
all_bound (Ok x) fs gs f row ks e u h = by (is_some (label_at fs f row.symbol row.marks)) e
  where
    by : (b : Bool) → cond {A = Result Scope Bare} b (Err (second_binder row.symbol)) (Ok (with_row fs f row)) ≡ Ok gs → AllRight gs ks
    by true k = absurd (cc)
    by false k = let is : with_row fs f row ≡ gs = cc in subst (λ (x : Scope). AllRight x ks) is (all_grown fs (with_row fs f row) (grows_row fs f row) ks h)
all_bound (Err x) fs gs f row ks e u h = subst (λ (x : Scope). AllRight x ks) (sym u) h
