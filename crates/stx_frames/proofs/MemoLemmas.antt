-- What a memo's tables find.
use Rattle.std.specs.Prelude.{◌≡◌, ℕ, ◌<◌, ◌⊎◌, Bool, true, false, cond, ◌&&◌, nat_eq, List, [], ◌∷◌, ◌++◌, length, get_or, Option, None, Some, IfSome, slice_get, refl}
use Rattle.std.proofs.Common.{sym, ◌∙◌, ap, subst, arith, inl, inr, ⊎_elim, length-append}
use Rattle.std.specs.Borrow.{Bor}
use Rattle.std.specs.Option.{option_copied}
use Rattle.std.specs.List.{position, list_any}
use Rattle.std.specs.Map.{lookup}
use Rattle.std.specs.Cmp.{unsigned_Decides, first_so, second_so}
use Rattle.std.specs.Cmp.Lexicographic.{pointwise}
use Rattle.std.proofs.lemmas.List.{get_or_append_left}
use Rattle.std.proofs.lemmas.List.Quantifiers.{position-Some}
use Rattle.std.proofs.lemmas.Option.{get_or_from_slice_get}
use Rattle.indexmap.specs.IndexMap.{insert_entry}
use Rattle.indexmap.specs.IndexSet.{insert_key}
use Rattle.base_data.specs.Same.{same_name_cases, texts_decides}
use Rattle.base_data.specs.declared.name.FrameNo.{FrameNo}
use Rattle.base_data.specs.Named.{Named}
use Rattle.stx_tree.specs.SameMarks.{same_marks, same_marks_decides}
use Rattle.stx_tree.specs.declared.stamp.Stamp.{Stamp}
use Rattle.stx_tree.specs.contracts.stamp.StampPartialEq.TheImpl as stamp_eq
use Rattle.stx_frames.specs.Scope.{same_frame}
use Rattle.stx_frames.specs.declared.memo.Asked.{Asked}
use Rattle.stx_frames.specs.declared.memo.Answer.{Answer}
use Rattle.stx_frames.specs.contracts.memo.AskedPartialEq.TheImpl as asked_eq
use Rattle.stx_frames.specs.Kept.{KeptAnswer, kept, kept_at, kept_of, AreNumbered, Has}

abbrev pub same_stamp : Stamp → Stamp → Bool
same_stamp = stamp_eq.eq-value.it

abbrev pub same_asked : Asked → Asked → Bool
same_asked = asked_eq.eq-value.it

-- frames that compare as equal are one frame
pub same_frame_is : (f g : FrameNo) → same_frame f g ≡ true → f ≡ g
same_frame_is f g h = ap (λ (n : Named). let x : FrameNo = record { 0 = n } in x) ((same_name_cases f.0 g.0).0 h)

stamp_is : (a b : Stamp) → same_stamp a b ≡ true → a ≡ b
stamp_is a b h =
    let f = same_frame_is a.frame b.frame (first_so (same_frame a.frame b.frame) (same_marks a.marks b.marks) h) in
    let m = (same_marks_decides a.marks b.marks).0 (second_so (same_frame a.frame b.frame) (same_marks a.marks b.marks) h) in
    λ i. record { frame = f i; marks = m i }

pub stamps_are : (xs ys : List Stamp) → pointwise same_stamp xs ys ≡ true → xs ≡ ys
stamps_are [] [] h = refl
stamps_are [] (y ∷ ys) h = absurd (cc)
stamps_are (x ∷ xs) [] h = absurd (cc)
stamps_are (x ∷ xs) (y ∷ ys) h =
    let e = stamp_is x y (first_so (same_stamp x y) (pointwise same_stamp xs ys) h) in
    let es = stamps_are xs ys (second_so (same_stamp x y) (pointwise same_stamp xs ys) h) in
    λ i. e i ∷ es i

pub asked_is : (a b : Asked) → same_asked a b ≡ true → a ≡ b
asked_is a b h =
    let s = pointwise nat_eq a.symbol b.symbol in
    let m = nat_eq a.marks b.marks in
    let t = nat_eq a.stamps b.stamps in
    let rest = second_so s (m && t) h in
    let p = (texts_decides a.symbol b.symbol).0 (first_so s (m && t) h) in
    let q = (unsigned_Decides a.marks b.marks).0 (first_so m t rest) in
    let r = (unsigned_Decides a.stamps b.stamps).0 (second_so m t rest) in
    λ i. record { symbol = p i; marks = q i; stamps = r i }

-- the number that the table gives for stamps names them
pub numbered : (tss : List (List Stamp)) (ts : List Stamp) (t : ℕ) → Some t ≡ position (pointwise same_stamp ts) tss → get_or tss t [] ≡ ts
numbered tss ts t h = let p = position-Some (pointwise same_stamp ts) tss t [] (sym h) in sym (stamps_are ts (get_or tss t []) p.1)

pub stored : (tss : List (List Stamp)) (ts : List Stamp) (t : ℕ) → (k : List Stamp) × (slice_get tss t ≡ Some k) × (pointwise same_stamp ts k ≡ true) → get_or tss t [] ≡ ts
stored tss ts t (k, e, s) = get_or_from_slice_get tss t k [] e ∙ sym (stamps_are ts k s)

-- what a look-up finds was kept
found_has : (tss : List (List Stamp)) (q : Asked) (es : List (Asked × Answer)) (a : Answer) → Some a ≡ lookup (same_asked q) es → Has (kept_at tss (q, a)) (kept_of tss es)
found_has tss q [] a h = absurd (cc)
found_has tss q (e ∷ es) a h = by (same_asked q e.0) refl h (found_has tss q es a)
  where
    by : (b : Bool) → same_asked q e.0 ≡ b → Some a ≡ cond b (Some e.1) (lookup (same_asked q) es) → (Some a ≡ lookup (same_asked q) es → Has (kept_at tss (q, a)) (kept_of tss es)) → Has (kept_at tss (q, a)) (kept_of tss (e ∷ es))
    by true s k f = let x : a ≡ e.1 = cc in inl (λ i. kept_at tss (asked_is q e.0 s i, x i))
    by false s k f = inr (f k)

-- a table that grew names what it named
kept_of-grown : (tss : List (List Stamp)) (ts : List Stamp) (es : List (Asked × Answer)) → AreNumbered tss es → kept_of (insert_key (pointwise same_stamp) tss ts) es ≡ kept_of tss es
kept_of-grown tss ts es h = by (list_any (pointwise same_stamp ts) tss)
  where
    more : (xs : List (Asked × Answer)) → AreNumbered tss xs → kept_of (tss ++ ts ∷ []) xs ≡ kept_of tss xs
    more [] n = refl
    more (x ∷ xs) n = λ i. kept x.0.symbol (get_or_append_left tss (ts ∷ []) [] x.0.stamps n.0 i) x.1 ∷ more xs n.1 i

    by : (b : Bool) → kept_of (cond b tss (tss ++ ts ∷ [])) es ≡ kept_of tss es
    by true = refl
    by false = more es h

numbers_grown : (tss : List (List Stamp)) (ts : List Stamp) (es : List (Asked × Answer)) → AreNumbered tss es → AreNumbered (insert_key (pointwise same_stamp) tss ts) es
numbers_grown tss ts es h = by (list_any (pointwise same_stamp ts) tss)
  where
    more : (xs : List (Asked × Answer)) → AreNumbered tss xs → AreNumbered (tss ++ ts ∷ []) xs
    more [] n = tt
    more (x ∷ xs) n = (omega (arith, n.0, length-append tss (ts ∷ [])), more xs n.1)

    by : (b : Bool) → AreNumbered (cond b tss (tss ++ ts ∷ [])) es
    by true = h
    by false = more es h

numbers_put : (tss : List (List Stamp)) (q : Asked) (a : Answer) (es : List (Asked × Answer)) → q.stamps < length tss → AreNumbered tss es → AreNumbered tss (insert_entry same_asked es q a)
numbers_put tss q a [] l h = (l, tt)
numbers_put tss q a (e ∷ es) l h = by (same_asked q e.0) (numbers_put tss q a es l h.1)
  where
    by : (b : Bool) → AreNumbered tss (insert_entry same_asked es q a) → AreNumbered tss (cond b ((e.0, a) ∷ es) (e ∷ insert_entry same_asked es q a))
    by true r = h
    by false r = (h.0, r)

has_put : (tss : List (List Stamp)) (q : Asked) (a : Answer) (es : List (Asked × Answer)) (k : KeptAnswer) → Has k (kept_of tss (insert_entry same_asked es q a)) → Has k (kept_of tss es) ⊎ (k ≡ kept_at tss (q, a))
has_put tss q a [] k (inl e) = inr e
has_put tss q a [] k (inr h) = absurd h
has_put tss q a (e ∷ es) k h = by (same_asked q e.0) refl h (has_put tss q a es k)
  where
    by : (b : Bool) → same_asked q e.0 ≡ b → Has k (kept_of tss (cond b ((e.0, a) ∷ es) (e ∷ insert_entry same_asked es q a))) → (Has k (kept_of tss (insert_entry same_asked es q a)) → Has k (kept_of tss es) ⊎ (k ≡ kept_at tss (q, a))) → (Has k (kept_of tss (e ∷ es))) ⊎ (k ≡ kept_at tss (q, a))
    by true s (inl x) f = inr (x ∙ ap (λ (p : Asked). kept_at tss (p, a)) (sym (asked_is q e.0 s)))
    by true s (inr x) f = inl (inr x)
    by false s (inl x) f = inl (inl x)
    by false s (inr x) f = ⊎_elim (λ y. inl (inr y)) (λ y. inr y) (f x)

pub found_if : (tss : List (List Stamp)) (s : List ℕ) (ts : List Stamp) (x : List ℕ) (m t : ℕ) (es : List (Asked × Answer)) (ks : List KeptAnswer) (r : Option (Bor Answer))
    → x ≡ s → get_or tss t [] ≡ ts → option_copied r ≡ lookup (same_asked (record { symbol = x; marks = m; stamps = t })) es → kept_of tss es ≡ ks
    → IfSome r (λ a. Has (kept s ts a.now) ks)
found_if tss s ts x m t es ks None p q h v = tt
found_if tss s ts x m t es ks (Some a) p q h v =
    subst (Has (kept s ts a.now)) v (subst (λ k. Has k (kept_of tss es)) (λ i. kept (p i) (q i) a.now) (found_has tss (record { symbol = x; marks = m; stamps = t }) es a.now h))

module _ (tss tss' : List (List Stamp)) (ts : List Stamp) (es es' : List (Asked × Answer)) (ks : List KeptAnswer)
    (keys : tss' ≡ insert_key (pointwise same_stamp) tss ts) (numbers : AreNumbered tss es) (view : kept_of tss es ≡ ks) where
  whole : kept_of tss' es ≡ ks
  whole = ap (λ (x : List (List Stamp)). kept_of x es) keys ∙ kept_of-grown tss ts es numbers ∙ view

  grown : AreNumbered tss' es
  grown = subst (λ (x : List (List Stamp)). AreNumbered x es) (sym keys) (numbers_grown tss ts es numbers)

  pub numbers_stay : es' ≡ es → AreNumbered tss' es'
  numbers_stay e = subst (λ (x : List (Asked × Answer)). AreNumbered tss' x) (sym e) grown

  pub numbers_more : (q : Asked) (a : Answer) → es' ≡ insert_entry same_asked es q a → q.stamps < length tss' → AreNumbered tss' es'
  numbers_more q a e l = subst (λ (x : List (Asked × Answer)). AreNumbered tss' x) (sym e) (numbers_put tss' q a es l grown)

  pub has_stay : (P : KeptAnswer → Type 0) → es' ≡ es → (k : KeptAnswer) → Has k (kept_of tss' es') → Has k ks ⊎ P k
  has_stay P e k h = inl (subst (Has k) (ap (kept_of tss') e ∙ whole) h)

  pub has_more : (q : Asked) (a : Answer) → es' ≡ insert_entry same_asked es q a → get_or tss' q.stamps [] ≡ ts → (k : KeptAnswer) → Has k (kept_of tss' es') → Has k ks ⊎ (k ≡ kept q.symbol ts a)
  has_more q a e g k h = ⊎_elim (λ x. inl (subst (Has k) whole x)) (λ x. inr (x ∙ ap (λ (y : List Stamp). kept q.symbol y a) g)) (has_put tss' q a es k (subst (Has k) (ap (kept_of tss') e) h))
