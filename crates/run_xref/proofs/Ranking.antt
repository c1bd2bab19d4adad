-- Rows that rise and are the same rows are one list; sorted rows without repeats are those that are put one by one.
use Rattle.std.proofs.Common.{◌≡◌, Bool, true, false, List, [], ◌∷◌, cond, refl, sym, ap, ◌∙◌, true≢false}
use Rattle.std.specs.Prelude.{◌&&◌, ◌||◌, nat_eq}
use Rattle.std.specs.declared.cmp.Ordering.{Ordering}
use Rattle.std.specs.declared.cmp.Ordering.TheVariants.{Less, Equal, Greater}
use Rattle.std.specs.Ordering.{is_eq, ordering_reverse}
use Rattle.std.specs.List.{dedup, dedup_from, AllByRecursion}
use Rattle.std.specs.List.Sorted.{IsStrictlySortedBy}
use Rattle.std.specs.Cmp.{unsigned_Decides, first_so, second_so}
use Rattle.std.proofs.lemmas.Cmp.{tied_itself}
use Rattle.run_xref.specs.Ranked.{row_cmp, put_by, put, ranked, same_row, among}
use Rattle.run_xref.specs.declared.rows.Aim.{Aim}
use Rattle.run_xref.specs.declared.rows.Aim.TheVariants as aim
use Rattle.run_xref.specs.declared.rows.At.{At}
use Rattle.run_xref.specs.declared.rows.LinkRow.{LinkRow}
use Rattle.run_xref.specs.contracts.rows.AtOrd.TheImpl as at_order
use Rattle.run_xref.specs.contracts.rows.AtOrd.TheImpl.Laws as at_laws
use Rattle.run_xref.specs.contracts.rows.AtPartialEq.TheImpl as at_eq
use Rattle.run_xref.specs.contracts.rows.AimPartialEq.TheImpl as aim_eq
use Rattle.run_xref.specs.contracts.rows.LinkRowPartialEq.TheImpl as row_eq
use Rattle.run_xref.specs.contracts.rows.LinkRowOrd.TheImpl.Laws as row_laws

-- ---- what compares as equal is one row

abbrev equal_at : At → At → Bool
equal_at = at_eq.eq-value.it

abbrev equal_aim : Aim → Aim → Bool
equal_aim = aim_eq.eq-value.it

abbrev pub equal_row : LinkRow → LinkRow → Bool
equal_row = row_eq.eq-value.it

at_is : (a b : At) → equal_at a b ≡ true → a ≡ b
at_is a b h =
    let f = nat_eq a.file b.file in
    let m = nat_eq a.from b.from in
    let t = nat_eq a.to b.to in
    let rest = second_so f (m && t) h in
    let p = (unsigned_Decides a.file b.file).0 (first_so f (m && t) h) in
    let q = (unsigned_Decides a.from b.from).0 (first_so m t rest) in
    let r = (unsigned_Decides a.to b.to).0 (second_so m t rest) in
    λ i. record { file = p i; from = q i; to = r i }

aim_is : (a b : Aim) → equal_aim a b ≡ true → a ≡ b
aim_is (aim.Place p) (aim.Place q) h = ap aim.Place (at_is p q h)
aim_is aim.Nowhere aim.Nowhere h = refl
aim_is (aim.Prim o) (aim.Prim p) h = ap (λ n. aim.Prim (record { 0 = n })) ((unsigned_Decides o.0 p.0).0 h)
aim_is _ _ h = absurd (cc)

pub row_is : (a b : LinkRow) → equal_row a b ≡ true → a ≡ b
row_is a b h =
    let p = at_is a.at b.at (first_so (equal_at a.at b.at) (equal_aim a.aim b.aim) h) in
    let q = aim_is a.aim b.aim (second_so (equal_at a.at b.at) (equal_aim a.aim b.aim) h) in
    λ i. record { at = p i; aim = q i }

pub tie : (a b : LinkRow) → row_cmp a b ≡ Equal → a ≡ b
tie a b h = row_is a b (row_laws.matches_eq-law a b ∙ ap is_eq h)

pub at_tie : (a b : At) → at_order.cmp-value.it a b ≡ Equal → a ≡ b
at_tie a b h = at_is a b (at_laws.matches_eq-law a b ∙ ap is_eq h)

-- ---- rows that are put one by one rise

abbrev Above : LinkRow → List LinkRow → Type 0
Above x rows = AllByRecursion (λ y. row_cmp x y ≡ Less) rows

abbrev pub Rising : List LinkRow → Type 0
Rising rows = IsStrictlySortedBy row_cmp rows

turned : (r q : LinkRow) → row_cmp r q ≡ Greater → row_cmp q r ≡ Less
turned r q h = row_laws.total-law.antisymm q r ∙ ap ordering_reverse h

above_more : (x y : LinkRow) (qs : List LinkRow) → row_cmp x y ≡ Less → Above y qs → Above x qs
above_more x y [] h a = tt
above_more x y (q ∷ qs) h a = (row_laws.total-law.trans x y q h a.0, above_more x y qs h a.1)

put_above : (x r : LinkRow) (qs : List LinkRow) → row_cmp x r ≡ Less → Above x qs → Above x (put r qs)
put_above x r [] h a = (h, tt)
put_above x r (q ∷ qs) h a = by (row_cmp r q) (put_above x r qs h a.1)
  where
    by : (c : Ordering) → Above x (put r qs) → Above x (put_by r c (q ∷ qs) (q ∷ put r qs))
    by Less k = (h, a)
    by Equal k = a
    by Greater k = (a.0, k)

put_rises : (r : LinkRow) (qs : List LinkRow) → Rising qs → Rising (put r qs)
unfolding IsStrictlySortedBy
put_rises r [] s = (tt, tt)
put_rises r (q ∷ qs) s = by (row_cmp r q) refl (put_rises r qs s.1)
  where
    by : (c : Ordering) → row_cmp r q ≡ c → Rising (put r qs) → Rising (put_by r c (q ∷ qs) (q ∷ put r qs))
    by Less h k = ((h, above_more r q qs h s.0), s)
    by Equal h k = s
    by Greater h k = (put_above q r qs (turned r q h) s.0, k)

pub ranked_rises : (rows : List LinkRow) → Rising (ranked rows)
unfolding ranked IsStrictlySortedBy
ranked_rises [] = tt
ranked_rises (r ∷ rows) = put_rises r (ranked rows) (ranked_rises rows)

-- ---- and are the same rows

twice : (a b : Bool) → (a || b) ≡ (a || (a || b))
twice true b = refl
twice false b = refl

swapped : (a b c : Bool) → (a || (b || c)) ≡ (b || (a || c))
swapped true true c = refl
swapped true false c = refl
swapped false b c = refl

among_put : (r x : LinkRow) (qs : List LinkRow) → among r (put x qs) ≡ (same_row r x || among r qs)
among_put r x [] = refl
among_put r x (q ∷ qs) = by (row_cmp x q) refl (among_put r x qs)
  where
    by : (c : Ordering) → row_cmp x q ≡ c → among r (put x qs) ≡ (same_row r x || among r qs)
        → among r (put_by x c (q ∷ qs) (q ∷ put x qs)) ≡ (same_row r x || (same_row r q || among r qs))
    by Less h k = refl
    by Equal h k = twice (same_row r q) (among r qs) ∙ ap (λ (y : LinkRow). same_row r y || (same_row r q || among r qs)) (sym (tie x q h))
    by Greater h k = ap (λ b. same_row r q || b) k ∙ swapped (same_row r q) (same_row r x) (among r qs)

pub among_ranked : (r : LinkRow) (rows : List LinkRow) → among r (ranked rows) ≡ among r rows
unfolding ranked
among_ranked r [] = refl
among_ranked r (x ∷ rows) = among_put r x (ranked rows) ∙ ap (λ b. same_row r x || b) (among_ranked r rows)

-- ---- rows that rise are known by what is among them

pub same_itself : (x : LinkRow) → same_row x x ≡ true
same_itself x = ap is_eq (tied_itself row_laws.total-law x)

none_below : (x : LinkRow) (ys : List LinkRow) → Above x ys → among x ys ≡ false
none_below x [] a = refl
none_below x (y ∷ ys) a = ap (λ c. is_eq c || among x ys) a.0 ∙ none_below x ys a.1

head_among : (x : LinkRow) (xs : List LinkRow) → among x (x ∷ xs) ≡ true
head_among x xs = ap (λ b. b || among x xs) (same_itself x)

or_false : (a b c d : Bool) → a ≡ false → c ≡ false → (a || b) ≡ (c || d) → b ≡ d
or_false a b c d h k e = ap (λ x. x || b) (sym h) ∙ e ∙ ap (λ x. x || d) k

tails : (x y : LinkRow) (xs ys : List LinkRow) → x ≡ y → Above x xs → Above y ys → ((r : LinkRow) → among r (x ∷ xs) ≡ among r (y ∷ ys)) → (r : LinkRow) → among r xs ≡ among r ys
tails x y xs ys e a b h r = by (same_row r x) refl
  where
    by : (c : Bool) → same_row r x ≡ c → among r xs ≡ among r ys
    by true k =
        let is : r ≡ x = tie r x (equal_of (row_cmp r x) k) in
        (ap (λ z. among z xs) is ∙ none_below x xs a) ∙ sym (ap (λ z. among z ys) (is ∙ e) ∙ none_below y ys b)
      where
        equal_of : (o : Ordering) → is_eq o ≡ true → o ≡ Equal
        equal_of Less k = absurd (true≢false (sym k))
        equal_of Equal k = refl
        equal_of Greater k = absurd (true≢false (sym k))
    by false k = or_false (same_row r x) (among r xs) (same_row r y) (among r ys) k (ap (same_row r) (sym e) ∙ k) (h r)

pub rising_is : (xs ys : List LinkRow) → Rising xs → Rising ys → ((r : LinkRow) → among r xs ≡ among r ys) → xs ≡ ys
unfolding IsStrictlySortedBy
rising_is [] [] s t h = refl
rising_is [] (y ∷ ys) s t h = absurd (true≢false (sym (head_among y ys) ∙ sym (h y)))
rising_is (x ∷ xs) [] s t h = absurd (true≢false (sym (head_among x xs) ∙ h x))
rising_is (x ∷ xs) (y ∷ ys) s t h = by (row_cmp x y) refl (rising_is xs ys s.1 t.1)
  where
    by : (c : Ordering) → row_cmp x y ≡ c → (((r : LinkRow) → among r xs ≡ among r ys) → xs ≡ ys) → x ∷ xs ≡ y ∷ ys
    by Less k on = absurd (true≢false (sym (head_among x xs) ∙ h x ∙ none_below x (y ∷ ys) (k, above_more x y ys k t.0)))
    by Equal k on =
        let e = tie x y k in
        let es = on (tails x y xs ys e s.0 t.0 h) in
        λ i. e i ∷ es i
    by Greater k on =
        let back = turned x y k in
        absurd (true≢false (sym (head_among y ys) ∙ sym (h y) ∙ none_below y (x ∷ xs) (back, above_more y x xs back s.0)))

-- ---- each once

among_from : (r k : LinkRow) (xs : List LinkRow) → among r (dedup_from equal_row k xs) ≡ (same_row r k || among r xs)
among_from r k [] = refl
among_from r k (x ∷ xs) = by (equal_row x k) refl (among_from r k xs) (among_from r x xs)
  where
    by : (b : Bool) → equal_row x k ≡ b → among r (dedup_from equal_row k xs) ≡ (same_row r k || among r xs) → among r (dedup_from equal_row x xs) ≡ (same_row r x || among r xs)
        → among r (cond b (dedup_from equal_row k xs) (k ∷ dedup_from equal_row x xs)) ≡ (same_row r k || (same_row r x || among r xs))
    by true h on_k on_x = on_k ∙ twice (same_row r k) (among r xs) ∙ ap (λ (m : LinkRow). same_row r k || (same_row r m || among r xs)) (sym (row_is x k h))
    by false h on_k on_x = ap (λ b. same_row r k || b) on_x

pub among_dedup : (r : LinkRow) (xs : List LinkRow) → among r (dedup equal_row xs) ≡ among r xs
among_dedup r [] = refl
among_dedup r (x ∷ xs) = among_from r x xs
