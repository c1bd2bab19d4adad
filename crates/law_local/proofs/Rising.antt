-- Lists of places that rise.
use Rattle.std.proofs.Common.{◌≡◌, ℕ, zero, suc, ◌+◌, ◌<◌, Bool, true, false, List, [], ◌∷◌, ◌++◌, length, Option, Some, None, refl, sym, ap, ◌∙◌, inl, inr, arith}
use Rattle.std.specs.Prelude.{◌⊎◌, slice_get}
use Rattle.core_language.specs.declared.record.CompiledLibrary.{CompiledLibrary}
use Rattle.load_files.specs.Found.{places_from}
use Rattle.expand_standing.specs.Start.{or_skip, records_at}

abbrev pub Among : List ℕ → ℕ → Type 0
Among [] n = ⊥
Among (m ∷ ms) n = (n ≡ m) ⊎ Among ms n

-- all of them are above a number
abbrev pub Above : ℕ → List ℕ → Type 0
Above p [] = Unit {0}
Above p (q ∷ qs) = (p < q) × Above p qs

abbrev pub Rising : List ℕ → Type 0
Rising [] = Unit {0}
Rising (p ∷ ps) = Above p ps × Rising ps

pub above_among : (p : ℕ) (qs : List ℕ) (q : ℕ) → Above p qs → Among qs q → p < q
above_among p [] q h a = elim a [ ]
above_among p (x ∷ qs) q h (inl e) = let l = h.0 in omega (arith, l, e)
above_among p (x ∷ qs) q h (inr a) = above_among p qs q h.1 a

pub above_all : (p : ℕ) (qs : List ℕ) → ((q : ℕ) → Among qs q → p < q) → Above p qs
above_all p [] h = tt
above_all p (x ∷ qs) h = (h x (inl refl), above_all p qs (λ q a. h q (inr a)))

-- two that rise and have the same numbers are the same
pub rising_same : (xs ys : List ℕ) → Rising xs → Rising ys → ((n : ℕ) → Among xs n → Among ys n) → ((n : ℕ) → Among ys n → Among xs n) → xs ≡ ys
rising_same [] [] r s to back = refl
rising_same [] (y ∷ ys) r s to back = elim (back y (inl refl)) [ ]
rising_same (x ∷ xs) [] r s to back = elim (to x (inl refl)) [ ]
rising_same (x ∷ xs) (y ∷ ys) r s to back = ap (λ (n : ℕ). n ∷ xs) first ∙ ap (λ (ns : List ℕ). y ∷ ns) (rising_same xs ys r.1 s.1 forth again)
  where
    first : x ≡ y
    first = elim (to x (inl refl)) [
      | inl e ↦ e
      | inr a ↦ elim (back y (inl refl)) [
        | inl e ↦ sym e
        | inr b ↦ let l = above_among y ys x s.0 a in let m = above_among x xs y r.0 b in absurd (omega (arith, l, m))
      ]
    ]

    forth : (n : ℕ) → Among xs n → Among ys n
    forth n a = elim (to n (inr a)) [ inl e ↦ (let l = above_among x xs n r.0 a in absurd (omega (arith, l, e, first))) | inr b ↦ b ]

    again : (n : ℕ) → Among ys n → Among xs n
    again n a = elim (back n (inr a)) [ inl e ↦ (let l = above_among y ys n s.0 a in absurd (omega (arith, l, e, first))) | inr b ↦ b ]

-- ---- the places of marks

pub record IsMark (k : ℕ) (ms : List Bool) (q : ℕ) : Type 0 where
  pub place : ℕ
  pub is : q ≡ k + place
  pub marked : slice_get ms place ≡ Some true

mark_behind : (k : ℕ) (m : Bool) (ms : List Bool) (q : ℕ) → IsMark (suc k) ms q → IsMark k (m ∷ ms) q
mark_behind k m ms q c = let e = c.is in record { place = suc c.place; is = omega (arith, e); marked = c.marked }

pub mark_from : (k : ℕ) (ms : List Bool) (q : ℕ) → Among (places_from k ms) q → IsMark k ms q
unfolding places_from
mark_from k [] q a = elim a [ ]
mark_from k (false ∷ ms) q a = mark_behind k false ms q (mark_from (suc k) ms q a)
mark_from k (true ∷ ms) q (inl e) = record { place = zero; is = omega (arith, e); marked = refl }
mark_from k (true ∷ ms) q (inr a) = mark_behind k true ms q (mark_from (suc k) ms q a)

pub mark_among : (k : ℕ) (ms : List Bool) (p q : ℕ) → q ≡ k + p → slice_get ms p ≡ Some true → Among (places_from k ms) q
unfolding places_from
mark_among k [] p q e h = absurd (cc)
mark_among k (false ∷ ms) zero q e h = absurd (cc)
mark_among k (false ∷ ms) (suc p) q e h = mark_among (suc k) ms p q (omega (arith, e)) h
mark_among k (true ∷ ms) zero q e h = inl (omega (arith, e))
mark_among k (true ∷ ms) (suc p) q e h = inr (mark_among (suc k) ms p q (omega (arith, e)) h)

above_from : (j k : ℕ) (ms : List Bool) → j < k → Above j (places_from k ms)
unfolding places_from
above_from j k [] h = tt
above_from j k (false ∷ ms) h = above_from j (suc k) ms (omega (arith, h))
above_from j k (true ∷ ms) h = (h, above_from j (suc k) ms (omega (arith, h)))

pub rising_from : (k : ℕ) (ms : List Bool) → Rising (places_from k ms)
unfolding places_from
rising_from k [] = tt
rising_from k (false ∷ ms) = rising_from (suc k) ms
rising_from k (true ∷ ms) = (above_from k (suc k) ms (omega arith), rising_from (suc k) ms)

-- ---- some of a list of places

abbrev pub or_skip_place : Option ℕ → List ℕ → List ℕ
or_skip_place None ps = ps
or_skip_place (Some p) ps = p ∷ ps

abbrev pub places_at : List ℕ → List ℕ → List ℕ
places_at qs [] = []
places_at qs (j ∷ js) = or_skip_place (slice_get qs j) (places_at qs js)

pub get_among : (qs : List ℕ) (j n : ℕ) → slice_get qs j ≡ Some n → Among qs n
get_among [] j n h = absurd (cc)
get_among (q ∷ qs) zero n h = let e : q ≡ n = cc in inl (sym e)
get_among (q ∷ qs) (suc j) n h = inr (get_among qs j n h)

pub among_get : (qs : List ℕ) (n : ℕ) → Among qs n → (j : ℕ) × (slice_get qs j ≡ Some n)
among_get [] n a = elim a [ ]
among_get (q ∷ qs) n (inl e) = (zero, ap Some (sym e))
among_get (q ∷ qs) n (inr a) = let x = among_get qs n a in (suc x.0, x.1)

pub rising_get : (qs : List ℕ) (i j p q : ℕ) → Rising qs → i < j → slice_get qs i ≡ Some p → slice_get qs j ≡ Some q → p < q
rising_get [] i j p q r l h k = absurd (cc)
rising_get (x ∷ qs) i zero p q r l h k = absurd (omega (arith, l))
rising_get (x ∷ qs) zero (suc j) p q r l h k =
    let e : x ≡ p = cc in
    let m = above_among x qs q r.0 (get_among qs j q k) in
    omega (arith, e, m)
rising_get (x ∷ qs) (suc i) (suc j) p q r l h k = rising_get qs i j p q r.1 (omega (arith, l)) h k

pub lower_first : (qs : List ℕ) (i j p q : ℕ) → Rising qs → slice_get qs i ≡ Some p → slice_get qs j ≡ Some q → p < q → i < j
lower_first [] i j p q r h k l = absurd (cc)
lower_first (x ∷ qs) zero zero p q r h k l = let e : p ≡ q = cc in absurd (omega (arith, e, l))
lower_first (x ∷ qs) zero (suc j) p q r h k l = omega arith
lower_first (x ∷ qs) (suc i) zero p q r h k l =
    let e : x ≡ q = cc in
    let m = above_among x qs p r.0 (get_among qs i p h) in
    absurd (omega (arith, e, m, l))
lower_first (x ∷ qs) (suc i) (suc j) p q r h k l = let m = lower_first qs i j p q r.1 h k l in omega (arith, m)

-- a number stands once
pub rising_once : (qs : List ℕ) (i j p : ℕ) → Rising qs → slice_get qs i ≡ Some p → slice_get qs j ≡ Some p → i ≡ j
rising_once [] i j p r h k = absurd (cc)
rising_once (x ∷ qs) zero zero p r h k = refl
rising_once (x ∷ qs) zero (suc j) p r h k =
    let e : x ≡ p = cc in
    let m = above_among x qs p r.0 (get_among qs j p k) in
    absurd (omega (arith, e, m))
rising_once (x ∷ qs) (suc i) zero p r h k =
    let e : x ≡ p = cc in
    let m = above_among x qs p r.0 (get_among qs i p h) in
    absurd (omega (arith, e, m))
rising_once (x ∷ qs) (suc i) (suc j) p r h k = ap suc (rising_once qs i j p r.1 h k)

pub record IsPlaceAt (qs js : List ℕ) (n : ℕ) : Type 0 where
  pub at : ℕ
  pub among : Among js at
  pub there : slice_get qs at ≡ Some n

pub place_from : (qs js : List ℕ) (n : ℕ) → Among (places_at qs js) n → IsPlaceAt qs js n
place_from qs [] n a = elim a [ ]
place_from qs (j ∷ js) n a = by (slice_get qs j) refl (place_from qs js n) a
  where
    later : IsPlaceAt qs js n → IsPlaceAt qs (j ∷ js) n
    later x = record { at = x.at; among = inr x.among; there = x.there }

    by : (o : Option ℕ) → slice_get qs j ≡ o → (Among (places_at qs js) n → IsPlaceAt qs js n) → Among (or_skip_place o (places_at qs js)) n → IsPlaceAt qs (j ∷ js) n
    by None e rest a = later (rest a)
    by (Some q) e rest (inl same) = record { at = j; among = inl refl; there = e ∙ ap Some (sym same) }
    by (Some q) e rest (inr a) = later (rest a)

pub place_among : (qs js : List ℕ) (j n : ℕ) → Among js j → slice_get qs j ≡ Some n → Among (places_at qs js) n
place_among qs [] j n a h = elim a [ ]
place_among qs (i ∷ js) j n (inl e) h = by (slice_get qs i) (ap (slice_get qs) (sym e) ∙ h)
  where
    by : (o : Option ℕ) → o ≡ Some n → Among (or_skip_place o (places_at qs js)) n
    by None h = absurd (cc)
    by (Some q) h = let e : q ≡ n = cc in inl (sym e)
place_among qs (i ∷ js) j n (inr a) h = by (slice_get qs i) (place_among qs js j n a h)
  where
    by : (o : Option ℕ) → Among (places_at qs js) n → Among (or_skip_place o (places_at qs js)) n
    by None a = a
    by (Some q) a = inr a

pub rising_at : (qs js : List ℕ) → Rising qs → Rising js → Rising (places_at qs js)
rising_at qs [] r s = tt
rising_at qs (j ∷ js) r s = by (slice_get qs j) refl (rising_at qs js r s.1)
  where
    by : (o : Option ℕ) → slice_get qs j ≡ o → Rising (places_at qs js) → Rising (or_skip_place o (places_at qs js))
    by None e rest = rest
    by (Some q) e rest = (
      above_all q (places_at qs js) (λ n a. let x = place_from qs js n a in rising_get qs j x.at q n r (above_among j js x.at s.0 x.among) e x.there),
      rest,
    )

-- ---- records at places among places

abbrev record_in : List CompiledLibrary → Option ℕ → Option CompiledLibrary
record_in records None = None
record_in records (Some q) = slice_get records q

pub there_at : (records : List CompiledLibrary) (q : ℕ) → q < length records → (r : CompiledLibrary) × (slice_get records q ≡ Some r)
there_at [] q h = absurd (omega arith)
there_at (r ∷ rs) zero h = (r, refl)
there_at (r ∷ rs) (suc q) h = there_at rs q (omega (arith, h))

record_got : (records : List CompiledLibrary) (qs : List ℕ) → ((q : ℕ) → Among qs q → q < length records) → (j : ℕ) → slice_get (records_at records qs) j ≡ record_in records (slice_get qs j)
record_got records [] low j = refl
record_got records (q ∷ qs) low j = let x = there_at records q (low q (inl refl)) in by x.0 x.1 j (λ i. record_got records qs (λ p a. low p (inr a)) i)
  where
    by : (r : CompiledLibrary) → slice_get records q ≡ Some r → (i : ℕ) → ((i : ℕ) → slice_get (records_at records qs) i ≡ record_in records (slice_get qs i))
        → slice_get (or_skip (slice_get records q) (records_at records qs)) i ≡ record_in records (slice_get (q ∷ qs) i)
    by r e zero rest = ap (λ o. slice_get (or_skip o (records_at records qs)) zero) e ∙ sym e
    by r e (suc i) rest = ap (λ o. slice_get (or_skip o (records_at records qs)) (suc i)) e ∙ rest i

pub records_twice : (records : List CompiledLibrary) (qs : List ℕ) → ((q : ℕ) → Among qs q → q < length records) → (js : List ℕ)
    → records_at (records_at records qs) js ≡ records_at records (places_at qs js)
records_twice records qs low [] = refl
records_twice records qs low (j ∷ js) =
    ap (λ o. or_skip o (records_at (records_at records qs) js)) (record_got records qs low j)
    ∙ by (slice_get qs j) (records_twice records qs low js)
  where
    by : (o : Option ℕ) → records_at (records_at records qs) js ≡ records_at records (places_at qs js)
        → or_skip (record_in records o) (records_at (records_at records qs) js) ≡ records_at records (or_skip_place o (places_at qs js))
    by None e = e
    by (Some q) e = ap (or_skip (slice_get records q)) e

pub records_end : (records : List CompiledLibrary) (qs : List ℕ) (p : ℕ) (r : CompiledLibrary) → slice_get records p ≡ Some r → records_at records (qs ++ p ∷ []) ≡ records_at records qs ++ r ∷ []
records_end records [] p r h = ap (λ o. or_skip o []) h
records_end records (q ∷ qs) p r h = by (slice_get records q) (records_end records qs p r h)
  where
    by : (o : Option CompiledLibrary) → records_at records (qs ++ p ∷ []) ≡ records_at records qs ++ r ∷ []
        → or_skip o (records_at records (qs ++ p ∷ [])) ≡ or_skip o (records_at records qs) ++ r ∷ []
    by None e = e
    by (Some x) e = ap (λ (rs : List CompiledLibrary). x ∷ rs) e

-- where all places are those of the first records, the others don't count
pub first_get : (before after : List CompiledLibrary) (i : ℕ) → i < length before → slice_get (before ++ after) i ≡ slice_get before i
first_get [] after i less = absurd (omega arith)
first_get (r ∷ rs) after zero less = refl
first_get (r ∷ rs) after (suc i) less = first_get rs after i (omega (arith, less))

pub records_first : (before after : List CompiledLibrary) (qs : List ℕ) → ((q : ℕ) → Among qs q → q < length before) → records_at (before ++ after) qs ≡ records_at before qs
records_first before after [] low = refl
records_first before after (q ∷ qs) low =
    ap (λ o. or_skip o (records_at (before ++ after) qs)) (first_get before after q (low q (inl refl)))
    ∙ ap (or_skip (slice_get before q)) (records_first before after qs (λ p a. low p (inr a)))

-- ---- one more at the end

above_end : (x : ℕ) (qs : List ℕ) (p : ℕ) → Above x qs → x < p → Above x (qs ++ p ∷ [])
above_end x [] p h l = (l, tt)
above_end x (q ∷ qs) p h l = (h.0, above_end x qs p h.1 l)

pub rising_end : (qs : List ℕ) (p : ℕ) → Rising qs → ((q : ℕ) → Among qs q → q < p) → Rising (qs ++ p ∷ [])
rising_end [] p r low = (tt, tt)
rising_end (q ∷ qs) p r low = (above_end q qs p r.0 (low q (inl refl)), rising_end qs p r.1 (λ x a. low x (inr a)))

-- those before one of them are below it, and those behind it are above it
pub below_in : (xs : List ℕ) (p : ℕ) (ys : List ℕ) → Rising (xs ++ p ∷ ys) → (q : ℕ) → Among xs q → q < p
below_in [] p ys r q a = elim a [ ]
below_in (x ∷ xs) p ys r q (inl e) = let l = above_among x (xs ++ p ∷ ys) p r.0 (among_mid xs p ys) in omega (arith, l, e)
  where
    among_mid : (zs : List ℕ) (n : ℕ) (ws : List ℕ) → Among (zs ++ n ∷ ws) n
    among_mid [] n ws = inl refl
    among_mid (z ∷ zs) n ws = inr (among_mid zs n ws)
below_in (x ∷ xs) p ys r q (inr a) = below_in xs p ys r.1 q a

pub above_in : (xs : List ℕ) (p : ℕ) (ys : List ℕ) → Rising (xs ++ p ∷ ys) → (q : ℕ) → Among ys q → p < q
above_in [] p ys r q a = above_among p ys q r.0 a
above_in (x ∷ xs) p ys r q a = above_in xs p ys r.1 q a

pub among_cases : (xs : List ℕ) (p : ℕ) (ys : List ℕ) (q : ℕ) → Among (xs ++ p ∷ ys) q → Among xs q ⊎ ((q ≡ p) ⊎ Among ys q)
among_cases [] p ys q a = inr a
among_cases (x ∷ xs) p ys q (inl e) = inl (inl e)
among_cases (x ∷ xs) p ys q (inr a) = elim (among_cases xs p ys q a) [ inl b ↦ inl (inr b) | inr b ↦ inr b ]

pub among_here : (xs : List ℕ) (p : ℕ) (ys : List ℕ) → Among (xs ++ p ∷ ys) p
among_here [] p ys = inl refl
among_here (x ∷ xs) p ys = inr (among_here xs p ys)

pub among_first : (xs ys : List ℕ) (q : ℕ) → Among xs q → Among (xs ++ ys) q
among_first [] ys q a = elim a [ ]
among_first (x ∷ xs) ys q (inl e) = inl e
among_first (x ∷ xs) ys q (inr a) = inr (among_first xs ys q a)
