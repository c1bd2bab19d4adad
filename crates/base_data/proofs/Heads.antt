-- Which texts have the same head.
use Rattle.std.proofs.Common.{◌≡◌, ℕ, zero, suc, ◌+◌, ◌*◌, ◌/◌, ◌%◌, ◌^◌, ◌<◌, ◌≤◌, ◌⊎◌, inl, inr, Bool, true, false, List, [], ◌∷◌, ◌++◌, length, fold, String, string_bytes, refl, sym, ap, subst, ◌∙◌, arith}
use Rattle.std.specs.Prelude.{nat_eq, nat_lt, if◌then◌else◌}
use Rattle.std.specs.Cmp.{unsigned_Decides, first_so, second_so}
use Rattle.std.specs.Cmp.Lexicographic.{pointwise, pointwise_decides}
use Rattle.std.specs.Int.{IsInRange}
use Rattle.std.specs.Str.{IsUtf8}
use Rattle.std.specs.Char.{IsScalar}
use Rattle.std.proofs.lemmas.Bool.{cases_lt, lt-ltb, le-ltb}
use Rattle.std.proofs.lemmas.Str.{IsUtf8-string_bytes}
use lib.Utf8.{encode, encodes, next, scalar, scalars, scalar_cases}
use Rattle.base_data.specs.Hasher.{mixed}
use Rattle.base_data.specs.Head.{digit, packed, hashed, head_of}

abbrev Bytes : List ℕ → Type 0
Bytes [] = Unit {0}
Bytes (b ∷ bs) = (b < 256) × Bytes bs

-- The bytes of a text are bytes.

bytes_append : (xs ys : List ℕ) → Bytes xs → Bytes ys → Bytes (xs ++ ys)
bytes_append [] ys h k = k
bytes_append (x ∷ xs) ys h k = (h.0, bytes_append xs ys h.1 k)

next_byte : (n : ℕ) → next n < 256
next_byte n = omega arith

encode_bytes : (c : ℕ) → c < 1114112 → Bytes (encode c)
unfolding encode
encode_bytes c h = elim (cases_lt c 128) [
  | inl a ↦ rw (lt-ltb c 128 a) (omega (arith, a), tt)
  | inr a ↦ rw (le-ltb c 128 a) (elim (cases_lt c 2048) [
    | inl b ↦ rw (lt-ltb c 2048 b) (omega (arith, b), (next_byte c, tt))
    | inr b ↦ rw (le-ltb c 2048 b) (elim (cases_lt c 65536) [
      | inl d ↦ rw (lt-ltb c 65536 d) (omega (arith, d), (next_byte (c / 64), (next_byte c, tt)))
      | inr d ↦ rw (le-ltb c 65536 d) (omega (arith, h), (next_byte (c / 4096), (next_byte (c / 64), (next_byte c, tt))))
    ])
  ])
]

scalar_small : (c : ℕ) → scalar c ≡ true → c < 1114112
scalar_small c e = elim (scalar_cases c e) [
  | inl a ↦ omega (arith, a)
  | inr a ↦ a.1
]

encodes_bytes : (cs : List ℕ) → scalars cs ≡ true → Bytes (encodes cs)
encodes_bytes [] e = tt
encodes_bytes (c ∷ cs) e =
    bytes_append (encode c) (encodes cs) (encode_bytes c (scalar_small c (first_so (scalar c) (scalars cs) e))) (encodes_bytes cs (second_so (scalar c) (scalars cs) e))

pub text_bytes : (bs : List ℕ) → IsUtf8 bs → Bytes bs
text_bytes bs u = subst Bytes u.1.1 (encodes_bytes u.0 u.1.0)

-- Fewer than eight bytes make a number below 2 ^ 56, and each such number is made by one list of a length.

abbrev plain : ℕ → ℕ → ℕ
plain n b = n * 256 + b

-- the numbers that so many bytes make
abbrev room : ℕ → ℕ
room zero = 1
room (suc k) = 256 * room k

room_small : (k : ℕ) → k ≤ 7 → room k ≤ 2 ^ 56
room_small zero h = let e : room 0 ≡ 1 = refl in omega (arith, e)
room_small (suc zero) h = let e : room 1 ≡ 256 = refl in omega (arith, e)
room_small (suc (suc zero)) h = let e : room 2 ≡ 65536 = refl in omega (arith, e)
room_small (suc (suc (suc zero))) h = let e : room 3 ≡ 16777216 = refl in omega (arith, e)
room_small (suc (suc (suc (suc zero)))) h = let e : room 4 ≡ 4294967296 = refl in omega (arith, e)
room_small (suc (suc (suc (suc (suc zero))))) h = let e : room 5 ≡ 1099511627776 = refl in omega (arith, e)
room_small (suc (suc (suc (suc (suc (suc zero)))))) h = let e : room 6 ≡ 281474976710656 = refl in omega (arith, e)
room_small (suc (suc (suc (suc (suc (suc (suc zero))))))) h = let e : room 7 ≡ 72057594037927936 = refl in omega (arith, e)
room_small (suc (suc (suc (suc (suc (suc (suc (suc k)))))))) h = absurd (omega (arith, h))

record Short (n : ℕ) (bs : List ℕ) : Type 0 where
  pub same : fold digit n bs ≡ fold plain n bs
  pub small : fold plain n bs < 2 ^ 56

short_from : (bs : List ℕ) (n k : ℕ) → length bs + k ≤ 7 → n < room k → Bytes bs → Short n bs
short_from [] n k h l b = let r = room_small k (omega (arith, h)) in record { same = refl; small = omega (arith, l, r) }
short_from (x ∷ bs) n k h l b =
    let r = room_small k (omega (arith, h)) in
    let up : room (suc k) ≡ 256 * room k = refl in
    let under : n * 256 + x < room (suc k) = omega (arith, l, up, b.0) in
    let next = short_from bs (plain n x) (suc k) (omega (arith, h)) under b.1 in
    let step : ((n * 256) % 2 ^ 64 + x) % 2 ^ 64 ≡ n * 256 + x = omega (arith, l, r, b.0) in
    record { same = ap (λ m. fold digit m bs) step ∙ next.same; small = next.small }

plain_same : (xs ys : List ℕ) (m n : ℕ) → length xs ≡ length ys → Bytes xs → Bytes ys → fold plain m xs ≡ fold plain n ys → (m ≡ n) × (xs ≡ ys)
plain_same [] [] m n l a b e = (e, refl)
plain_same [] (y ∷ ys) m n l a b e = absurd (omega (arith, l))
plain_same (x ∷ xs) [] m n l a b e = absurd (omega (arith, l))
plain_same (x ∷ xs) (y ∷ ys) m n l a b e =
    let rest = plain_same xs ys (plain m x) (plain n y) (omega (arith, l)) a.1 b.1 e in
    let head : m * 256 + x ≡ n * 256 + y = rest.0 in
    let first : x ≡ y = omega (arith, head, a.0, b.0) in
    let before : m ≡ n = omega (arith, head, a.0, b.0) in
    (before, λ i. first i ∷ rest.1 i)

-- Heads.

mixed_small : (n b : ℕ) → mixed n b < 2 ^ 64
unfolding mixed
mixed_small n b = omega arith

hashed_small : (bs : List ℕ) (n : ℕ) → n < 2 ^ 64 → fold mixed n bs < 2 ^ 64
hashed_small [] n h = h
hashed_small (b ∷ bs) n h = hashed_small bs (mixed n b) (mixed_small n b)

abbrev IsShort : List ℕ → Type 0
IsShort bs = (length bs < 8) × ((head_of bs ≡ fold plain 0 bs + length bs * 2 ^ 56) × (fold plain 0 bs < 2 ^ 56))

head_cases : (bs : List ℕ) → Bytes bs → IsShort bs ⊎ (8 ≤ head_of bs / 2 ^ 56)
unfolding head_of packed hashed
head_cases bs b = elim (cases_lt (length bs) 8) [
  | inl l ↦
      let s = short_from bs 0 0 (omega (arith, l)) (omega arith) b in
      let same = s.same in
      let small = s.small in
      let is : head_of bs ≡ fold plain 0 bs + length bs * 2 ^ 56 = rw (lt-ltb (length bs) 8 l) (omega (arith, same, small, l)) in
      inl (l, (is, small))
  | inr l ↦
      let h = hashed_small bs 0 (omega arith) in
      inr (rw (le-ltb (length bs) 8 l) (omega (arith, h)))
]

-- a head of a short text is that of no other
pub same_texts : (xs ys : List ℕ) → IsUtf8 xs → IsUtf8 ys → head_of xs ≡ head_of ys → head_of xs / 2 ^ 56 < 8 → xs ≡ ys
same_texts xs ys u v e l = by_cases (head_cases xs (text_bytes xs u)) (head_cases ys (text_bytes ys v))
  where
    by_cases : (IsShort xs ⊎ (8 ≤ head_of xs / 2 ^ 56)) → (IsShort ys ⊎ (8 ≤ head_of ys / 2 ^ 56)) → xs ≡ ys
    by_cases (inr a) b = absurd (omega (arith, a, l))
    by_cases (inl a) (inr b) = absurd (omega (arith, a.0, a.1.0, a.1.1, b, e))
    by_cases (inl a) (inl b) =
        let long : length xs ≡ length ys = omega (arith, a.0, a.1.0, a.1.1, b.0, b.1.0, b.1.1, e) in
        let same : fold plain 0 xs ≡ fold plain 0 ys = omega (arith, long, a.1.0, b.1.0, e) in
        (plain_same xs ys 0 0 long (text_bytes xs u) (text_bytes ys v) same).1

texts_decide : (xs ys : List ℕ) → (pointwise nat_eq xs ys ≡ true → xs ≡ ys) × (xs ≡ ys → pointwise nat_eq xs ys ≡ true)
texts_decide xs ys = let d = pointwise_decides unsigned_Decides xs ys in ((λ h. d.0 h), (λ h. d.1 h))

-- texts of other heads are others
pub other_heads : (xs ys : List ℕ) → (head_of xs ≡ head_of ys → ⊥) → pointwise nat_eq xs ys ≡ false
other_heads xs ys h = by_test (pointwise nat_eq xs ys) refl
  where
    by_test : (b : Bool) → pointwise nat_eq xs ys ≡ b → b ≡ false
    by_test false e = refl
    by_test true e = absurd (h (ap head_of ((texts_decide xs ys).0 e)))

pub same_heads : (xs ys : List ℕ) → IsUtf8 xs → IsUtf8 ys → head_of xs ≡ head_of ys → head_of xs / 2 ^ 56 < 8 → pointwise nat_eq xs ys ≡ true
same_heads xs ys u v e l = (texts_decide xs ys).1 (same_texts xs ys u v e l)

-- Symbols, by the heads that they keep.

pub others_differ : (xs ys : List ℕ) (h k : ℕ) → h ≡ head_of xs → k ≡ head_of ys → (h ≡ k → ⊥) → false ≡ pointwise nat_eq xs ys
others_differ xs ys h k a b d = sym (other_heads xs ys (λ e. d (a ∙ e ∙ sym b)))

pub short_agree : {Z : Type 0} (s t : String Z) (h k : ℕ) → h ≡ head_of (string_bytes s) → k ≡ head_of (string_bytes t) → h ≡ k → h / 2 ^ 56 < 8
    → true ≡ pointwise nat_eq (string_bytes s) (string_bytes t)
short_agree s t h k a b e l =
    let same : head_of (string_bytes s) ≡ head_of (string_bytes t) = sym a ∙ e ∙ b in
    sym (same_heads (string_bytes s) (string_bytes t) (IsUtf8-string_bytes s) (IsUtf8-string_bytes t) same (subst (λ n. n / 2 ^ 56 < 8) a l))
