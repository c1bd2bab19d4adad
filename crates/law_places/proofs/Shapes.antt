-- Line ends are made of whole characters.
use Rattle.std.proofs.Common.{◌≡◌, ℕ, zero, suc, ◌-◌, ◌<◌, Bool, true, false, List, [], ◌∷◌, length, drop, refl, sym, ◌∙◌, ◌⊎◌, inl, inr, arith, cond, nat_lt, slice_index}
use Rattle.std.specs.Prelude.{◌==◌, ◌&&◌}
use Rattle.std.proofs.lemmas.Bool.{false≢true}
use Rattle.std.proofs.lemmas.Bool.Decides.{nat_tests}
use Rattle.bstr.specs.Utf8.{decoded_by}
use Rattle.base_data.specs.Place.{line_end, line_end_of, char_size, size_of}

-- the size of the character that n bytes with these in front begin with
abbrev size_by : ℕ → ℕ → ℕ → ℕ → ℕ → ℕ
size_by n b c d e = size_of (decoded_by n b c d e).char (decoded_by n b c d e).size

one : (n b c d e : ℕ) → 0 < n → b < 0x80 → size_by n b c d e ≡ 1
one n b c d e some low =
    let p : n == 0 ≡ false = grind (arith, nat_tests) in
    let q : nat_lt b 0x80 ≡ true = grind (arith, nat_tests) in
    rw (p, q)

next_line : (n d e : ℕ) → 1 < n → size_by n 0xC2 0x85 d e ≡ 2
next_line n d e two =
    let p : n == 0 ≡ false = grind (arith, nat_tests) in
    let q : nat_lt n 2 ≡ false = grind (arith, nat_tests) in
    rw (p, q)

separator : (n e : ℕ) → 2 < n → size_by n 0xE2 0x80 0xA8 e ≡ 3
separator n e three =
    let p : n == 0 ≡ false = grind (arith, nat_tests) in
    let q : nat_lt n 2 ≡ false = grind (arith, nat_tests) in
    let r : nat_lt n 3 ≡ false = grind (arith, nat_tests) in
    rw (p, q, r)

-- a test that came true
is : (a b : ℕ) → a == b ≡ true → a ≡ b
is a b t = grind (arith, nat_tests)

both : (t u : Bool) → t && u ≡ true → (t ≡ true) × (u ≡ true)
both true true e = (refl, refl)
both true false e = absurd (false≢true e)
both false u e = absurd (false≢true e)

-- a byte that is not 0 stands in the bytes
stands : (bytes : List ℕ) (i : ℕ) → 0 < slice_index bytes i → i < length bytes
stands [] zero h = absurd (omega arith)
stands [] (suc i) h = absurd (omega arith)
stands (b ∷ rest) zero h = omega arith
stands (b ∷ rest) (suc i) h = let more : i < length rest = stands rest i h in omega arith

-- what n bytes that begin b c d e f have in front where a line end of m bytes comes: one character, or a return of one
-- byte and a line end that is one character
data Front (n b c d e f m : ℕ) : Type 0 where
  one_character : size_by n b c d e ≡ m → Front n b c d e f m
  after_return : (r : ℕ) → 0 < r → m ≡ suc r → size_by n b c d e ≡ 1 → size_by (n - 1) c d e f ≡ r → line_end_of c d e ≡ r → Front n b c d e f m

-- which way a choice went
chosen : {A : Type 0} (t : Bool) (x y : A) {z : A} → cond t x y ≡ z → ((t ≡ true) × (x ≡ z)) ⊎ ((t ≡ false) × (y ≡ z))
chosen true x y e = inl (refl, e)
chosen false x y e = inr (refl, e)

front : (n b c d e f m : ℕ) → 0 < n → (0 < c → 1 < n) → (0 < d → 2 < n) → line_end_of b c d ≡ m → 0 < m → Front n b c d e f m
front n b c d e f m some second third same ends =
    elim (chosen (b == 0x0A) _ _ same) [
      | inl (t, g) ↦ let i : b ≡ 0x0A = is b 0x0A t in one_character (one n b c d e some (omega arith) ∙ g)
      | inr (_, other) ↦ elim (chosen (b == 0x0D) _ _ other) [
        | inl (t, behind) ↦ let i : b ≡ 0x0D = is b 0x0D t in at_return i behind
        | inr (_, rest) ↦ elim (chosen (b == 0xC2 && c == 0x85) _ _ rest) [
          | inl (t, g) ↦ let v = both (b == 0xC2) (c == 0x85) t in let i : b ≡ 0xC2 = is b 0xC2 v.0 in let j : c ≡ 0x85 = is c 0x85 v.1 in
              one_character (rw (i, j) (next_line n d e (second (omega arith))) ∙ g)
          | inr (_, last) ↦ elim (chosen (b == 0xE2 && c == 0x80 && d == 0xA8) _ _ last) [
            | inl (t, g) ↦ let v = both (b == 0xE2 && c == 0x80) (d == 0xA8) t in let w = both (b == 0xE2) (c == 0x80) v.0 in
                let i : b ≡ 0xE2 = is b 0xE2 w.0 in let j : c ≡ 0x80 = is c 0x80 w.1 in let k : d ≡ 0xA8 = is d 0xA8 v.1 in
                one_character (rw (i, j, k) (separator n e (third (omega arith))) ∙ g)
            | inr (_, none) ↦ absurd (omega arith)
          ]
        ]
      ]
    ]
  where
    at_return : b ≡ 0x0D → cond (c == 0x0A) 2 (cond (c == 0xC2 && d == 0x85) 3 1) ≡ m → Front n b c d e f m
    at_return i behind =
        let low : size_by n b c d e ≡ 1 = one n b c d e some (omega arith) in
        elim (chosen (c == 0x0A) _ _ behind) [
          | inl (t, g) ↦ let j : c ≡ 0x0A = is c 0x0A t in
              after_return 1 (omega arith) (sym g) low (one (n - 1) c d e f (omega (arith, second (omega arith))) (omega arith)) (rw j refl)
          | inr (_, rest) ↦ elim (chosen (c == 0xC2 && d == 0x85) _ _ rest) [
            | inl (t, g) ↦ let v = both (c == 0xC2) (d == 0x85) t in let j : c ≡ 0xC2 = is c 0xC2 v.0 in let k : d ≡ 0x85 = is d 0x85 v.1 in
                after_return 2 (omega arith) (sym g) low (rw (j, k) (next_line (n - 1) e f (omega (arith, third (omega arith))))) (rw (j, k) refl)
            | inr (_, g) ↦ one_character (low ∙ g)
          ]
        ]

-- the bytes begin with a line end of m bytes: one character, or a return and a line end that is one character
pub data Shape (bytes : List ℕ) (m : ℕ) : Type 0 where
  whole : char_size bytes ≡ m → Shape bytes m
  return : (r : ℕ) → 0 < r → m ≡ suc r → char_size bytes ≡ 1 → char_size (drop 1 bytes) ≡ r → line_end (drop 1 bytes) ≡ r → Shape bytes m

pub shape : (bytes : List ℕ) → 0 < line_end bytes → Shape bytes (line_end bytes)
shape [] h = absurd (omega arith)
shape (b ∷ rest) h =
    let c : ℕ = slice_index rest 0 in let d : ℕ = slice_index rest 1 in
    let second : 0 < c → 1 < length (b ∷ rest) = λ some. stands (b ∷ rest) 1 some in
    let third : 0 < d → 2 < length (b ∷ rest) = λ some. stands (b ∷ rest) 2 some in
    elim (front (length (b ∷ rest)) b c d (slice_index rest 2) (slice_index rest 3) _ (omega arith) second third refl h) [
      | one_character e ↦ whole e
      | after_return r some e f g k ↦ return r some e f (let one_less : length (b ∷ rest) - 1 ≡ length rest = omega arith in rw one_less at g) k
    ]

pub line_end-some : (bytes : List ℕ) → 0 < line_end bytes → 0 < length bytes
line_end-some [] h = absurd (omega arith)
line_end-some (b ∷ rest) h = omega arith
