-- Numbers that are kept as they are spelt have digits, signs, slashes, points and exponent marks alone.
use Rattle.std.proofs.Common.{◌≡◌, ℕ, suc, ◌<◌, Bool, true, false, cond, List, [], ◌∷◌, length, drop, take, slice_index, refl, ◌∙◌, arith, lit<, add-zero}
use Rattle.std.proofs.lemmas.Bool.{eqb-true}
use Rattle.std.specs.Prelude.{◌==◌, ◌&&◌, ◌||◌, nat_lt}
use Rattle.std.specs.List.{list_all}
use Rattle.std.proofs.lemmas.Bool.Decides.{nat_tests}
use Rattle.std.proofs.lemmas.List.{get_or-drop}
use Rattle.read_spelling.specs.Numbers.{is_digit, is_digits, digits_size, is_ascii, unsigned, is_number_sign, is_integer, is_part, is_positive, is_ratio_of, is_ratio, is_exponent_mark, is_exponent, is_fraction, is_decimal, is_spelt}

both : (a b : Bool) → a ≡ true → b ≡ true → (a && b) ≡ true
both true b p q = q
both false b p q = p

left : (a b : Bool) → (a && b) ≡ true → a ≡ true
left true b p = refl
left false b p = p

right : (a b : Bool) → (a && b) ≡ true → b ≡ true
right true b p = p
right false b p = cc

ratio_parts : (a s d p q r : Bool) → (((((a && s) && d) && p) && q) && r) ≡ true → (s ≡ true) × (d ≡ true)
ratio_parts true true true p q r h = (refl, refl)
ratio_parts true true false p q r h = absurd (cc)
ratio_parts true false d p q r h = absurd (cc)
ratio_parts false s d p q r h = absurd (cc)

first_left : (text : List ℕ) (n : ℕ) → slice_index (drop n text) 0 ≡ slice_index text n
first_left text n = get_or-drop n text 0 0 ∙ rw add-zero refl

same_byte : (p : ℕ → Bool) (b c : ℕ) → p c ≡ true → b == c ≡ true → p b ≡ true
same_byte p b c h e = rw (eqb-true b c e) h

module _ (p : ℕ → Bool)
    (digit : (b : ℕ) → is_digit 10 b ≡ true → p b ≡ true)
    (sign : (b : ℕ) → is_number_sign b ≡ true → p b ≡ true)
    (mark : (b : ℕ) → is_exponent_mark b ≡ true → p b ≡ true)
    (slash : p 0x2F ≡ true) (point : p 0x2E ≡ true) where
  abbrev IsAll : List ℕ → Type 0
  IsAll text = list_all p text ≡ true

  digits_all : (text : List ℕ) → list_all (is_digit 10) text ≡ true → IsAll text
  digits_all [] h = refl
  digits_all (b ∷ bs) h =
      both (p b) (list_all p bs) (digit b (left (is_digit 10 b) (list_all (is_digit 10) bs) h)) (digits_all bs (right (is_digit 10 b) (list_all (is_digit 10) bs) h))

  behind_byte : (text : List ℕ) → p (slice_index text 0) ≡ true → IsAll (drop 1 text) → IsAll text
  behind_byte [] h rest = refl
  behind_byte (b ∷ bs) h rest = both (p b) (list_all p bs) h rest

  digits_step : (b : ℕ) (bs : List ℕ) (n : ℕ) (t : Bool) → is_digit 10 b ≡ t → (IsAll (drop n bs) → IsAll bs)
      → IsAll (drop (cond t (suc n) 0) (b ∷ bs)) → IsAll (b ∷ bs)
  digits_step b bs n true e more rest = both (p b) (list_all p bs) (digit b e) (more rest)
  digits_step b bs n false e more rest = rest

  behind_digits : (text : List ℕ) → IsAll (drop (digits_size 10 text) text) → IsAll text
  behind_digits [] rest = refl
  behind_digits (b ∷ bs) rest = digits_step b bs (digits_size 10 bs) (is_digit 10 b) refl (behind_digits bs) rest

  sign_step : (text : List ℕ) (t : Bool) → is_number_sign (slice_index text 0) ≡ t → IsAll (cond t (drop 1 text) text) → IsAll text
  sign_step text true e rest = behind_byte text (sign (slice_index text 0) e) rest
  sign_step text false e rest = rest

  behind_sign : (text : List ℕ) → IsAll (unsigned text) → IsAll text
  behind_sign text rest = sign_step text (is_number_sign (slice_index text 0)) refl rest

  integer_all : (text : List ℕ) → is_integer 10 text ≡ true → IsAll text
  integer_all text h = behind_sign text (digits_all (unsigned text) (right (nat_lt 0 (length (unsigned text))) (list_all (is_digit 10) (unsigned text)) h))

  exponent_all : (text : List ℕ) → is_exponent text ≡ true → IsAll text
  exponent_all text h =
      behind_byte text (mark (slice_index text 0) (left (is_exponent_mark (slice_index text 0)) (is_integer 10 (drop 1 text)) h))
      (integer_all (drop 1 text) (right (is_exponent_mark (slice_index text 0)) (is_integer 10 (drop 1 text)) h))

  -- digits, then a byte, and then others
  behind_both : (text : List ℕ) (c : ℕ) → p c ≡ true → slice_index text (digits_size 10 text) == c ≡ true
      → IsAll (drop 1 (drop (digits_size 10 text) text)) → IsAll text
  behind_both text c h e rest =
      let first : p (slice_index (drop (digits_size 10 text) text) 0) ≡ true = rw (first_left text (digits_size 10 text)) (same_byte p (slice_index text (digits_size 10 text)) c h e) in
      behind_digits text (behind_byte (drop (digits_size 10 text) text) first rest)

  ratio_of_all : (text : List ℕ) → is_ratio_of (digits_size 10 text) text ≡ true → IsAll text
  ratio_of_all text h =
      let n = digits_size 10 text in
      let rest = drop 1 (drop n text) in
      let parts = ratio_parts (nat_lt 0 n) (slice_index text n == 0x2F) (is_digits 10 rest) (is_part (take n text)) (is_part rest) (is_positive rest) h in
      behind_both text 0x2F slash parts.0 (digits_all rest (right (nat_lt 0 (length rest)) (list_all (is_digit 10) rest) parts.1))

  none_all : (text : List ℕ) → length text == 0 ≡ true → IsAll text
  none_all [] h = refl
  none_all (b ∷ bs) h = absurd (omega (arith, eqb-true (suc (length bs)) 0 h))

  end_all : (text : List ℕ) (t : Bool) → length text == 0 ≡ t → (t || is_exponent text) ≡ true → IsAll text
  end_all text true e h = none_all text e
  end_all text false e h = exponent_all text h

  fraction_all : (n : ℕ) (text : List ℕ) → is_fraction n text ≡ true → IsAll text
  fraction_all n text h =
      let m = digits_size 10 text in
      let rest = drop m text in
      behind_digits text (end_all rest (length rest == 0) refl (right (nat_lt 0 n || nat_lt 0 m) (length rest == 0 || is_exponent rest) h))

  decimal_step : (text : List ℕ) (t : Bool) → slice_index text (digits_size 10 text) == 0x2E ≡ t
      → cond t (is_fraction (digits_size 10 text) (drop 1 (drop (digits_size 10 text) text))) (nat_lt 0 (digits_size 10 text) && is_exponent (drop (digits_size 10 text) text)) ≡ true
      → IsAll text
  decimal_step text true e h = behind_both text 0x2E point e (fraction_all (digits_size 10 text) (drop 1 (drop (digits_size 10 text) text)) h)
  decimal_step text false e h =
      behind_digits text (exponent_all (drop (digits_size 10 text) text) (right (nat_lt 0 (digits_size 10 text)) (is_exponent (drop (digits_size 10 text) text)) h))

  spelt_step : (text : List ℕ) (t : Bool) → is_ratio text ≡ t → (t || is_decimal text) ≡ true → IsAll text
  spelt_step text true e h = behind_sign text (ratio_of_all (unsigned text) e)
  spelt_step text false e h = behind_sign text (decimal_step (unsigned text) (slice_index (unsigned text) (digits_size 10 (unsigned text)) == 0x2E) refl h)

  -- a number that is kept as it is spelt has such bytes alone
  pub spelt_all : (text : List ℕ) → is_spelt text ≡ true → list_all p text ≡ true
  unfolding is_spelt
  spelt_all text h = spelt_step text (is_ratio text) refl h

digit_ascii : (b : ℕ) → is_digit 10 b ≡ true → is_ascii b ≡ true
digit_ascii b h = grind (arith, nat_tests)

sign_ascii : (b : ℕ) → is_number_sign b ≡ true → is_ascii b ≡ true
sign_ascii b h = grind (arith, nat_tests)

mark_ascii : (b : ℕ) → is_exponent_mark b ≡ true → is_ascii b ≡ true
mark_ascii b h = grind (arith, nat_tests)

-- a number that is kept as it is spelt is ASCII
pub spelt_ascii : (text : List ℕ) → is_spelt text ≡ true → list_all is_ascii text ≡ true
spelt_ascii text h = spelt_all is_ascii digit_ascii sign_ascii mark_ascii refl refl text h
