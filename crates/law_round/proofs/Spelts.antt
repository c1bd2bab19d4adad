-- Ratios and decimals as tokens.
use Rattle.std.proofs.Common.{◌≡◌, ℕ, zero, suc, ◌+◌, ◌<◌, ◌≤◌, Bool, true, false, List, [], ◌∷◌, ◌++◌, length, drop, take, arith, refl, sym, ap, ◌∙◌, subst, Option, Some, None, Result, Ok}
use Rattle.std.specs.Prelude.{◌==◌, ◌&&◌, ◌||◌, nat_lt, nat_le, slice_index, IsTrue}
use Rattle.std.specs.List.{list_all}
use Rattle.std.proofs.lemmas.Bool.{eqb-true}
use Rattle.std.proofs.lemmas.List.{get_or_past, drop_all}
use Rattle.std.proofs.lemmas.Bool.Decides.{nat_tests}
use Rattle.base_data.specs.declared.atom.Atom.TheVariants as a
use Rattle.read_spelling.specs.Identifiers.{identifier, is_peculiar, is_initial}
use Rattle.read_spelling.specs.Numbers.{is_digit, is_digits, digits_size, is_integer, unsigned, is_number_sign, is_spelt, is_ratio, is_decimal, is_ratio_of, is_decimal_of, is_part, is_positive, is_exponent_mark}
use Rattle.read_spelling.proofs.SpeltLemmas.{spelt_all}
use Rattle.read_lexer.specs.Tokens.{bare, is_dot, begins_number, number_of}
use Rattle.read_lexer.specs.declared.token.Token.TheVariants as t
use Rattle.law_round.proofs.Ascii.{ends}
use Rattle.law_round.proofs.Bare.{plain, opens, bare_reads, runs_all, runs_end}
use Rattle.law_round.proofs.Ints.{bare_number, no_name}
use Rattle.law_round.proofs.Lexing.{Reads}

digit_plain : (b : ℕ) → is_digit 10 b ≡ true → plain b ≡ true
digit_plain b h = let p : (0x30 ≤ b) × (b ≤ 0x39) = (grind (arith, nat_tests), grind (arith, nat_tests)) in grind (arith, nat_tests)

sign_plain : (b : ℕ) → is_number_sign b ≡ true → plain b ≡ true
sign_plain b h = grind (arith, nat_tests)

mark_plain : (b : ℕ) → is_exponent_mark b ≡ true → plain b ≡ true
mark_plain b h = grind (arith, nat_tests)

spelt_plain : (x : List ℕ) → is_spelt x ≡ true → list_all plain x ≡ true
spelt_plain x h = spelt_all plain digit_plain sign_plain mark_plain refl refl x h

-- what a number may begin with
number_opens : (b : ℕ) → begins_number b ≡ true → opens b ≡ true
number_opens b h = grind (arith, nat_tests)

number_no_initial : (b : ℕ) → begins_number b ≡ true → is_initial b ≡ false
number_no_initial b h = grind (arith, nat_tests)

number_small : (b : ℕ) → begins_number b ≡ true → (b < 0x80) × (b == 0x5C ≡ false)
number_small b h = (grind (arith, nat_tests), grind (arith, nat_tests))

sign_begins : (b : ℕ) → is_number_sign b ≡ true → begins_number b ≡ true
sign_begins b h = grind (arith, nat_tests)

digit_begins : (b : ℕ) → is_digit 10 b ≡ true → begins_number b ≡ true
digit_begins b h = grind (arith, nat_tests)

point_begins : (b : ℕ) → b == 0x2E ≡ true → begins_number b ≡ true
point_begins b h = grind (arith, nat_tests)

first_is : (b : ℕ) (bs : List ℕ) → is_spelt (b ∷ bs) ≡ true → begins_number b ≡ true
unfolding is_spelt
first_is b bs h = signed (is_number_sign b) refl where
  pointed : (point : Bool) → b == 0x2E ≡ point → is_number_sign b ≡ false → is_digit 10 b ≡ false → begins_number b ≡ true
  pointed true e s d = point_begins b e
  pointed false e s d = let no = rw (s, d, e) at h in absurd (cc)

  digital : (digit : Bool) → is_digit 10 b ≡ digit → is_number_sign b ≡ false → begins_number b ≡ true
  digital true e s = digit_begins b e
  digital false e s = pointed (b == 0x2E) refl s e

  signed : (sign : Bool) → is_number_sign b ≡ sign → begins_number b ≡ true
  signed true e = sign_begins b e
  signed false e = digital (is_digit 10 b) refl e

no_plus : is_spelt (0x2B ∷ []) ≡ true → ⊥
unfolding is_spelt
no_plus h = cc

no_minus : is_spelt (0x2D ∷ []) ≡ true → ⊥
unfolding is_spelt
no_minus h = cc

no_point : is_spelt (0x2E ∷ []) ≡ true → ⊥
unfolding is_spelt
no_point h = cc

no_points : (bs : List ℕ) → is_spelt (0x2E ∷ 0x2E ∷ bs) ≡ true → ⊥
unfolding is_spelt
no_points bs h = cc

no_arrow : (bs : List ℕ) → is_spelt (0x2D ∷ 0x3E ∷ bs) ≡ true → ⊥
unfolding is_spelt
no_arrow bs h = cc

-- a byte isn't this one
other : (b k : ℕ) → (b ≡ k → ⊥) → b == k ≡ false
other b k h = grind (arith, nat_tests)

longer : (n : ℕ) → suc (suc n) == 1 ≡ false
longer n = grind (arith, nat_tests)

spelt_no_dot : (b : ℕ) (bs : List ℕ) → is_spelt (b ∷ bs) ≡ true → is_dot (b ∷ bs) ≡ false
spelt_no_dot b [] h = other b 0x2E (λ e. no_point (rw e at h))
spelt_no_dot b (c ∷ cs) h = rw (longer (length cs)) refl

-- two bytes aren't these
others : (b c k l : ℕ) → (b ≡ k → c ≡ l → ⊥) → (b == k && c == l) ≡ false
others b c k l h = tested (b == k) refl where
  tested : (t : Bool) → b == k ≡ t → (b == k && c == l) ≡ false
  tested true e = rw e (other c l (λ f. h (eqb-true b k e) f))
  tested false e = rw e refl

shape_one : (p q : Bool) → p ≡ false → q ≡ false → ((true && (p || q)) || (false && false && false && false) || (q && false)) ≡ false
shape_one p q e f = rw (e, f) refl

shape_more : (one signs three dot second third minus arrow : Bool) → one ≡ false → (dot && second) ≡ false → (minus && arrow) ≡ false
    → ((one && signs) || (three && dot && second && third) || (minus && arrow)) ≡ false
shape_more one signs true true second third minus arrow e f g = rw (e, f, g) refl
shape_more one signs true false second third minus arrow e f g = rw (e, g) refl
shape_more one signs false dot second third minus arrow e f g = rw (e, g) refl

spelt_usual : (b : ℕ) (bs : List ℕ) → is_spelt (b ∷ bs) ≡ true → is_peculiar (b ∷ bs) ≡ false
spelt_usual b [] h = rw (other b 0x2B (λ e. no_plus (rw e at h)), other b 0x2D (λ e. no_minus (rw e at h))) refl
spelt_usual b (c ∷ cs) h =
    shape_more (length (b ∷ c ∷ cs) == 1) (b == 0x2B || b == 0x2D) (length (b ∷ c ∷ cs) == 3) (b == 0x2E) (c == 0x2E) (slice_index (b ∷ c ∷ cs) 2 == 0x2E) (b == 0x2D) (c == 0x3E)
    (longer (length cs)) (others b c 0x2E 0x2E (λ e f. no_points cs (rw (e, f) at h))) (others b c 0x2D 0x3E (λ e f. no_arrow cs (rw (e, f) at h)))

left : (a b : Bool) → (a && b) ≡ true → a ≡ true
left true b p = refl
left false b p = p

right : (a b : Bool) → (a && b) ≡ true → b ≡ true
right true b p = p
right false b p = absurd (cc)

size_all : (ds : List ℕ) → list_all (is_digit 10) ds ≡ true → digits_size 10 ds ≡ length ds
size_all [] h = refl
size_all (c ∷ cs) h = rw (left (is_digit 10 c) (list_all (is_digit 10) cs) h) (ap suc (size_all cs (right (is_digit 10 c) (list_all (is_digit 10) cs) h)))

none_there : (ds : List ℕ) → slice_index ds (length ds) ≡ 0
none_there ds = get_or_past ds (length ds) 0 (omega arith)

second_false : (a c d e f : Bool) → (a && false && c && d && e && f) ≡ false
second_false true c d e f = refl
second_false false c d e f = refl

and_false : (x : Bool) → (x && false) ≡ false
and_false true = refl
and_false false = refl

-- digits alone are no ratio and no decimal
no_ratio : (ds : List ℕ) → list_all (is_digit 10) ds ≡ true → is_ratio_of (digits_size 10 ds) ds ≡ false
no_ratio ds h = let n : ℕ = length ds in let denominator = drop 1 (drop n ds) in
    rw (size_all ds h, none_there ds) (second_false (nat_lt 0 n) (is_digits 10 denominator) (is_part (take n ds)) (is_part denominator) (is_positive denominator))

no_decimal : (ds : List ℕ) → list_all (is_digit 10) ds ≡ true → is_decimal_of (digits_size 10 ds) ds ≡ false
no_decimal ds h = rw (size_all ds h, none_there ds, drop_all (length ds) ds (omega arith)) (and_false (nat_lt 0 (length ds)))

neither : (r d : Bool) → r ≡ false → d ≡ false → (r || d) ≡ true → ⊥
neither true d p q e = cc
neither false true p q e = cc
neither false false p q e = cc

no_integer : (x : List ℕ) → is_spelt x ≡ true → is_integer 10 x ≡ false
unfolding is_spelt
no_integer x h = tested (is_integer 10 x) refl where
  tested : (t : Bool) → is_integer 10 x ≡ t → is_integer 10 x ≡ false
  tested false e = e
  tested true e =
      let digits = right (nat_lt 0 (length (unsigned x))) (list_all (is_digit 10) (unsigned x)) e in
      let ratio : is_ratio x ≡ false = no_ratio (unsigned x) digits in
      let decimal : is_decimal x ≡ false = no_decimal (unsigned x) digits in
      absurd (neither (is_ratio x) (is_decimal x) ratio decimal h)

spelt_bare : (b : ℕ) (bs : List ℕ) → is_spelt (b ∷ bs) ≡ true → (file : List ℕ) (from to : ℕ) → bare file (b ∷ bs) from to ≡ Ok (t.Atom (a.Spelt (b ∷ bs)))
spelt_bare b bs h file from to =
    let first = first_is b bs h in
    let small = number_small b first in
    bare_number file (b ∷ bs) from to (t.Atom (a.Spelt (b ∷ bs))) (spelt_no_dot b bs h) (no_name b bs (spelt_usual b bs h) small.0 small.1 (number_no_initial b first)) first
    (spelt_is file (b ∷ bs) from to (no_integer (b ∷ bs) h) h)
  where
    spelt_is : (file text : List ℕ) (from to : ℕ) → is_integer 10 text ≡ false → is_spelt text ≡ true → number_of file text from to ≡ Ok (t.Atom (a.Spelt text))
    spelt_is file text from to other is = rw (other, is) refl

none_spelt : is_spelt [] ≡ true → ⊥
unfolding is_spelt
none_spelt h = cc

pub spelt_reads : (x rest : List ℕ) → IsTrue (is_spelt x) → ends rest ≡ true → Reads x rest (t.Atom (a.Spelt x))
spelt_reads [] rest h e = absurd (none_spelt h)
spelt_reads (b ∷ bs) rest h e =
    bare_reads b bs rest (t.Atom (a.Spelt (b ∷ bs))) (number_opens b (first_is b bs h))
    (λ file at. runs_all file at (b ∷ bs) rest at (at + length (b ∷ bs)) (at + length (b ∷ bs)) refl (spelt_plain (b ∷ bs) h) (runs_end file at rest (at + length (b ∷ bs)) e))
    (spelt_bare b bs h)
