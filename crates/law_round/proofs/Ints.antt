-- Integers as tokens.
use Rattle.std.proofs.Common.{◌≡◌, ℕ, zero, suc, ◌+◌, ◌-◌, ◌*◌, ◌<◌, ◌≤◌, ◌^◌, Bool, true, false, List, [], ◌∷◌, ◌++◌, length, arith, refl, sym, ap, ◌∙◌, ℤ, pos, negsuc, Option, Some, None, Result, Ok}
use Rattle.std.specs.Prelude.{◌==◌, ◌&&◌, ◌||◌, nat_lt, nat_le, slice_index, decimal}
use Rattle.std.specs.Fmt.{signed_decimal}
use Rattle.std.specs.List.{list_all}
use Rattle.std.specs.Char.{digit_value as std_value}
use Rattle.std.specs.Str.Parse.{AllDigits}
use Rattle.std.proofs.lemmas.Bool.Decides.{nat_tests}
use Rattle.base_data.specs.declared.atom.Atom.TheVariants as a
use Rattle.read_spelling.specs.Identifiers.{identifier, is_peculiar, is_initial, name_from, letter_here}
use Rattle.read_spelling.specs.Numbers.{is_digit, is_digits, is_integer, integer, unsigned, is_number_sign, is_minus, signed, value_from}
use Rattle.read_spelling.specs.declared.identifiers.Class.TheVariants as class
use Rattle.read_lexer.specs.Tokens.{bare, is_dot, begins_number, number_of}
use Rattle.read_lexer.specs.declared.token.Token.{Token}
use Rattle.read_lexer.specs.declared.token.Token.TheVariants as t
use Rattle.law_round.specs.Readable.{Fits}
use Rattle.law_round.proofs.Ascii.{characters-ascii, ends}
use Rattle.law_round.proofs.Bare.{plain, opens, bare_reads, runs_all, runs_end}
use Rattle.law_round.proofs.Digits.{all_digits, Spell, digits_spell}
use Rattle.law_round.proofs.Lexing.{Reads}

-- a bare text that is no identifier is a number
pub bare_number : (file text : List ℕ) (from to : ℕ) (k : Token) → is_dot text ≡ false → identifier text ≡ None → begins_number (slice_index text 0) ≡ true
    → number_of file text from to ≡ Ok k → bare file text from to ≡ Ok k
bare_number file text from to k no_dot no_name begins given = rw (no_dot, no_name, begins) given

some_left : (n : ℕ) → suc n == 0 ≡ false
some_left n = grind (arith, nat_tests)

-- no identifier begins with such a byte
pub no_name : (b : ℕ) (bs : List ℕ) → is_peculiar (b ∷ bs) ≡ false → b < 0x80 → b == 0x5C ≡ false → is_initial b ≡ false → identifier (b ∷ bs) ≡ None
unfolding name_from letter_here
no_name b bs usual small no_escape no_initial = rw (usual, some_left (length bs), no_escape, characters-ascii b bs small, no_initial) refl

digit_is : (b : ℕ) → std_value b < 10 → (0x30 ≤ b) × (b ≤ 0x39)
digit_is b h = (grind (arith, nat_tests), grind (arith, nat_tests))

digit_not : (b : ℕ) → std_value b < 10 → (b < 0x80) × (b == 0x5C ≡ false) × (b == 0x2B ≡ false) × (b == 0x2D ≡ false) × (b == 0x2E ≡ false)
digit_not b h = let p = digit_is b h in (omega arith, grind (arith, nat_tests), grind (arith, nat_tests), grind (arith, nat_tests), grind (arith, nat_tests))

digit_plain : (b : ℕ) → std_value b < 10 → plain b ≡ true
digit_plain b h = let p = digit_is b h in grind (arith, nat_tests)

digit_opens : (b : ℕ) → std_value b < 10 → opens b ≡ true
digit_opens b h = let p = digit_is b h in grind (arith, nat_tests)

digit_no_initial : (b : ℕ) → std_value b < 10 → is_initial b ≡ false
digit_no_initial b h = let p = digit_is b h in grind (arith, nat_tests)

digit_begins : (b : ℕ) → std_value b < 10 → begins_number b ≡ true
digit_begins b h = let p = digit_is b h in grind (arith, nat_tests)

pub and_false : (x y : Bool) → y ≡ false → (x && y) ≡ false
and_false true y h = h
and_false false y h = refl

-- a text with these first bytes
pub usual : (one three plus minus dot second third greater : Bool) → plus ≡ false → minus ≡ false → dot ≡ false
    → ((one && (plus || minus)) || (three && dot && second && third) || (minus && greater)) ≡ false
usual true true plus minus dot second third greater p m d = rw (p, m, d) refl
usual true false plus minus dot second third greater p m d = rw (p, m) refl
usual false true plus minus dot second third greater p m d = rw (m, d) refl
usual false false plus minus dot second third greater p m d = rw m refl

both : (a b : Bool) → a ≡ true → b ≡ true → (a && b) ≡ true
both true b p q = q
both false b p q = p

plain_digits : (ds : List ℕ) → AllDigits 10 ds → list_all plain ds ≡ true
plain_digits [] h = refl
plain_digits (b ∷ bs) h = both (plain b) (list_all plain bs) (digit_plain b h.0) (plain_digits bs h.1)

is_some : (n : ℕ) → nat_lt 0 (suc n) ≡ true
is_some n = grind (arith, nat_tests)

below : (m n : ℕ) → m ≤ n → nat_le m n ≡ true
below m n h = grind (arith, nat_tests)

number_is : (file text : List ℕ) (from to : ℕ) (z : ℤ) → is_integer 10 text ≡ true → integer 10 text ≡ Some z → number_of file text from to ≡ Ok (t.Atom (a.Int z))
number_is file text from to z is gives = rw (is, gives) refl

-- digits without a sign
digits_int : (b : ℕ) (bs : List ℕ) (n : ℕ) → Spell 10 n (b ∷ bs) → n < 2 ^ 127 → integer 10 (b ∷ bs) ≡ Some (pos n)
digits_int b bs n h fits =
    let q = digit_not b h.are.0 in
    rw (q.2, q.3, h.value, below n (2 ^ 127 - 1) (omega arith)) refl

digits_are : (b : ℕ) (bs : List ℕ) (n : ℕ) → Spell 10 n (b ∷ bs) → is_integer 10 (b ∷ bs) ≡ true
digits_are b bs n h =
    let q = digit_not b h.are.0 in
    rw (q.2, q.3, is_some (length bs)) (all_digits 10 (b ∷ bs) (omega arith) h.are)

digits_bare : (b : ℕ) (bs : List ℕ) (n : ℕ) → Spell 10 n (b ∷ bs) → n < 2 ^ 127 → (file : List ℕ) (from to : ℕ) → bare file (b ∷ bs) from to ≡ Ok (t.Atom (a.Int (pos n)))
digits_bare b bs n h fits file from to =
    let d = h.are.0 in
    let q = digit_not b d in
    let odd : is_peculiar (b ∷ bs) ≡ false = usual (length (b ∷ bs) == 1) (length (b ∷ bs) == 3) (b == 0x2B) (b == 0x2D) (b == 0x2E) (slice_index (b ∷ bs) 1 == 0x2E) (slice_index (b ∷ bs) 2 == 0x2E) (slice_index (b ∷ bs) 1 == 0x3E) q.2 q.3 q.4 in
    bare_number file (b ∷ bs) from to (t.Atom (a.Int (pos n))) (and_false (length (b ∷ bs) == 1) (b == 0x2E) q.4) (no_name b bs odd q.0 q.1 (digit_no_initial b d)) (digit_begins b d)
    (number_is file (b ∷ bs) from to (pos n) (digits_are b bs n h) (digits_int b bs n h fits))

digits_reads : (ds rest : List ℕ) (n : ℕ) → Spell 10 n ds → n < 2 ^ 127 → ends rest ≡ true → Reads ds rest (t.Atom (a.Int (pos n)))
digits_reads [] rest n h fits e = absurd (omega (arith, h.some))
digits_reads (b ∷ bs) rest n h fits e =
    bare_reads b bs rest (t.Atom (a.Int (pos n))) (digit_opens b h.are.0)
    (λ file at. runs_all file at (b ∷ bs) rest at (at + length (b ∷ bs)) (at + length (b ∷ bs)) refl (plain_digits (b ∷ bs) h.are) (runs_end file at rest (at + length (b ∷ bs)) e))
    (digits_bare b bs n h fits)

longer : (n : ℕ) → suc (suc n) == 1 ≡ false
longer n = grind (arith, nat_tests)

digit_no_arrow : (b : ℕ) → std_value b < 10 → b == 0x3E ≡ false
digit_no_arrow b h = let p = digit_is b h in grind (arith, nat_tests)

minus_int : (ds : List ℕ) (n : ℕ) → Spell 10 (suc n) ds → n < 2 ^ 127 → integer 10 (0x2D ∷ ds) ≡ Some (negsuc n)
minus_int ds n h fits = rw (h.value, below (suc n) (2 ^ 127) (omega arith)) refl

digits_some : (ds : List ℕ) → 0 < length ds → nat_lt 0 (length ds) ≡ true
digits_some ds h = grind (arith, nat_tests)

minus_are : (ds : List ℕ) (n : ℕ) → Spell 10 n ds → is_integer 10 (0x2D ∷ ds) ≡ true
minus_are ds n h = rw (digits_some ds h.some) (all_digits 10 ds (omega arith) h.are)

minus_odd : (three third : Bool) (n c : ℕ) → c == 0x3E ≡ false → ((suc (suc n) == 1 && true) || (three && false && (c == 0x2E) && third) || (true && (c == 0x3E))) ≡ false
minus_odd true third n c h = rw (longer n, h) refl
minus_odd false third n c h = rw (longer n, h) refl

minus_bare : (b : ℕ) (bs : List ℕ) (n : ℕ) → Spell 10 (suc n) (b ∷ bs) → n < 2 ^ 127 → (file : List ℕ) (from to : ℕ) → bare file (0x2D ∷ b ∷ bs) from to ≡ Ok (t.Atom (a.Int (negsuc n)))
minus_bare b bs n h fits file from to =
    let odd : is_peculiar (0x2D ∷ b ∷ bs) ≡ false = minus_odd (length (0x2D ∷ b ∷ bs) == 3) (slice_index (0x2D ∷ b ∷ bs) 2 == 0x2E) (length bs) b (digit_no_arrow b h.are.0) in
    bare_number file (0x2D ∷ b ∷ bs) from to (t.Atom (a.Int (negsuc n))) (and_false (length (0x2D ∷ b ∷ bs) == 1) false refl) (no_name 0x2D (b ∷ bs) odd (omega arith) refl refl) refl
    (number_is file (0x2D ∷ b ∷ bs) from to (negsuc n) (minus_are (b ∷ bs) (suc n) h) (minus_int (b ∷ bs) n h fits))

minus_reads : (ds rest : List ℕ) (n : ℕ) → Spell 10 (suc n) ds → n < 2 ^ 127 → ends rest ≡ true → Reads (0x2D ∷ ds) rest (t.Atom (a.Int (negsuc n)))
minus_reads [] rest n h fits e = absurd (omega (arith, h.some))
minus_reads (b ∷ bs) rest n h fits e =
    bare_reads 0x2D (b ∷ bs) rest (t.Atom (a.Int (negsuc n))) refl
    (λ file at. runs_all file at (0x2D ∷ b ∷ bs) rest at (at + length (0x2D ∷ b ∷ bs)) (at + length (0x2D ∷ b ∷ bs)) refl (plain_digits (b ∷ bs) h.are) (runs_end file at rest (at + length (0x2D ∷ b ∷ bs)) e))
    (minus_bare b bs n h fits)

pub int_reads : (z : ℤ) (rest : List ℕ) → Fits z → ends rest ≡ true → Reads (signed_decimal z) rest (t.Atom (a.Int z))
int_reads (pos n) rest h e = digits_reads (decimal n) rest n (digits_spell 10 false n (omega arith) (omega arith) (omega arith)) h e
int_reads (negsuc n) rest h e = minus_reads (decimal (suc n)) rest n (digits_spell 10 false (suc n) (omega arith) (omega arith) (omega arith)) h e
