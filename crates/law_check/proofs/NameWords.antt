-- The name of a variable is a name in core text.
use Rattle.std.proofs.Common.{◌≡◌, ℕ, zero, suc, ◌+◌, ◌*◌, ◌/◌, ◌%◌, ◌<◌, ◌≤◌, Bool, true, false, List, [], ◌∷◌, ◌++◌, length, arith, refl, sym, ap, subst, ◌∙◌, cond, append_assoc, inl, inr}
use Rattle.std.proofs.lemmas.Bool.{cases_lt, and_parts}
use Rattle.std.proofs.lemmas.Bool.Decides.{nat_tests}
use Rattle.std.proofs.lemmas.List.Elements.{All-head, All-tail}
use Rattle.std.proofs.lemmas.Str.{encodes-chars, scalars-chars}
use Rattle.std.specs.Char.{IsScalar, is_ascii_digit}
use Rattle.std.specs.Fmt.{digits, digits_onto, digit_glyph}
use Rattle.std.specs.List.{flat_map}
use Rattle.std.specs.Prelude.{◌==◌, nat_lt, codes, All}
use Rattle.std.specs.Str.{IsUtf8, chars, all_scalars, encode_utf8_all}
use lib.Utf8.{scalar, scalar_fits}
use Rattle.base_data.specs.Hex.{hex}
use Rattle.base_data.specs.declared.library.LibName.{LibName}
use Rattle.base_data.specs.declared.library.LibName.TheVariants as library
use Rattle.check_grammar.specs.Names as n
use Rattle.check_grammar.specs.Names.{MoreHex, IsHex, IsWord, AreParts, IsLibrary, AreDigits, IsNumber, IsName}
use Rattle.check_grammar.specs.Scan as scan
use Rattle.law_check.specs.Variables.{VariablesAreNamed}
use Rattle.law_names.specs.Variable.{IsPart, IsNamed}
use Rattle.core_naming.specs.Decimal.{number_within, number_text}
use Rattle.core_naming.specs.Generated.{is_plain, name_char, name_part, further_parts, library_text}

-- hexadecimal digits

glyph_is : (d : ℕ) → d < 16 → (scan.is_hex_digit (digit_glyph true d) ≡ true) × (scan.digit_value (digit_glyph true d) ≡ d)
glyph_is d h = elim (cases_lt d 10) [
  | inl k ↦ small k
  | inr k ↦ great k
] where
  small : d < 10 → (scan.is_hex_digit (digit_glyph true d) ≡ true) × (scan.digit_value (digit_glyph true d) ≡ d)
  small k = (grind (arith, nat_tests), grind (arith, nat_tests))

  great : 10 ≤ d → (scan.is_hex_digit (digit_glyph true d) ≡ true) × (scan.digit_value (digit_glyph true d) ≡ d)
  great k = (grind (arith, nat_tests), grind (arith, nat_tests))

-- below what so many digits can tell
abbrev room : ℕ → ℕ
room zero = 1
room (suc k) = 16 * room k

hex_onto : (k m c : ℕ) (rest : List ℕ) → 0 < m → m < room k → MoreHex m rest c → IsHex (digits_onto k 16 true m rest) c
hex_onto zero m c rest some h more = absurd (omega (arith, some, h))
hex_onto (suc k) m c rest some h more = by (m / 16 == 0) refl (hex_onto k (m / 16) c (digit_glyph true (m % 16) ∷ rest)) where
  digit : (scan.is_hex_digit (digit_glyph true (m % 16)) ≡ true) × (scan.digit_value (digit_glyph true (m % 16)) ≡ m % 16)
  digit = glyph_is (m % 16) (omega arith)

  by : (b : Bool) → m / 16 == 0 ≡ b → (0 < m / 16 → m / 16 < room k → MoreHex (m / 16) (digit_glyph true (m % 16) ∷ rest) c → IsHex (digits_onto k 16 true (m / 16) (digit_glyph true (m % 16) ∷ rest)) c)
      → IsHex (cond b (digit_glyph true (m % 16) ∷ rest) (digits_onto k 16 true (m / 16) (digit_glyph true (m % 16) ∷ rest))) c
  by true e go =
      let none : m / 16 ≡ 0 = grind (arith, nat_tests) in
      let same : scan.digit_value (digit_glyph true (m % 16)) ≡ m = digit.1 ∙ (omega (arith, none)) in
      n.positive digit.0 (omega (arith, same, some)) (subst (λ (v : ℕ). MoreHex v rest c) (sym same) more)
  by false e go =
      let greater : 0 < m / 16 = grind (arith, nat_tests) in
      let same : m / 16 * 16 + scan.digit_value (digit_glyph true (m % 16)) ≡ m = omega (arith, digit.1) in
      go greater (omega (arith, h)) (n.digit digit.0 (subst (λ (v : ℕ). MoreHex v rest c) (sym same) more))

hex_is : (c : ℕ) → IsScalar c → IsHex (hex c) c
unfolding digits
hex_is c h = elim (cases_lt 0 c) [
  | inl some ↦ hex_onto 64 c c [] some (omega (arith, scalar_fits c h)) n.no_digit
  | inr none ↦ (let zero_is : 0 ≡ c = omega (arith, none) in subst (λ (z : ℕ). IsHex (hex z) z) zero_is n.zero)
]

-- words

plain_is : (c : ℕ) → is_plain c ≡ scan.is_plain c
plain_is c = refl

char_before : (c : ℕ) (xs : List ℕ) → IsScalar c → IsWord xs → IsWord (name_char c ++ xs)
char_before c xs h w = by (is_plain c) refl where
  by : (b : Bool) → is_plain c ≡ b → IsWord (cond b (c ∷ []) (codes "~" ++ hex c ++ codes "~") ++ xs)
  by true e = n.plain (sym (plain_is c) ∙ e) w
  by false e = subst IsWord (ap (λ (l : List ℕ). 0x7E ∷ l) (sym (append_assoc (hex c) (codes "~") xs))) (n.escaped (hex_is c h) h (sym (plain_is c) ∙ e) w)

chars_are : (cs : List ℕ) → all_scalars cs ≡ true → IsWord (flat_map name_char cs)
chars_are [] h = n.no_character
chars_are (c ∷ cs) h = let both = and_parts (scalar c) (all_scalars cs) h in char_before c (flat_map name_char cs) both.0 (chars_are cs both.1)

word_is : (text : List ℕ) → IsUtf8 text → IsWord (name_part text)
word_is text u = chars_are (chars text) (scalars-chars text u)

-- a part has some characters, and so its word has some bytes
part_some : (text : List ℕ) → IsPart text → 0 < length (name_part text)
part_some text p = by (chars text) (encodes-chars text p.0) where
  some : (c : ℕ) (xs : List ℕ) → 0 < length (name_char c ++ xs)
  some c xs = by_plain (is_plain c) where
    by_plain : (b : Bool) → 0 < length (cond b (c ∷ []) (codes "~" ++ hex c ++ codes "~") ++ xs)
    by_plain true = omega arith
    by_plain false = omega arith

  by : (cs : List ℕ) → encode_utf8_all cs ≡ text → 0 < length (flat_map name_char cs)
  by [] e = absurd (none (ap length e) p.1) where
    none : 0 ≡ length text → 0 < length text → ⊥
    none e h = absurd (omega (arith, e, h))
  by (c ∷ cs) e = some c (flat_map name_char cs)

parts_are : (p : List ℕ) (ps : List (List ℕ)) → IsPart p → All IsPart ps → AreParts (name_part p ++ further_parts ps)
parts_are p [] h k = subst AreParts (sym (none (name_part p))) (n.one (word_is p h.0) (part_some p h)) where
  none : (xs : List ℕ) → xs ++ [] ≡ xs
  none [] = refl
  none (x ∷ xs) = ap (λ (l : List ℕ). x ∷ l) (none xs)
parts_are p (q ∷ ps) h k = n.more (word_is p h.0) (part_some p h) (parts_are q ps (All-head IsPart q ps k) (All-tail IsPart q ps k))

library_is : (l : LibName) → IsNamed l → IsLibrary (library_text l)
library_is library.Core h = absurd (h)
library_is library.Derived h = absurd (h)
library_is library.Prelude h = absurd (h)
library_is library.Program h = n.program
library_is (library.User []) h = n.program
library_is (library.User (p ∷ ps)) h = n.library (parts_are p ps (All-head IsPart p ps h.1) (All-tail IsPart p ps h.1))

-- numbers

record IsPositive (ds : List ℕ) : Type 0 where
  d : ℕ
  others : List ℕ
  is : ds ≡ d ∷ others
  low : 0x31 ≤ d
  high : d ≤ 0x39
  digits : AreDigits others

digit_is : (d : ℕ) → d < 10 → is_ascii_digit (48 + d) ≡ true
digit_is d h = grind (arith, nat_tests)

digits_append : (ds : List ℕ) (d : ℕ) → AreDigits ds → is_ascii_digit d ≡ true → AreDigits (ds ++ (d ∷ []))
digits_append _ d n.no_digits h = n.digits h n.no_digits
digits_append _ d (n.digits {ds = ds} k w) h = n.digits k (digits_append ds d w h)

number_some : (steps m : ℕ) → 0 < m → m < steps → IsPositive (number_within steps m)
number_some zero m some h = absurd (omega (arith, h))
number_some (suc steps) m some h = by (nat_lt m 10) refl (number_some steps (m / 10)) where
  by : (b : Bool) → nat_lt m 10 ≡ b → (0 < m / 10 → m / 10 < steps → IsPositive (number_within steps (m / 10))) → IsPositive (cond b ((48 + m) ∷ []) (number_within steps (m / 10) ++ ((48 + m % 10) ∷ [])))
  by true e go = let small : m < 10 = grind (arith, nat_tests) in record { d = 48 + m; others = []; is = refl; low = omega (arith, some); high = omega (arith, small); digits = n.no_digits }
  by false e go =
      let great : 10 ≤ m = grind (arith, nat_tests) in
      let front = go (omega (arith, great)) (omega (arith, great, h)) in
      record {
        d = front.d;
        others = front.others ++ ((48 + m % 10) ∷ []);
        is = ap (λ (l : List ℕ). l ++ ((48 + m % 10) ∷ [])) front.is;
        low = front.low;
        high = front.high;
        digits = digits_append front.others (48 + m % 10) front.digits (digit_is (m % 10) (omega arith));
      }

number_is : (m : ℕ) → IsNumber (number_text m)
unfolding number_text
number_is m = elim (cases_lt 0 m) [
  | inl some ↦ (let p = number_some (suc m) m some (omega arith) in subst IsNumber (sym p.is) (n.positive p.low p.high p.digits))
  | inr none ↦ (let zero_is : 0 ≡ m = omega (arith, none) in subst (λ (z : ℕ). IsNumber (number_text z)) zero_is n.zero)
]

-- the same, grouped from the left
regrouped : (l x m : List ℕ) → codes "%" ++ (l ++ (codes "/" ++ (x ++ (codes "/" ++ m)))) ≡ codes "%" ++ l ++ codes "/" ++ x ++ codes "/" ++ m
regrouped l x m =
    sym (append_assoc (codes "%" ++ l ++ codes "/" ++ x) (codes "/") m ∙ append_assoc (codes "%" ++ l ++ codes "/") x (codes "/" ++ m)
    ∙ append_assoc (codes "%" ++ l) (codes "/") (x ++ (codes "/" ++ m)) ∙ append_assoc (codes "%") l (codes "/" ++ (x ++ (codes "/" ++ m))))

pub variables_are_named : VariablesAreNamed
variables_are_named v h = subst IsName (regrouped (library_text v.library) (name_part v.symbol) (number_text v.number)) (n.name (library_is v.library h.0) (word_is v.symbol h.1) (number_is v.number))
