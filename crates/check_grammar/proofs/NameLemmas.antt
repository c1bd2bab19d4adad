-- The scan finds exactly the names of the grammar.
use Rattle.std.proofs.Common.{◌≡◌, ℕ, zero, suc, ◌+◌, ◌*◌, ◌<◌, ◌≤◌, Bool, true, false, List, [], ◌∷◌, ◌++◌, length, length-append, cond, arith, refl, sym, ap, ◌∙◌, append_assoc}
use Rattle.std.specs.Prelude.{◌==◌, ◌||◌, ◌&&◌, not, nat_lt, nat_le}
use Rattle.std.specs.Char.{IsScalar, is_ascii_digit}
use Rattle.std.proofs.lemmas.Bool.{and_parts}
use Rattle.std.proofs.lemmas.Bool.Decides.{nat_tests}
use Rattle.check_grammar.specs.declared.names.WrittenWord.{WrittenWord}
use Rattle.check_grammar.specs.declared.names.WrittenWord.TheVariants.{Part, Symbol}
use Rattle.check_grammar.specs.declared.names.NamePlace.{NamePlace}
use Rattle.check_grammar.specs.declared.names.NamePlace.TheVariants.{Library, Dot, In, Tilde, Hex, Number, Zero, Digits, Nowhere}
use Rattle.check_grammar.specs.Scan.{is_plain, is_escaped, is_hex_digit, digit_value, next, word_on, tilde_on, hex_on, escape_end, number_on, digits_on, behind_slash, behind_dot, is_end, scanned, is_name}
use Rattle.check_grammar.specs.Names.{MoreHex, no_digit, digit, IsHex, IsWord, no_character, plain, escaped, AreParts, one, more, IsLibrary, program, library, AreDigits, no_digits, digits, IsNumber, IsName, name, NamesAreScanned}
use Rattle.check_grammar.specs.Names as names

-- what holds on both ways of a test holds
branch : {A : Type 0} (P : A → Type 0) (t : Bool) {x y : A} → (t ≡ true → P x) → (t ≡ false → P y) → P (cond t x y)
branch P true f g = f refl
branch P false f g = g refl

scanned-append : (p : NamePlace) (xs ys : List ℕ) → scanned p (xs ++ ys) ≡ scanned (scanned p xs) ys
unfolding scanned
scanned-append p [] ys = refl
scanned-append p (x ∷ xs) ys = scanned-append (next p x) xs ys

abbrev Ends : NamePlace → List ℕ → Type 0
Ends p xs = is_end (scanned p xs) ≡ true

-- tests on bytes

hex_no_tilde : (b : ℕ) → is_hex_digit b ≡ true → (b == 0x7E) ≡ false
hex_no_tilde b h = grind (arith, nat_tests)

plain_no_slash : (b : ℕ) → is_plain b ≡ true → (b == 0x2F) ≡ false
plain_no_slash b h = grind (arith, nat_tests)

plain_no_dot : (b : ℕ) → is_plain b ≡ true → (b == 0x2E) ≡ false
plain_no_dot b h = grind (arith, nat_tests)

is_byte : (b c : ℕ) → (b == c) ≡ true → b ≡ c
is_byte b c h = grind (arith, nat_tests)

few : (v : ℕ) → 0 < v → v ≤ 0x10FFF → (v == 0 || nat_lt 0x10FFF v) ≡ false
few v some least = grind (arith, nat_tests)

few_is : (v : ℕ) → (v == 0 || nat_lt 0x10FFF v) ≡ false → 0 < v
few_is v h = grind (arith, nat_tests)

scalar_small : (c : ℕ) → IsScalar c → c ≤ 0x10FFFF
scalar_small c h = grind (arith, nat_tests)

to_escaped : (c : ℕ) → IsScalar c → is_plain c ≡ false → is_escaped c ≡ true
to_escaped c s h = rw h (grind (arith, nat_tests))

escaped_scalar : (c : ℕ) → is_escaped c ≡ true → IsScalar c
escaped_scalar c h = grind (arith, nat_tests)

not_true : (b : Bool) → not b ≡ true → b ≡ false
not_true true h = absurd (cc)
not_true false h = refl

escaped_not_plain : (c : ℕ) → is_escaped c ≡ true → is_plain c ≡ false
escaped_not_plain c h = not_true (is_plain c) ((and_parts (nat_lt c 0xD800 || (nat_le 0xE000 c && nat_le c 0x10FFFF)) (not (is_plain c)) h).1)

-- what the grammar has is found

more_least : {v c : ℕ} {ds : List ℕ} → MoreHex v ds c → v ≤ c
more_least no_digit = omega arith
more_least (digit h m) = omega (arith, more_least m)

hex_step : (w : WrittenWord) (v d : ℕ) → is_hex_digit d ≡ true → 0 < v → v ≤ 0x10FFF → hex_on w v d ≡ Hex w (v * 16 + digit_value d)
hex_step w v d h some least = rw (hex_no_tilde d h, h, few v some least) refl

more_scanned : (w : WrittenWord) {v c : ℕ} {ds : List ℕ} → MoreHex v ds c → 0 < v → c ≤ 0x10FFFF → scanned (Hex w v) ds ≡ Hex w c
unfolding scanned
more_scanned w no_digit some least = refl
more_scanned w (digit {v} {c} {d} {ds} h m) some least =
    let short : v ≤ 0x10FFF = omega (arith, more_least m, least) in
    let on : 0 < v * 16 + digit_value d = omega arith in
    ap (λ (p : NamePlace). scanned p ds) (hex_step w v d h some short) ∙ more_scanned w m on least

tilde_step : (w : WrittenWord) (d : ℕ) → is_hex_digit d ≡ true → tilde_on w d ≡ Hex w (digit_value d)
tilde_step w d h = rw h refl

hex_scanned : (w : WrittenWord) {ds : List ℕ} {c : ℕ} → IsHex ds c → c ≤ 0x10FFFF → scanned (Tilde w) ds ≡ Hex w c
unfolding scanned
hex_scanned w names.zero least = refl
hex_scanned w (names.positive {d} {c} {ds} h some m) least = ap (λ (p : NamePlace). scanned p ds) (tilde_step w d h) ∙ more_scanned w m some least

end_step : (w : WrittenWord) (c : ℕ) → is_escaped c ≡ true → escape_end w c ≡ In w
end_step w c h = rw h refl

-- behind a tilde
escape_scanned : (w : WrittenWord) {ds : List ℕ} {c : ℕ} (xs : List ℕ) → IsHex ds c → IsScalar c → is_plain c ≡ false → scanned (Tilde w) (ds ++ 0x7E ∷ xs) ≡ scanned (In w) xs
unfolding scanned
escape_scanned w {ds} {c} xs h s e =
    scanned-append (Tilde w) ds (0x7E ∷ xs) ∙ ap (λ (p : NamePlace). scanned p (0x7E ∷ xs)) (hex_scanned w h (scalar_small c s))
    ∙ ap (λ (p : NamePlace). scanned p xs) (end_step w c (to_escaped c s e))

plain_step : (w : WrittenWord) (c : ℕ) → is_plain c ≡ true → next (In w) c ≡ In w
plain_step w c h = rw (plain_no_slash c h, plain_no_dot c h, h) refl

plain_dot : (c : ℕ) → is_plain c ≡ true → word_on Part c ≡ In Part
plain_dot c h = rw h refl

word_scanned : (w : WrittenWord) {xs : List ℕ} → IsWord xs → scanned (In w) xs ≡ In w
unfolding scanned
word_scanned w no_character = refl
word_scanned w (plain {c} {xs} h r) = ap (λ (p : NamePlace). scanned p xs) (plain_step w c h) ∙ word_scanned w r
word_scanned w (escaped {c} {ds} {xs} h s e r) = escape_scanned w xs h s e ∙ word_scanned w r

part_scanned : {xs : List ℕ} → IsWord xs → 0 < length xs → scanned Dot xs ≡ In Part
unfolding scanned
part_scanned no_character some = absurd (omega arith)
part_scanned (plain {c} {xs} h r) some = ap (λ (p : NamePlace). scanned p xs) (plain_dot c h) ∙ word_scanned Part r
part_scanned (escaped {c} {ds} {xs} h s e r) some = escape_scanned Part xs h s e ∙ word_scanned Part r

library_step : (c : ℕ) → is_plain c ≡ true → next Library c ≡ word_on Part c
library_step c h = rw (plain_no_slash c h) refl

library_begins : {xs : List ℕ} (ys : List ℕ) → IsWord xs → 0 < length xs → scanned Library (xs ++ ys) ≡ scanned Dot (xs ++ ys)
unfolding scanned
library_begins ys no_character some = absurd (omega arith)
library_begins ys (plain {c} {xs} h r) some = ap (λ (p : NamePlace). scanned p (xs ++ ys)) (library_step c h)
library_begins ys (escaped {c} {ds} {xs} h s e r) some = refl

parts_scanned : {xs : List ℕ} → AreParts xs → scanned Dot xs ≡ In Part
unfolding scanned
parts_scanned (one w some) = part_scanned w some
parts_scanned (more {x} {y} w some r) =
    scanned-append Dot x (0x2E ∷ y) ∙ ap (λ (p : NamePlace). scanned p (0x2E ∷ y)) (part_scanned w some) ∙ parts_scanned r

parts_begin : {xs : List ℕ} (ys : List ℕ) → AreParts xs → scanned Library (xs ++ ys) ≡ scanned Dot (xs ++ ys)
parts_begin ys (one {x} w some) = library_begins ys w some
parts_begin ys (more {x} {y} w some r) = rw (append_assoc x (0x2E ∷ y) ys) (library_begins (0x2E ∷ y ++ ys) w some)

digits_scanned : {ds : List ℕ} → AreDigits ds → scanned Digits ds ≡ Digits
unfolding scanned
digits_scanned no_digits = refl
digits_scanned (digits {d} {ds} h r) = ap (λ (p : NamePlace). scanned p ds) (step d h) ∙ digits_scanned r where
  step : (d : ℕ) → is_ascii_digit d ≡ true → digits_on d ≡ Digits
  step d h = rw h refl

number_ends : {n : List ℕ} → IsNumber n → Ends Number n
unfolding scanned
number_ends names.zero = refl
number_ends (names.positive {d} {ds} least most r) = ap (λ (p : NamePlace). is_end (scanned p ds)) (step d least most) ∙ ap is_end (digits_scanned r) where
  step : (d : ℕ) → 0x31 ≤ d → d ≤ 0x39 → number_on d ≡ Digits
  step d least most =
      let other : (d == 0x30) ≡ false = grind (arith, nat_tests) in
      let is : is_ascii_digit d ≡ true = grind (arith, nat_tests) in
      rw (other, is) refl

symbol_ends : {x n : List ℕ} → IsWord x → IsNumber n → Ends (In Symbol) (x ++ 0x2F ∷ n)
unfolding scanned
symbol_ends {x} {n} w r = ap is_end (scanned-append (In Symbol) x (0x2F ∷ n) ∙ ap (λ (p : NamePlace). scanned p (0x2F ∷ n)) (word_scanned Symbol w)) ∙ number_ends r

library_ends : {l x n : List ℕ} → IsLibrary l → IsWord x → IsNumber n → Ends Library (l ++ 0x2F ∷ (x ++ 0x2F ∷ n))
unfolding scanned
library_ends program w r = symbol_ends w r
library_ends {l} {x} {n} (library ps) w r =
    ap is_end (parts_begin (0x2F ∷ (x ++ 0x2F ∷ n)) ps ∙ scanned-append Dot l (0x2F ∷ (x ++ 0x2F ∷ n)) ∙ ap (λ (p : NamePlace). scanned p (0x2F ∷ (x ++ 0x2F ∷ n))) (parts_scanned ps))
    ∙ symbol_ends w r

found : (text : List ℕ) → IsName text → is_name text ≡ true
unfolding scanned
found text (name l x n) = library_ends l x n

-- what is found is in the grammar

nowhere : (xs : List ℕ) → Ends Nowhere xs → ⊥
unfolding scanned
nowhere [] h = cc
nowhere (x ∷ xs) h = nowhere xs h

zero_last : (xs : List ℕ) → Ends Zero xs → xs ≡ []
unfolding scanned
zero_last [] h = refl
zero_last (x ∷ xs) h = absurd (nowhere xs h)

to_digits : (xs : List ℕ) → Ends Digits xs → AreDigits xs
unfolding scanned
to_digits [] h = no_digits
to_digits (x ∷ xs) h =
    branch (λ (p : NamePlace). Ends p xs → AreDigits (x ∷ xs)) (is_ascii_digit x) (λ e g. digits e (to_digits xs g)) (λ e g. absurd (nowhere xs g)) h

positive_digit : (d : ℕ) → (d == 0x30) ≡ false → is_ascii_digit d ≡ true → (0x31 ≤ d) × (d ≤ 0x39)
positive_digit d h e = grind (arith, nat_tests)

zero_number : (x : ℕ) (xs : List ℕ) → x ≡ 0x30 → xs ≡ [] → IsNumber (x ∷ xs)
zero_number x xs e f = rw (e, f) names.zero

to_number : (xs : List ℕ) → Ends Number xs → IsNumber xs
unfolding scanned
to_number [] h = absurd (cc)
to_number (x ∷ xs) h =
    branch (λ (p : NamePlace). Ends p xs → IsNumber (x ∷ xs)) (x == 0x30) (λ e g. zero_number x xs (is_byte x 0x30 e) (zero_last xs g))
    (λ e. branch (λ (p : NamePlace). Ends p xs → IsNumber (x ∷ xs)) (is_ascii_digit x)
    (λ d g. let both = positive_digit x e d in names.positive both.0 both.1 (to_digits xs g)) (λ d g. absurd (nowhere xs g))) h

-- what stands behind a word
data Behind (w : WrittenWord) : List ℕ → Type 0 where
  slash : (r : List ℕ) → Ends (behind_slash w) r → Behind w (0x2F ∷ r)
  dot : (r : List ℕ) → Ends (behind_dot w) r → Behind w (0x2E ∷ r)

record InWord (w : WrittenWord) (xs : List ℕ) : Type 0 where
  word : List ℕ
  rest : List ℕ
  splits : xs ≡ word ++ rest
  is : IsWord word
  behind : Behind w rest

record InEscape (w : WrittenWord) (xs : List ℕ) (Digits : List ℕ → ℕ → Type 0) : Type 0 where
  ds : List ℕ
  c : ℕ
  rest : List ℕ
  splits : xs ≡ ds ++ 0x7E ∷ rest
  is : Digits ds c
  scalar : IsScalar c
  needed : is_plain c ≡ false
  within : InWord w rest

slash_here : (w : WrittenWord) (x : ℕ) (xs : List ℕ) → x ≡ 0x2F → Ends (behind_slash w) xs → InWord w (x ∷ xs)
slash_here w x xs e h = rw e (record { word = []; rest = 0x2F ∷ xs; splits = refl; is = no_character; behind = slash xs h })

dot_here : (w : WrittenWord) (x : ℕ) (xs : List ℕ) → x ≡ 0x2E → Ends (behind_dot w) xs → InWord w (x ∷ xs)
dot_here w x xs e h = rw e (record { word = []; rest = 0x2E ∷ xs; splits = refl; is = no_character; behind = dot xs h })

plain_here : (w : WrittenWord) (x : ℕ) (xs : List ℕ) → is_plain x ≡ true → InWord w xs → InWord w (x ∷ xs)
plain_here w x xs e r = record { word = x ∷ r.word; rest = r.rest; splits = ap (λ (l : List ℕ). x ∷ l) r.splits; is = plain e r.is; behind = r.behind }

escape_here : (w : WrittenWord) (x : ℕ) (xs : List ℕ) → x ≡ 0x7E → InEscape w xs IsHex → InWord w (x ∷ xs)
escape_here w x xs e r =
    let i = r.within in
    rw e (record {
      word = 0x7E ∷ (r.ds ++ 0x7E ∷ i.word);
      rest = i.rest;
      splits = ap (λ (l : List ℕ). 0x7E ∷ l) (r.splits ∙ ap (λ (l : List ℕ). r.ds ++ 0x7E ∷ l) i.splits ∙ sym (append_assoc r.ds (0x7E ∷ i.word) i.rest));
      is = escaped r.is r.scalar r.needed i.is;
      behind = i.behind;
    })

-- digits behind others of this value, of which there are none where it is zero
abbrev After : ℕ → List ℕ → ℕ → Type 0
After v ds c = MoreHex v ds c × (v ≡ 0 → ds ≡ [])

escape_ends : (w : WrittenWord) (v x : ℕ) (xs : List ℕ) → x ≡ 0x7E → is_escaped v ≡ true → InWord w xs → InEscape w (x ∷ xs) (After v)
escape_ends w v x xs e s r = rw e (record { ds = []; c = v; rest = xs; splits = refl; is = (no_digit, λ z. refl); scalar = escaped_scalar v s; needed = escaped_not_plain v s; within = r })

digit_goes : (w : WrittenWord) (v x : ℕ) (xs : List ℕ) → is_hex_digit x ≡ true → 0 < v → InEscape w xs (After (v * 16 + digit_value x)) → InEscape w (x ∷ xs) (After v)
digit_goes w v x xs h some r = record {
  ds = x ∷ r.ds;
  c = r.c;
  rest = r.rest;
  splits = ap (λ (l : List ℕ). x ∷ l) r.splits;
  is = (digit h r.is.0, λ z. absurd (omega (arith, some, z)));
  scalar = r.scalar;
  needed = r.needed;
  within = r.within;
}

lone_some : (v d : ℕ) (ds : List ℕ) → (v ≡ 0 → d ∷ ds ≡ []) → 0 < v
lone_some zero d ds l = absurd (none (l refl)) where
  none : d ∷ ds ≡ [] → ⊥
  none e = cc
lone_some (suc v) d ds l = omega arith

-- the first digit is zero and the last, or isn't zero
first_digit : {x c : ℕ} {ds : List ℕ} → is_hex_digit x ≡ true → MoreHex (digit_value x) ds c → (digit_value x ≡ 0 → ds ≡ []) → IsHex (x ∷ ds) c
first_digit {x} h no_digit lone = by (digit_value x == 0) refl where
  zero_glyph : (x : ℕ) → is_hex_digit x ≡ true → (digit_value x == 0) ≡ true → x ≡ 0x30
  zero_glyph x h e = grind (arith, nat_tests)

  by : (b : Bool) → (digit_value x == 0) ≡ b → IsHex (x ∷ []) (digit_value x)
  by true e = rw (zero_glyph x h e) names.zero
  by false e = names.positive h (grind (arith, nat_tests)) no_digit
first_digit {x} {c} h (digit {d = d} {ds = ds} k m) lone = names.positive h (lone_some (digit_value x) d ds lone) (digit k m)

tilde_goes : (w : WrittenWord) (x : ℕ) (xs : List ℕ) → is_hex_digit x ≡ true → InEscape w xs (After (digit_value x)) → InEscape w (x ∷ xs) IsHex
tilde_goes w x xs h r = record {
  ds = x ∷ r.ds;
  c = r.c;
  rest = r.rest;
  splits = ap (λ (l : List ℕ). x ∷ l) r.splits;
  is = first_digit h r.is.0 r.is.1;
  scalar = r.scalar;
  needed = r.needed;
  within = r.within;
}

not_false : (b : Bool) → not b ≡ false → b ≡ true
not_false true h = refl
not_false false h = absurd (cc)

mutual
  unfolding scanned

  in_word : (w : WrittenWord) (xs : List ℕ) → Ends (In w) xs → InWord w xs
  in_word w [] h = absurd (cc)
  in_word w (x ∷ xs) h =
      branch (λ (p : NamePlace). Ends p xs → InWord w (x ∷ xs)) (x == 0x2F) (λ e g. slash_here w x xs (is_byte x 0x2F e) g)
      (λ _. branch (λ (p : NamePlace). Ends p xs → InWord w (x ∷ xs)) (x == 0x2E) (λ e g. dot_here w x xs (is_byte x 0x2E e) g)
      (λ _. branch (λ (p : NamePlace). Ends p xs → InWord w (x ∷ xs)) (is_plain x) (λ e g. plain_here w x xs e (in_word w xs g))
      (λ _. branch (λ (p : NamePlace). Ends p xs → InWord w (x ∷ xs)) (x == 0x7E) (λ e g. escape_here w x xs (is_byte x 0x7E e) (in_tilde w xs g))
      (λ _ g. absurd (nowhere xs g))))) h

  in_tilde : (w : WrittenWord) (xs : List ℕ) → Ends (Tilde w) xs → InEscape w xs IsHex
  in_tilde w [] h = absurd (cc)
  in_tilde w (x ∷ xs) h =
      branch (λ (p : NamePlace). Ends p xs → InEscape w (x ∷ xs) IsHex) (is_hex_digit x) (λ e g. tilde_goes w x xs e (in_hex w (digit_value x) xs g)) (λ _ g. absurd (nowhere xs g)) h

  in_hex : (w : WrittenWord) (v : ℕ) (xs : List ℕ) → Ends (Hex w v) xs → InEscape w xs (After v)
  in_hex w v [] h = absurd (cc)
  in_hex w v (x ∷ xs) h =
      branch (λ (p : NamePlace). Ends p xs → InEscape w (x ∷ xs) (After v)) (x == 0x7E)
      (λ e. branch (λ (p : NamePlace). Ends p xs → InEscape w (x ∷ xs) (After v)) (is_escaped v)
      (λ s g. escape_ends w v x xs (is_byte x 0x7E e) s (in_word w xs g)) (λ _ g. absurd (nowhere xs g)))
      (λ _. branch (λ (p : NamePlace). Ends p xs → InEscape w (x ∷ xs) (After v)) (not (is_hex_digit x)) (λ _ g. absurd (nowhere xs g))
      (λ d. branch (λ (p : NamePlace). Ends p xs → InEscape w (x ∷ xs) (After v)) (v == 0 || nat_lt 0x10FFF v) (λ _ g. absurd (nowhere xs g))
      (λ some g. digit_goes w v x xs (not_false (is_hex_digit x) d) (few_is v some) (in_hex w (v * 16 + digit_value x) xs g)))) h

-- a symbol, a slash and a number
record Tail (xs : List ℕ) : Type 0 where
  symbol : List ℕ
  number : List ℕ
  splits : xs ≡ symbol ++ 0x2F ∷ number
  is_symbol : IsWord symbol
  is_number : IsNumber number

tail_of : (xs : List ℕ) → InWord Symbol xs → Tail xs
tail_of xs r = by r.rest r.behind r.splits where
  by : (rest : List ℕ) → Behind Symbol rest → xs ≡ r.word ++ rest → Tail xs
  by rest (slash n h) e = record { symbol = r.word; number = n; splits = e; is_symbol = r.is; is_number = to_number n h }
  by rest (dot n h) e = absurd (nowhere n h)

-- parts of a library's name, a slash and such a tail
record Parts (xs : List ℕ) : Type 0 where
  parts : List ℕ
  behind : List ℕ
  splits : xs ≡ parts ++ 0x2F ∷ behind
  are : AreParts parts
  tail : Tail behind

-- after a dot stands neither a slash nor a dot
no_slash : (x : ℕ) (xs : List ℕ) → x ≡ 0x2F → Ends Dot (x ∷ xs) → ⊥
unfolding scanned
no_slash x xs e h = let g : Ends Dot (0x2F ∷ xs) = rw e at h in nowhere xs g

no_dot : (x : ℕ) (xs : List ℕ) → x ≡ 0x2E → Ends Dot (x ∷ xs) → ⊥
unfolding scanned
no_dot x xs e h = let g : Ends Dot (0x2E ∷ xs) = rw e at h in nowhere xs g

dot_as_in : (xs : List ℕ) → Ends Dot xs → Ends (In Part) xs
unfolding scanned
dot_as_in [] h = absurd (cc)
dot_as_in (x ∷ xs) h =
    branch (λ (p : NamePlace). Ends p xs) (x == 0x2F) (λ e. absurd (no_slash x xs (is_byte x 0x2F e) h))
    (λ _. branch (λ (p : NamePlace). Ends p xs) (x == 0x2E) (λ e. absurd (no_dot x xs (is_byte x 0x2E e) h)) (λ _. h))

-- a word behind which neither a slash nor a dot stood at once
word_some : (xs : List ℕ) → Ends Dot xs → (r : InWord Part xs) → 0 < length r.word
word_some xs h r = by r.word r.rest r.behind r.splits where
  by : (word rest : List ℕ) → Behind Part rest → xs ≡ word ++ rest → 0 < length word
  by [] rest (slash n g) e = absurd (no_slash 0x2F n refl (rw e at h))
  by [] rest (dot n g) e = absurd (no_dot 0x2E n refl (rw e at h))
  by (b ∷ bs) rest g e = omega arith

parts_of : (n : ℕ) (xs : List ℕ) → length xs ≤ n → Ends Dot xs → Parts xs
unfolding scanned
parts_of zero [] few h = absurd (nowhere_dot h) where
  nowhere_dot : Ends Dot [] → ⊥
  nowhere_dot h = cc
parts_of zero (x ∷ xs) few h = absurd (omega (arith, few))
parts_of (suc n) xs few h = by (in_word Part xs (dot_as_in xs h)).rest (in_word Part xs (dot_as_in xs h)).behind (in_word Part xs (dot_as_in xs h)).splits (parts_of n) where
  r : InWord Part xs
  r = in_word Part xs (dot_as_in xs h)

  by : (rest : List ℕ) → Behind Part rest → xs ≡ r.word ++ rest → ((ys : List ℕ) → length ys ≤ n → Ends Dot ys → Parts ys) → Parts xs
  by rest (slash y g) e others = record { parts = r.word; behind = y; splits = e; are = one r.is (word_some xs h r); tail = tail_of y (in_word Symbol y g) }
  by rest (dot y g) e others =
      let shorter : length y ≤ n = omega (arith, few, ap length e, length-append r.word (0x2E ∷ y), word_some xs h r) in
      let p = others y shorter g in
      record {
        parts = r.word ++ 0x2E ∷ p.parts;
        behind = p.behind;
        splits = e ∙ ap (λ (l : List ℕ). r.word ++ 0x2E ∷ l) p.splits ∙ sym (append_assoc r.word (0x2E ∷ p.parts) (0x2F ∷ p.behind));
        are = more r.is (word_some xs h r) p.are;
        tail = p.tail;
      }

-- behind the percent sign
in_library : (xs : List ℕ) → Ends Library xs → IsName (0x25 ∷ xs)
unfolding scanned
in_library [] h = absurd (cc)
in_library (x ∷ xs) h =
    branch (λ (p : NamePlace). Ends p xs → IsName (0x25 ∷ x ∷ xs)) (x == 0x2F) (λ e g. programs x (is_byte x 0x2F e) (tail_of xs (in_word Symbol xs g)))
    (λ _ g. users (parts_of (length (x ∷ xs)) (x ∷ xs) (omega arith) g)) h
  where
    programs : (x : ℕ) → x ≡ 0x2F → Tail xs → IsName (0x25 ∷ x ∷ xs)
    programs x e t = rw (e, t.splits) (name program t.is_symbol t.is_number)

    users : {ys : List ℕ} → Parts ys → IsName (0x25 ∷ ys)
    users p = rw (p.splits, p.tail.splits) (name (library p.are) p.tail.is_symbol p.tail.is_number)

is_found : (text : List ℕ) → is_name text ≡ true → IsName text
unfolding scanned
is_found [] h = absurd (cc)
is_found (x ∷ xs) h =
    branch (λ (p : NamePlace). Ends p xs → IsName (x ∷ xs)) (x == 0x25) (λ e g. here x (is_byte x 0x25 e) (in_library xs g)) (λ _ g. absurd (nowhere xs g)) h
  where
    here : (x : ℕ) → x ≡ 0x25 → IsName (0x25 ∷ xs) → IsName (x ∷ xs)
    here x e n = rw e n

pub names_found : NamesAreScanned
names_found text = (is_found text, found text)
