-- No line ends in the text of a datum that can be read.
use Rattle.std.proofs.Common.{◌≡◌, ℕ, zero, suc, ◌+◌, ◌/◌, ◌%◌, ◌<◌, ◌≤◌, Bool, true, false, List, [], ◌∷◌, ◌++◌, ℤ, pos, negsuc, arith, refl, sym, ap, subst, ◌∙◌, cond}
use Rattle.std.proofs.lemmas.Bool.{and_parts, and_from, eqb-true}
use Rattle.std.proofs.lemmas.Bool.Decides.{nat_tests}
use Rattle.std.proofs.lemmas.Str.{encode_ascii}
use Rattle.std.specs.Fmt.{digits, digits_onto, digit_glyph, signed_decimal}
use Rattle.std.specs.List.{flat_map, list_all}
use Rattle.std.specs.Prelude.{◌==◌, ◌&&◌, not, nat_le, codes, decimal, encode_utf8, IsTrue}
use Rattle.std.specs.Str.{chars}
use Rattle.base_data.specs.Datum.{PlainDatum, atom, symbol, pair, vector}
use Rattle.base_data.specs.Hex.{hex}
use Rattle.base_data.specs.declared.atom.Atom.{Atom}
use Rattle.base_data.specs.declared.atom.Atom.TheVariants as a
use Rattle.law_check.proofs.Alike.{at_number}
use Rattle.check_grammar.specs.Characters.{escape_text, by_name, character_text}
use Rattle.check_grammar.specs.Lines as lines
use Rattle.check_grammar.specs.Lines.{HasNoEnd}
use Rattle.check_grammar.specs.Strings.{string_character, contents, string_text}
use Rattle.check_grammar.specs.Symbols.{is_initial, is_later, initial_text, later_character, begun_text, is_peculiar, symbol_text}
use Rattle.check_grammar.specs.Text.{further_bytes, bytes_text, atom_text, atom_behind, text_of, within, behind}
use Rattle.law_round.specs.Readable.{IsReadable, IsReadableAtom, IsRest, AreElements}
use Rattle.law_names.proofs.Words.{all_append}
use Rattle.read_spelling.proofs.SpeltLemmas.{spelt_all}
use Rattle.read_spelling.specs.Numbers.{is_digit, is_number_sign, is_exponent_mark, is_spelt}

-- bytes that are no line end
abbrev is_fine : ℕ → Bool
is_fine b = not (b == 0x0A)

abbrev Fine : List ℕ → Type 0
Fine xs = list_all is_fine xs ≡ true

both : (xs ys : List ℕ) → Fine xs → Fine ys → Fine (xs ++ ys)
both xs ys h k = all_append is_fine xs ys h k

at_test : (b : Bool) (x y : List ℕ) → (b ≡ true → Fine x) → (b ≡ false → Fine y) → Fine (cond b x y)
at_test true x y f g = f refl
at_test false x y f g = g refl

-- digits

onto_fine : (k base n : ℕ) (upper : Bool) (rest : List ℕ) → Fine rest → Fine (digits_onto k base upper n rest)
onto_fine zero base n upper rest h = h
onto_fine (suc k) base n upper rest h =
    at_test (n / base == 0) _ _ (λ e. and_from (is_fine (digit_glyph upper (n % base))) (list_all is_fine rest) (glyph_fine upper (n % base)) h)
    (λ e. onto_fine k base (n / base) upper (digit_glyph upper (n % base) ∷ rest) (and_from (is_fine (digit_glyph upper (n % base))) (list_all is_fine rest) (glyph_fine upper (n % base)) h))
  where
    glyph_fine : (upper : Bool) (d : ℕ) → is_fine (digit_glyph upper d) ≡ true
    glyph_fine true d = grind (arith, nat_tests)
    glyph_fine false d = grind (arith, nat_tests)

digits_fine : (base n : ℕ) (upper : Bool) → Fine (digits base upper n)
unfolding digits
digits_fine base n upper = onto_fine 64 base n upper [] refl

integer_fine : (z : ℤ) → Fine (signed_decimal z)
integer_fine (pos n) = digits_fine 10 n false
integer_fine (negsuc n) = digits_fine 10 (suc n) false

-- characters

encoded_fine : (c : ℕ) → c < 0x80 → c == 0x0A ≡ false → Fine (encode_utf8 c)
encoded_fine c h e = subst Fine (sym (encode_ascii c h)) (and_from (is_fine c) true (ap not e) refl)

escape_fine : (c : ℕ) → Fine (escape_text c)
escape_fine c = both (codes "\\x") (hex c ++ codes ";") refl (both (hex c) (codes ";") (digits_fine 16 c true) refl)

abbrev NameFine : ℕ → Type 0
NameFine c = Fine (by_name c)

name_fine : (c : ℕ) → NameFine c
name_fine c =
    at_number NameFine c 0x00 refl (λ h0. at_number NameFine c 0x07 refl (λ h1. at_number NameFine c 0x08 refl (λ h2. at_number NameFine c 0x09 refl (λ h3. at_number NameFine c 0x0A refl (λ h4.
    at_number NameFine c 0x0B refl (λ h5. at_number NameFine c 0x0C refl (λ h6. at_number NameFine c 0x0D refl (λ h7. at_number NameFine c 0x1B refl (λ h8. at_number NameFine c 0x20 refl (λ h9.
    at_number NameFine c 0x7F refl (λ h10. rw (h0, h1, h2, h3, h4, h5, h6, h7, h8, h9, h10) (both (codes "x") (hex c) refl (digits_fine 16 c true)))))))))))))

character_fine : (c : ℕ) → Fine (character_text c)
character_fine c =
    at_test (nat_le 0x21 c && nat_le c 0x7E) (codes "#\\" ++ encode_utf8 c) (codes "#\\" ++ by_name c)
    (λ h. both (codes "#\\") (encode_utf8 c) refl (encoded_fine c (grind (arith, nat_tests)) (grind (arith, nat_tests)))) (λ _. both (codes "#\\") (by_name c) refl (name_fine c))

-- texts of characters

all_fine : (f : ℕ → List ℕ) → ((c : ℕ) → Fine (f c)) → (cs : List ℕ) → Fine (flat_map f cs)
all_fine f h [] = refl
all_fine f h (c ∷ cs) = both (f c) (flat_map f cs) (h c) (all_fine f h cs)

abbrev StringFine : ℕ → Type 0
StringFine c = Fine (string_character c)

string_character_fine : (c : ℕ) → StringFine c
string_character_fine c =
    at_number StringFine c 0x07 refl (λ h0. at_number StringFine c 0x08 refl (λ h1. at_number StringFine c 0x09 refl (λ h2. at_number StringFine c 0x0A refl (λ h3. at_number StringFine c 0x0B refl (λ h4.
    at_number StringFine c 0x0C refl (λ h5. at_number StringFine c 0x0D refl (λ h6. at_number StringFine c 0x22 refl (λ h7. at_number StringFine c 0x5C refl (λ h8.
    rw (h0, h1, h2, h3, h4, h5, h6, h7, h8)
    (at_test (nat_le 0x20 c && nat_le c 0x7E) (encode_utf8 c) (escape_text c) (λ h. encoded_fine c (grind (arith, nat_tests)) h3) (λ _. escape_fine c)))))))))))

string_fine : (text : List ℕ) → Fine (string_text text)
string_fine text = both (codes "\"") (contents text ++ codes "\"") refl (both (contents text) (codes "\"") (all_fine string_character string_character_fine (chars text)) refl)

initial_small : (c : ℕ) → is_initial c ≡ true → c < 0x80
initial_small c h = grind (arith, nat_tests)

later_small : (c : ℕ) → is_later c ≡ true → c < 0x80
later_small c h = grind (arith, nat_tests)

not_so : (p : ℕ → Bool) (c : ℕ) → p 0x0A ≡ false → p c ≡ true → c == 0x0A ≡ false
not_so p c n h = by (c == 0x0A) refl where
  apart : (b : Bool) → b ≡ true → b ≡ false → ⊥
  apart b h k = cc

  by : (b : Bool) → c == 0x0A ≡ b → b ≡ false
  by true e = absurd (apart (p c) h (ap p (eqb-true c 0x0A e) ∙ n))
  by false e = refl

later_fine : (c : ℕ) → Fine (later_character c)
later_fine c = at_test (is_later c) (encode_utf8 c) (escape_text c) (λ h. encoded_fine c (later_small c h) (not_so is_later c refl h)) (λ _. escape_fine c)

first_fine : (c : ℕ) → Fine (initial_text c)
first_fine c = at_test (is_initial c) (encode_utf8 c) (escape_text c) (λ h. encoded_fine c (initial_small c h) (not_so is_initial c refl h)) (λ _. escape_fine c)

begun_fine : (cs : List ℕ) → Fine (begun_text cs)
begun_fine [] = refl
begun_fine (c ∷ cs) = both (initial_text c) (flat_map later_character cs) (first_fine c) (all_fine later_character later_fine cs)

symbol_fine : (x : List ℕ) → Fine (symbol_text x)
symbol_fine x = at_test (is_peculiar x) (flat_map later_character (chars x)) (begun_text (chars x)) (λ _. all_fine later_character later_fine (chars x)) (λ _. begun_fine (chars x))

-- numbers as they were spelt

digit_fine : (b : ℕ) → is_digit 10 b ≡ true → is_fine b ≡ true
digit_fine b h = let p : (0x30 ≤ b) × (b ≤ 0x39) = (grind (arith, nat_tests), grind (arith, nat_tests)) in grind (arith, nat_tests)

sign_fine : (b : ℕ) → is_number_sign b ≡ true → is_fine b ≡ true
sign_fine b h = grind (arith, nat_tests)

mark_fine : (b : ℕ) → is_exponent_mark b ≡ true → is_fine b ≡ true
mark_fine b h = grind (arith, nat_tests)

spelt_fine : (x : List ℕ) → IsTrue (is_spelt x) → Fine x
spelt_fine x h = spelt_all is_fine digit_fine sign_fine mark_fine refl refl x h

-- bytes

further_fine : (ns : List ℕ) → Fine (further_bytes ns)
further_fine [] = refl
further_fine (n ∷ ns) = both (codes " ") (decimal n ++ further_bytes ns) refl (both (decimal n) (further_bytes ns) (digits_fine 10 n false) (further_fine ns))

bytes_fine : (ns : List ℕ) → Fine (bytes_text ns)
bytes_fine [] = refl
bytes_fine (n ∷ ns) = both (decimal n) (further_bytes ns) (digits_fine 10 n false) (further_fine ns)

-- data

atom_fine : (n : ℕ) (c : Atom) → IsReadableAtom n c → Fine (atom_text c)
atom_fine n a.Nil h = refl
atom_fine n (a.Bool true) h = refl
atom_fine n (a.Bool false) h = refl
atom_fine n (a.Int z) h = integer_fine z
atom_fine n (a.Spelt text) h = spelt_fine text h
atom_fine n (a.Char c) h = character_fine c
atom_fine n (a.Str text) h = string_fine text
atom_fine n (a.Bytes ns) h = both (codes "#vu8(") (bytes_text ns ++ codes ")") refl (both (bytes_text ns) (codes ")") (bytes_fine ns) refl)

dotted_fine : (x : List ℕ) → Fine x → Fine (codes " . " ++ x)
dotted_fine x h = both (codes " . ") x refl h

behind_fine : (n : ℕ) (c : Atom) → IsReadableAtom n c → Fine (atom_behind c)
behind_fine n a.Nil h = refl
behind_fine n (a.Bool b) h = dotted_fine (atom_text (a.Bool b)) (atom_fine n (a.Bool b) h)
behind_fine n (a.Int z) h = dotted_fine (atom_text (a.Int z)) (atom_fine n (a.Int z) h)
behind_fine n (a.Spelt text) h = dotted_fine (atom_text (a.Spelt text)) (atom_fine n (a.Spelt text) h)
behind_fine n (a.Char c) h = dotted_fine (atom_text (a.Char c)) (atom_fine n (a.Char c) h)
behind_fine n (a.Str text) h = dotted_fine (atom_text (a.Str text)) (atom_fine n (a.Str text) h)
behind_fine n (a.Bytes ns) h = dotted_fine (atom_text (a.Bytes ns)) (atom_fine n (a.Bytes ns) h)

mutual
  text_fine : (n : ℕ) (d : PlainDatum) → IsReadable n d → Fine (text_of d)
  text_fine n (atom s c) h = atom_fine n c h
  text_fine n (symbol s x) h = symbol_fine x
  text_fine zero (pair s d e) h = absurd (h)
  text_fine (suc n) (pair s d e) h = both (codes "(") ((text_of d ++ behind e) ++ codes ")") refl (both (text_of d ++ behind e) (codes ")") (both (text_of d) (behind e) (text_fine n d h.0) (rest_fine n e h.1)) refl)
  text_fine zero (vector s d) h = absurd (h)
  text_fine (suc n) (vector s d) h = both (codes "#(") (within d ++ codes ")") refl (both (within d) (codes ")") (elements_fine n d h) refl)

  elements_fine : (n : ℕ) (d : PlainDatum) → AreElements n d → Fine (within d)
  elements_fine n (atom s c) h = refl
  elements_fine n (symbol s x) h = refl
  elements_fine n (pair s d e) h = both (text_of d) (behind e) (text_fine n d h.0) (others_fine n e h.1)
  elements_fine n (vector s d) h = refl

  -- elements behind another
  others_fine : (n : ℕ) (d : PlainDatum) → AreElements n d → Fine (behind d)
  others_fine n (atom s a.Nil) h = refl
  others_fine n (atom s (a.Bool b)) h = absurd (h)
  others_fine n (atom s (a.Int z)) h = absurd (h)
  others_fine n (atom s (a.Spelt text)) h = absurd (h)
  others_fine n (atom s (a.Char c)) h = absurd (h)
  others_fine n (atom s (a.Str text)) h = absurd (h)
  others_fine n (atom s (a.Bytes ns)) h = absurd (h)
  others_fine n (symbol s x) h = absurd (h)
  others_fine n (pair s d e) h = both (codes " ") (text_of d ++ behind e) refl (both (text_of d) (behind e) (text_fine n d h.0) (others_fine n e h.1))
  others_fine n (vector s d) h = absurd (h)

  rest_fine : (n : ℕ) (d : PlainDatum) → IsRest n d → Fine (behind d)
  rest_fine n (atom s c) h = behind_fine 1 c h
  rest_fine n (symbol s x) h = dotted_fine (symbol_text x) (symbol_fine x)
  rest_fine n (pair s d e) h = both (codes " ") (text_of d ++ behind e) refl (both (text_of d) (behind e) (text_fine n d h.0) (rest_fine n e h.1))
  rest_fine zero (vector s d) h = absurd (h)
  rest_fine (suc n) (vector s d) h = both (codes " . #(") (within d ++ codes ")") refl (both (within d) (codes ")") (elements_fine n d h) refl)

no_end : (xs : List ℕ) → Fine xs → HasNoEnd xs
no_end [] h = lines.no_byte
no_end (x ∷ xs) h = let p = and_parts (is_fine x) (list_all is_fine xs) h in lines.byte (other x p.0) (no_end xs p.1) where
  other : (b : ℕ) → is_fine b ≡ true → b ≡ 0x0A → ⊥
  other b h e = ten (subst (λ (n : ℕ). is_fine n ≡ true) e h) where
    ten : is_fine 0x0A ≡ true → ⊥
    ten g = cc

pub text_has_no_end : (n : ℕ) (d : PlainDatum) → IsReadable n d → HasNoEnd (text_of d)
text_has_no_end n d h = no_end (text_of d) (text_fine n d h)
