-- What generated names are made of, whatever their libraries, symbols and numbers are: each byte stands for itself in an identifier.
use Rattle.std.proofs.Common.{◌≡◌, ℕ, zero, suc, ◌+◌, ◌<◌, ◌/◌, ◌%◌, Bool, true, false, List, [], ◌∷◌, ◌++◌, drop, arith, refl, sym, ap, ◌∙◌, if◌then◌else◌}
use Rattle.std.specs.Prelude.{◌==◌, nat_lt}
use Rattle.std.specs.Fmt.{digit_glyph, digits_onto, digits}
use Rattle.std.specs.List.{flat_map, list_all}
use Rattle.std.specs.Str.{chars}
use Rattle.std.proofs.Math.Nat.{mod-lt}
use Rattle.std.proofs.lemmas.Bool.{and_from}
use Rattle.std.proofs.lemmas.Bool.Decides.{nat_tests}
use Rattle.base_data.specs.Hex.{hex}
use Rattle.base_data.specs.declared.library.LibName.{LibName}
use Rattle.base_data.specs.declared.library.LibName.TheVariants as library
use Rattle.base_data.proofs.Chars.{branch}
use Rattle.core_naming.specs.Decimal.{number_text}
use Rattle.core_naming.specs.Generated.{is_plain, name_char, name_part, further_parts, parts_text, library_text, generated_name}
use Rattle.core_naming.proofs.Decimal.{number_injective, number_reads}
use Rattle.read_printer.specs.Symbols.{is_subsequent}
use Rattle.law_names.specs.Variable.{IsNamed}
use Rattle.law_names.proofs.Reading.{word_subsequent, digits_subsequent}
use Rattle.law_names.proofs.Telling.{is_word, is_path, plain_word, library_path, library_same, name_is}
use Rattle.law_names.proofs.Words.{cut, all_append, all_weaker}

-- digits

upper_plain : (n : ℕ) → n < 16 → is_plain (digit_glyph true n) ≡ true
upper_plain n h = by (nat_lt n 10) refl
  where
    by : (b : Bool) → nat_lt n 10 ≡ b → is_plain (if b then 48 + n else 55 + n) ≡ true
    by true e = grind (arith, nat_tests)
    by false e = grind (arith, nat_tests)

digits_plain : (k n : ℕ) (acc : List ℕ) → list_all is_plain acc ≡ true → list_all is_plain (digits_onto k 16 true n acc) ≡ true
digits_plain zero n acc h = h
digits_plain (suc k) n acc h = by (n / 16 == 0) (λ e. digits_plain k (n / 16) (digit_glyph true (n % 16) ∷ acc) e)
  where
    more : list_all is_plain (digit_glyph true (n % 16) ∷ acc) ≡ true
    more = and_from (is_plain (digit_glyph true (n % 16))) (list_all is_plain acc) (upper_plain (n % 16) (mod-lt n (omega arith))) h

    by : (b : Bool) → (list_all is_plain (digit_glyph true (n % 16) ∷ acc) ≡ true → list_all is_plain (digits_onto k 16 true (n / 16) (digit_glyph true (n % 16) ∷ acc)) ≡ true)
        → list_all is_plain (if b then digit_glyph true (n % 16) ∷ acc else digits_onto k 16 true (n / 16) (digit_glyph true (n % 16) ∷ acc)) ≡ true
    by true rest = more
    by false rest = rest more

hex_plain : (c : ℕ) → list_all is_plain (hex c) ≡ true
unfolding digits
hex_plain c = digits_plain 64 c [] refl

-- symbols, and the names of libraries

char_word : (c : ℕ) → list_all is_word (name_char c) ≡ true
char_word c =
    branch (λ (w : List ℕ). list_all is_word w ≡ true) (is_plain c) (λ e. and_from (is_word c) true (plain_word c e) refl)
    (λ _. all_append is_word (hex c) (0x7E ∷ []) (all_weaker is_plain is_word plain_word (hex c) (hex_plain c)) refl)

chars_word : (cs : List ℕ) → list_all is_word (flat_map name_char cs) ≡ true
chars_word [] = refl
chars_word (c ∷ cs) = all_append is_word (name_char c) (flat_map name_char cs) (char_word c) (chars_word cs)

pub any_word : (x : List ℕ) → list_all is_word (name_part x) ≡ true
any_word x = chars_word (chars x)

part_subsequent : (x : List ℕ) → list_all is_subsequent (name_part x) ≡ true
part_subsequent x = all_weaker is_word is_subsequent word_subsequent (name_part x) (any_word x)

further_subsequent : (ps : List (List ℕ)) → list_all is_subsequent (further_parts ps) ≡ true
further_subsequent [] = refl
further_subsequent (p ∷ ps) = all_append is_subsequent (name_part p) (further_parts ps) (part_subsequent p) (further_subsequent ps)

parts_subsequent : (ps : List (List ℕ)) → list_all is_subsequent (parts_text ps) ≡ true
parts_subsequent [] = refl
parts_subsequent (p ∷ ps) = all_append is_subsequent (name_part p) (further_parts ps) (part_subsequent p) (further_subsequent ps)

library_subsequent : (l : LibName) → list_all is_subsequent (library_text l) ≡ true
library_subsequent library.Core = refl
library_subsequent library.Derived = refl
library_subsequent library.Prelude = refl
library_subsequent library.Program = refl
library_subsequent (library.User ps) = parts_subsequent ps

-- what stands behind the percent sign
abbrev pub rest_of_name : LibName → List ℕ → ℕ → List ℕ
rest_of_name l x n = library_text l ++ (0x2F ∷ (name_part x ++ (0x2F ∷ number_text n)))

pub any_rest : (l : LibName) (x : List ℕ) (n : ℕ) → list_all is_subsequent (rest_of_name l x n) ≡ true
any_rest l x n =
    all_append is_subsequent (library_text l) (0x2F ∷ (name_part x ++ (0x2F ∷ number_text n))) (library_subsequent l)
    (all_append is_subsequent (name_part x) (0x2F ∷ number_text n) (part_subsequent x)
    (digits_subsequent (number_text n) ((number_reads n).0.1)))

-- one name is of one library and one number
pub place_told : (l m : LibName) (x y : List ℕ) (n k : ℕ) → IsNamed l → IsNamed m → generated_name l x n ≡ generated_name m y k → (l ≡ m) × (n ≡ k)
place_told l m x y n k named other e =
    let whole = ap (λ (w : List ℕ). drop 1 w) (sym (name_is l x n) ∙ e ∙ name_is m y k) in
    let first = cut is_path (library_text l) (library_text m) (0x2F ∷ (name_part x ++ (0x2F ∷ number_text n))) (0x2F ∷ (name_part y ++ (0x2F ∷ number_text k))) (library_path l named) (library_path m other) refl refl whole in
    let second = cut is_word (name_part x) (name_part y) (0x2F ∷ number_text n) (0x2F ∷ number_text k) (any_word x) (any_word y) refl refl (ap (λ (w : List ℕ). drop 1 w) first.1) in
    (library_same l m named other first.0, number_injective n k (ap (λ (w : List ℕ). drop 1 w) second.1))
