-- A generated name tells its variable.
use Rattle.std.proofs.Common.{◌≡◌, ℕ, ◌<◌, Bool, true, false, List, [], ◌∷◌, ◌++◌, length, arith, refl, sym, ap, ◌∙◌, append_assoc}
use Rattle.std.specs.Prelude.{◌==◌, ◌||◌, codes, drop, slice_index, All}
use Rattle.std.specs.Char.{IsScalar, digit_value}
use Rattle.std.specs.List.{flat_map, list_all}
use Rattle.std.specs.Str.{IsUtf8, chars, encode_utf8_all, all_scalars}
use Rattle.std.specs.Str.Parse.{AllDigits}
use lib.Utf8.{scalar}
use Rattle.std.proofs.lemmas.Bool.{and_parts, and_from}
use Rattle.std.proofs.lemmas.Bool.Decides.{nat_tests}
use Rattle.std.proofs.lemmas.List.Elements.{All-head, All-tail}
use Rattle.std.proofs.lemmas.Str.{encodes-chars, scalars-chars}
use Rattle.base_data.specs.Hex.{hex}
use Rattle.base_data.specs.declared.library.LibName.{LibName}
use Rattle.base_data.specs.declared.library.LibName.TheVariants as library
use Rattle.base_data.proofs.Chars.{branch}
use Rattle.read_spelling.specs.Numbers.{value_from}
use Rattle.core_naming.specs.Generated.{is_plain, name_char, name_part, further_parts, parts_text, library_text, generated_name}
use Rattle.core_naming.specs.Decimal.{number_text}
use Rattle.core_naming.proofs.Decimal.{number_injective}
use Rattle.law_round.proofs.Chars.{hex_spell}
use Rattle.law_names.specs.Variable.{IsPart, IsNamed}
use Rattle.law_names.specs.Apart.{NamesTellVariables}
use Rattle.law_names.proofs.Words.{stops, cut, all_append, all_weaker}

-- the bytes of a symbol, or of a part of a library's name
abbrev pub is_word : ℕ → Bool
is_word b = is_plain b || b == 0x7E

-- and those of a library's name
abbrev pub is_path : ℕ → Bool
is_path b = is_word b || b == 0x2E

digit_plain : (b : ℕ) → digit_value b < 16 → is_plain b ≡ true
digit_plain b h = grind (arith, nat_tests)

pub digits_plain : (ds : List ℕ) → AllDigits 16 ds → list_all is_plain ds ≡ true
digits_plain [] h = refl
digits_plain (d ∷ ds) h = and_from (is_plain d) (list_all is_plain ds) (digit_plain d h.0) (digits_plain ds h.1)

or_left : (a b : Bool) → a ≡ true → (a || b) ≡ true
or_left true b h = refl
or_left false b h = absurd (cc)

pub plain_word : (b : ℕ) → is_plain b ≡ true → is_word b ≡ true
plain_word b h = or_left (is_plain b) (b == 0x7E) h

word_path : (b : ℕ) → is_word b ≡ true → is_path b ≡ true
word_path b h = or_left (is_word b) (b == 0x2E) h

hex_plain : (c : ℕ) → IsScalar c → list_all is_plain (hex c) ≡ true
hex_plain c h = let spell = hex_spell c h in digits_plain (hex c) spell.are

-- a character that doesn't stand for itself
abbrev spelt : ℕ → List ℕ
spelt c = codes "~" ++ hex c ++ codes "~"

spelt_word : (c : ℕ) → IsScalar c → list_all is_word (spelt c) ≡ true
spelt_word c h = all_append is_word (hex c) (0x7E ∷ []) (all_weaker is_plain is_word plain_word (hex c) (hex_plain c h)) refl

char_word : (c : ℕ) → IsScalar c → list_all is_word (name_char c) ≡ true
char_word c h =
    branch (λ (w : List ℕ). list_all is_word w ≡ true) (is_plain c) (λ e. and_from (is_word c) true (plain_word c e) refl) (λ _. spelt_word c h)

chars_word : (cs : List ℕ) → all_scalars cs ≡ true → list_all is_word (flat_map name_char cs) ≡ true
chars_word [] h = refl
chars_word (c ∷ cs) h =
    let both = and_parts (scalar c) (all_scalars cs) h in
    all_append is_word (name_char c) (flat_map name_char cs) (char_word c both.0) (chars_word cs both.1)

pub part_word : (text : List ℕ) → IsUtf8 text → list_all is_word (name_part text) ≡ true
part_word text u = chars_word (chars text) (scalars-chars text u)

part_path : (text : List ℕ) → IsUtf8 text → list_all is_path (name_part text) ≡ true
part_path text u = all_weaker is_word is_path word_path (name_part text) (part_word text u)

-- hexadecimal digits tell their number
hex_same : (c d : ℕ) → IsScalar c → IsScalar d → hex c ≡ hex d → c ≡ d
hex_same c d h k e = let p = hex_spell c h in let q = hex_spell d k in sym (p.value) ∙ ap (λ (ds : List ℕ). value_from 16 0 ds) e ∙ q.value

spelt_is : (c : ℕ) (rest : List ℕ) → spelt c ++ rest ≡ 0x7E ∷ (hex c ++ (0x7E ∷ rest))
spelt_is c rest = ap (λ (l : List ℕ). 0x7E ∷ l) (append_assoc (hex c) (0x7E ∷ []) rest)

spelt_same : (c d : ℕ) (r t : List ℕ) → IsScalar c → IsScalar d → spelt c ++ r ≡ spelt d ++ t → (c ≡ d) × (r ≡ t)
spelt_same c d r t h k e =
    let both : hex c ++ (0x7E ∷ r) ≡ hex d ++ (0x7E ∷ t) = ap (λ (l : List ℕ). drop 1 l) (sym (spelt_is c r) ∙ e ∙ spelt_is d t) in
    let p = cut is_plain (hex c) (hex d) (0x7E ∷ r) (0x7E ∷ t) (hex_plain c h) (hex_plain d k) refl refl both in
    (hex_same c d h k p.0, ap (λ (l : List ℕ). drop 1 l) p.1)

tilde_not_plain : (c : ℕ) → is_plain c ≡ true → c ≡ 0x7E → ⊥
tilde_not_plain c h e = let no : is_plain 0x7E ≡ true = rw e at h in absurd (cc)

abbrev Same : ℕ → ℕ → List ℕ → List ℕ → Type 0
Same c d r t = (c ≡ d) × (r ≡ t)

-- a text that begins with the spelling of a character tells it, and what follows
char_same : (c d : ℕ) (r t : List ℕ) → IsScalar c → IsScalar d → name_char c ++ r ≡ name_char d ++ t → Same c d r t
char_same c d r t h k =
    branch (λ (w : List ℕ). w ++ r ≡ name_char d ++ t → Same c d r t) (is_plain c)
    (λ p. branch (λ (w : List ℕ). (c ∷ []) ++ r ≡ w ++ t → Same c d r t) (is_plain d)
    (λ _ e. (ap (λ (l : List ℕ). slice_index l 0) e, ap (λ (l : List ℕ). drop 1 l) e))
    (λ _ e. absurd (tilde_not_plain c p (ap (λ (l : List ℕ). slice_index l 0) e))))
    (λ _. branch (λ (w : List ℕ). spelt c ++ r ≡ w ++ t → Same c d r t) (is_plain d)
    (λ q e. absurd (tilde_not_plain d q (sym (ap (λ (l : List ℕ). slice_index l 0) e))))
    (λ _ e. spelt_same c d r t h k e))

some_char : (c : ℕ) (r : List ℕ) → [] ≡ name_char c ++ r → ⊥
some_char c r =
    branch (λ (w : List ℕ). [] ≡ w ++ r → ⊥) (is_plain c) (λ _ e. none e) (λ _ e. none e)
  where
    none : {b : ℕ} {bs : List ℕ} → [] ≡ b ∷ bs → ⊥
    none e = cc

chars_same : (cs ds : List ℕ) → all_scalars cs ≡ true → all_scalars ds ≡ true → flat_map name_char cs ≡ flat_map name_char ds → cs ≡ ds
chars_same [] [] h k e = refl
chars_same [] (d ∷ ds) h k e = absurd (some_char d (flat_map name_char ds) e)
chars_same (c ∷ cs) [] h k e = absurd (some_char c (flat_map name_char cs) (sym e))
chars_same (c ∷ cs) (d ∷ ds) h k e =
    let p = and_parts (scalar c) (all_scalars cs) h in
    let q = and_parts (scalar d) (all_scalars ds) k in
    let same = char_same c d (flat_map name_char cs) (flat_map name_char ds) p.0 q.0 e in
    let others = chars_same cs ds p.1 q.1 same.1 in
    λ i. same.0 i ∷ others i

part_same : (x y : List ℕ) → IsUtf8 x → IsUtf8 y → name_part x ≡ name_part y → x ≡ y
part_same x y u v e =
    sym (encodes-chars x u) ∙ ap encode_utf8_all (chars_same (chars x) (chars y) (scalars-chars x u) (scalars-chars y v) e) ∙ encodes-chars y v

-- the parts of a library's name
abbrev AreParts : List (List ℕ) → Type 0
AreParts [] = Unit {0}
AreParts (p ∷ ps) = IsUtf8 p × AreParts ps

are_parts : (ps : List (List ℕ)) → All IsPart ps → AreParts ps
are_parts [] h = tt
are_parts (p ∷ ps) h = ((All-head IsPart p ps h).0, are_parts ps (All-tail IsPart p ps h))

further_stops : (ps : List (List ℕ)) → stops is_word (further_parts ps) ≡ true
further_stops [] = refl
further_stops (p ∷ ps) = refl

further_path : (ps : List (List ℕ)) → AreParts ps → list_all is_path (further_parts ps) ≡ true
further_path [] h = refl
further_path (p ∷ ps) h = all_append is_path (name_part p) (further_parts ps) (part_path p h.0) (further_path ps h.1)

parts_path : (ps : List (List ℕ)) → AreParts ps → list_all is_path (parts_text ps) ≡ true
parts_path [] h = refl
parts_path (p ∷ ps) h = all_append is_path (name_part p) (further_parts ps) (part_path p h.0) (further_path ps h.1)

further_same : (ps qs : List (List ℕ)) → AreParts ps → AreParts qs → further_parts ps ≡ further_parts qs → ps ≡ qs
further_same [] [] h k e = refl
further_same [] (q ∷ qs) h k e = cc
further_same (p ∷ ps) [] h k e = cc
further_same (p ∷ ps) (q ∷ qs) h k e =
    let both = cut is_word (name_part p) (name_part q) (further_parts ps) (further_parts qs) (part_word p h.0) (part_word q k.0) (further_stops ps) (further_stops qs) (ap (λ (l : List ℕ). drop 1 l) e) in
    let first = part_same p q h.0 k.0 both.0 in
    let others = further_same ps qs h.1 k.1 both.1 in
    λ i. first i ∷ others i

parts_same : (p q : List ℕ) (ps qs : List (List ℕ)) → AreParts (p ∷ ps) → AreParts (q ∷ qs) → parts_text (p ∷ ps) ≡ parts_text (q ∷ qs) → p ∷ ps ≡ q ∷ qs
parts_same p q ps qs h k e =
    let both = cut is_word (name_part p) (name_part q) (further_parts ps) (further_parts qs) (part_word p h.0) (part_word q k.0) (further_stops ps) (further_stops qs) e in
    let first = part_same p q h.0 k.0 both.0 in
    let others = further_same ps qs h.1 k.1 both.1 in
    λ i. first i ∷ others i

-- a part that isn't empty has a text that isn't
part_some : (text : List ℕ) → IsPart text → name_part text ≡ [] → ⊥
part_some text h e =
    let none : chars text ≡ [] = chars_same (chars text) [] (scalars-chars text h.0) refl e in
    let empty : text ≡ [] = sym (encodes-chars text h.0) ∙ ap encode_utf8_all none in
    absurd (omega (arith, h.1, ap length empty))

append_none : (xs ys : List ℕ) → xs ++ ys ≡ [] → xs ≡ []
append_none [] ys e = refl
append_none (x ∷ xs) ys e = absurd (cc)

parts_some : (ps : List (List ℕ)) → 0 < length ps → All IsPart ps → parts_text ps ≡ [] → ⊥
parts_some [] some h e = omega arith
parts_some (p ∷ ps) some h e = part_some p (All-head IsPart p ps h) (append_none (name_part p) (further_parts ps) e)

pub library_path : (l : LibName) → IsNamed l → list_all is_path (library_text l) ≡ true
library_path library.Core h = elim h [ ]
library_path library.Derived h = elim h [ ]
library_path library.Prelude h = elim h [ ]
library_path library.Program h = refl
library_path (library.User ps) h = parts_path ps (are_parts ps h.1)

users_same : (ps qs : List (List ℕ)) → IsNamed (library.User ps) → IsNamed (library.User qs) → parts_text ps ≡ parts_text qs → ps ≡ qs
users_same [] qs h k e = absurd (omega (arith, h.0))
users_same (p ∷ ps) [] h k e = absurd (omega (arith, k.0))
users_same (p ∷ ps) (q ∷ qs) h k e = parts_same p q ps qs (are_parts (p ∷ ps) h.1) (are_parts (q ∷ qs) k.1) e

pub library_same : (l m : LibName) → IsNamed l → IsNamed m → library_text l ≡ library_text m → l ≡ m
library_same library.Core m h k e = elim h [ ]
library_same library.Derived m h k e = elim h [ ]
library_same library.Prelude m h k e = elim h [ ]
library_same library.Program library.Core h k e = elim k [ ]
library_same library.Program library.Derived h k e = elim k [ ]
library_same library.Program library.Prelude h k e = elim k [ ]
library_same library.Program library.Program h k e = refl
library_same library.Program (library.User qs) h k e = absurd (parts_some qs k.0 k.1 (sym e))
library_same (library.User ps) library.Core h k e = elim k [ ]
library_same (library.User ps) library.Derived h k e = elim k [ ]
library_same (library.User ps) library.Prelude h k e = elim k [ ]
library_same (library.User ps) library.Program h k e = absurd (parts_some ps h.0 h.1 e)
library_same (library.User ps) (library.User qs) h k e = ap library.User (users_same ps qs h k e)

-- a name is its library, a slash, and the rest
pub name_is : (l : LibName) (x : List ℕ) (n : ℕ) → generated_name l x n ≡ 0x25 ∷ (library_text l ++ (0x2F ∷ (name_part x ++ (0x2F ∷ number_text n))))
name_is l x n =
    ap (λ (w : List ℕ). 0x25 ∷ w)
    (append_assoc ((library_text l ++ (0x2F ∷ [])) ++ name_part x) (0x2F ∷ []) (number_text n)
    ∙ append_assoc (library_text l ++ (0x2F ∷ [])) (name_part x) (0x2F ∷ number_text n)
    ∙ append_assoc (library_text l) (0x2F ∷ []) (name_part x ++ (0x2F ∷ number_text n)))

pub names_tell : NamesTellVariables
names_tell v w h k e =
    let whole = ap (λ (l : List ℕ). drop 1 l) (sym (name_is v.library v.symbol v.number) ∙ e ∙ name_is w.library w.symbol w.number) in
    let first = cut is_path (library_text v.library) (library_text w.library) (0x2F ∷ (name_part v.symbol ++ (0x2F ∷ number_text v.number))) (0x2F ∷ (name_part w.symbol ++ (0x2F ∷ number_text w.number)))
    (library_path v.library h.0) (library_path w.library k.0) refl refl whole in
    let behind = ap (λ (l : List ℕ). drop 1 l) first.1 in
    let second = cut is_word (name_part v.symbol) (name_part w.symbol) (0x2F ∷ number_text v.number) (0x2F ∷ number_text w.number)
    (part_word v.symbol h.1) (part_word w.symbol k.1) refl refl behind in
    let same_library = library_same v.library w.library h.0 k.0 first.0 in
    let same_symbol = part_same v.symbol w.symbol h.1 k.1 second.0 in
    let same_number = number_injective v.number w.number (ap (λ (l : List ℕ). drop 1 l) second.1) in
    λ i. record { library = same_library i; symbol = same_symbol i; number = same_number i }
