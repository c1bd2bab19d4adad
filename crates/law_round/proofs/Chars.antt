-- Characters as tokens.
use Rattle.std.proofs.Common.{◌≡◌, ℕ, zero, suc, ◌+◌, ◌-◌, ◌<◌, ◌≤◌, ◌^◌, Bool, true, false, List, [], ◌∷◌, ◌++◌, length, drop, take, arith, refl, sym, ap, ◌∙◌, subst, Option, Some, None, Result, Ok}
use Rattle.std.specs.Prelude.{◌==◌, ◌&&◌, ◌||◌, nat_lt, nat_le, not, slice_index, codes, encode_utf8}
use Rattle.std.specs.Char.{IsScalar}
use Rattle.std.specs.List.{list_all}
use Rattle.std.specs.Str.Parse.{AllDigits}
use Rattle.std.specs.Char.{digit_value as std_value}
use Rattle.std.proofs.Math.Seq.{drop-append_seam, take-append_seam}
use Rattle.std.proofs.lemmas.Bool.{eqb-true}
use Rattle.std.proofs.lemmas.Bool.Decides.{nat_tests}
use Rattle.std.proofs.lemmas.Str.{encode_ascii}
use Rattle.bstr.specs.Utf8.{Decoded}
use Rattle.base_data.specs.Gives.{◌>>=◌}
use Rattle.base_data.specs.Hex.{hex}
use Rattle.base_data.specs.declared.atom.Atom.TheVariants as a
use Rattle.base_data.specs.declared.fault.Fault.{Fault}
use Rattle.base_data.proofs.Chars.{branch}
use Rattle.read_spelling.specs.Escapes.{is_scalar}
use Rattle.read_spelling.specs.Numbers.{is_digit, is_digits}
use Rattle.read_spelling.specs.Source.{characters}
use Rattle.read_spelling.specs.Whitespace.{is_delimiter, is_delimited, run_end}
use Rattle.read_lexer.specs.Characters.{character_at, character_to, character_with, character_end, long_character, hex_character, lexeme_of_char}
use Rattle.read_lexer.specs.Tokens.{lexeme, lexeme_at}
use Rattle.read_lexer.specs.declared.token.Token.TheVariants as t
use Rattle.read_printer.specs.Characters.{character_text, character_name, unnamed, is_graphic}
use Rattle.law_round.proofs.Ascii.{characters-nil, characters-ascii, no_gap_hash, no_start_hash, ends, delimits}
use Rattle.law_round.proofs.Bare.{plain}
use Rattle.law_round.proofs.Digits.{Spell, digits_spell, all_digits}
use Rattle.law_round.proofs.Lexing.{Reads}

left : (a b : Bool) → (a && b) ≡ true → a ≡ true
left true b p = refl
left false b p = p

right : (a b : Bool) → (a && b) ≡ true → b ≡ true
right true b p = p
right false b p = absurd (cc)

plain_is : (b : ℕ) → plain b ≡ true → (b < 0x80) × (is_delimiter b ≡ false)
plain_is b h = (small (left (nat_lt b 0x80) (not (b == 0x5C)) (left (nat_lt b 0x80 && not (b == 0x5C)) (not (is_delimiter b)) h)), free (is_delimiter b) (right (nat_lt b 0x80 && not (b == 0x5C)) (not (is_delimiter b)) h)) where
  small : nat_lt b 0x80 ≡ true → b < 0x80
  small e = grind (arith, nat_tests)

  free : (d : Bool) → not d ≡ true → d ≡ false
  free true e = absurd (cc)
  free false e = refl

end_is : (b : ℕ) → (b == 0x20 || b == 0x29 || b == 0x0A) ≡ true → (b < 0x80) × (is_delimiter b ≡ true)
end_is b h = (grind (arith, nat_tests), grind (arith, nat_tests))

run_end-plain : (w rest : List ℕ) (at there : ℕ) → there ≡ at + length w → list_all plain w ≡ true → ends rest ≡ true → run_end at (characters (w ++ rest)) ≡ there
run_end-plain [] [] at there is h e = rw characters-nil (omega (arith, is))
run_end-plain [] (b ∷ bs) at there is h e = let p = end_is b e in rw (characters-ascii b bs p.0, p.1) (omega (arith, is))
run_end-plain (b ∷ bs) rest at there is h e =
    let p = plain_is b (left (plain b) (list_all plain bs) h) in
    rw (characters-ascii b (bs ++ rest) p.0, p.1) (run_end-plain bs rest (at + 1) there (omega arith) (right (plain b) (list_all plain bs) h) e)

itself : (n : ℕ) → n == n ≡ true
itself n = grind (arith, nat_tests)

differ : (n m : ℕ) → 0 < m → n + m == n ≡ false
differ n m h = grind (arith, nat_tests)

ahead : (at n : ℕ) → at + n - at ≡ n
ahead at n = omega arith

module _ (file bytes : List ℕ) (at : ℕ) (b : ℕ) (rest : List ℕ) where
  at_is : (to c : ℕ) → characters (drop 2 bytes) ≡ characters (b ∷ rest) → b < 0x80 → character_end bytes at 1 ≡ to → character_to file bytes at b 1 to ≡ Ok c
      → character_at file bytes at ≡ Ok (lexeme (t.Atom (a.Char c)) at to)
  at_is to c is small end given = rw (is, characters-ascii b rest small, end) (ap (λ r. r >>= λ d. Ok (lexeme_of_char at to d)) given)

same_end : (at : ℕ) → at + 3 == at + 2 + 1 ≡ true
same_end at = grind (arith, nat_tests)

further_end : (at n : ℕ) → 0 < n → at + suc (suc (suc n)) == at + 2 + 1 ≡ false
further_end at n h = grind (arith, nat_tests)

lone_to : (file : List ℕ) (at b : ℕ) (rest : List ℕ) → ends rest ≡ true → character_to file (0x23 ∷ 0x5C ∷ b ∷ rest) at b 1 (at + 3) ≡ Ok b
lone_to file at b rest e = rw (ahead at 3, delimits rest e, same_end at) refl

-- one character stands for itself
lone_reads : (b : ℕ) (rest : List ℕ) → b < 0x80 → ends rest ≡ true → Reads (0x23 ∷ 0x5C ∷ b ∷ []) rest (t.Atom (a.Char b))
lone_reads b rest small e = record {
  some = omega arith;
  starts = no_start_hash 0x5C (b ∷ rest) refl;
  begins = no_gap_hash 0x5C (b ∷ rest) refl refl;
  token = λ file at. at_is file (0x23 ∷ 0x5C ∷ b ∷ rest) at b rest (at + 3) b refl small (run_end-plain [] rest (at + 2 + 1) (at + 3) (omega arith) refl e) (lone_to file at b rest e);
}

long_by : (file bytes text : List ℕ) (at b to c : ℕ) → is_delimited (characters (drop (to - at) bytes)) ≡ true → to == at + 2 + 1 ≡ false → drop 2 (take (to - at) bytes) ≡ text
    → long_character file at to text ≡ Ok c → character_to file bytes at b 1 to ≡ Ok c
long_by file bytes text at b to c ended longer is given = rw (ended, longer, is) given

long_to : (file : List ℕ) (at b c : ℕ) (v rest : List ℕ) → 0 < length v → ends rest ≡ true → long_character file at (at + length (0x23 ∷ 0x5C ∷ b ∷ v)) (b ∷ v) ≡ Ok c
    → character_to file ((0x23 ∷ 0x5C ∷ b ∷ v) ++ rest) at b 1 (at + length (0x23 ∷ 0x5C ∷ b ∷ v)) ≡ Ok c
long_to file at b c v rest some e given =
    let w : List ℕ = 0x23 ∷ 0x5C ∷ b ∷ v in
    let taken : take (at + length w - at) (w ++ rest) ≡ w = rw (ahead at (length w)) (take-append_seam w rest) in
    let dropped : drop (at + length w - at) (w ++ rest) ≡ rest = rw (ahead at (length w)) (drop-append_seam w rest) in
    long_by file (w ++ rest) (b ∷ v) at b (at + length w) c (ap (λ r. is_delimited (characters r)) dropped ∙ delimits rest e) (further_end at (length v) some) (ap (λ r. drop 2 r) taken) given

-- a name
long_reads : (b c : ℕ) (v rest : List ℕ) → b < 0x80 → 0 < length v → list_all plain v ≡ true → ends rest ≡ true → ((file : List ℕ) (from to : ℕ) → long_character file from to (b ∷ v) ≡ Ok c)
    → Reads (0x23 ∷ 0x5C ∷ b ∷ v) rest (t.Atom (a.Char c))
long_reads b c v rest small some h e given = record {
  some = omega arith;
  starts = no_start_hash 0x5C (b ∷ (v ++ rest)) refl;
  begins = no_gap_hash 0x5C (b ∷ (v ++ rest)) refl refl;
  token = λ file at. at_is file ((0x23 ∷ 0x5C ∷ b ∷ v) ++ rest) at b (v ++ rest) (at + length (0x23 ∷ 0x5C ∷ b ∷ v)) c refl small
      (run_end-plain v rest (at + 2 + 1) (at + length (0x23 ∷ 0x5C ∷ b ∷ v)) (omega arith) h e)
      (long_to file at b c v rest some e (given file at (at + length (0x23 ∷ 0x5C ∷ b ∷ v))));
}

hex_plain : (d : ℕ) → std_value d < 16 → plain d ≡ true
hex_plain d h = grind (arith, nat_tests)

both : (a b : Bool) → a ≡ true → b ≡ true → (a && b) ≡ true
both true b p q = q
both false b p q = p

pub all_plain : (ds : List ℕ) → AllDigits 16 ds → list_all plain ds ≡ true
all_plain [] h = refl
all_plain (d ∷ ds) h = both (plain d) (list_all plain ds) (hex_plain d h.0) (all_plain ds h.1)

pub scalar_is : (c : ℕ) → IsScalar c → is_scalar c ≡ true
scalar_is c h = grind (arith, nat_tests)

pub scalar_small : (c : ℕ) → IsScalar c → c < 0x110000
scalar_small c h = grind (arith, nat_tests)

pub digits_some : (ds : List ℕ) → 0 < length ds → nat_lt 0 (length ds) ≡ true
digits_some ds h = grind (arith, nat_tests)

pub hex_spell : (c : ℕ) → IsScalar c → Spell 16 c (hex c)
hex_spell c h = let small = scalar_small c h in digits_spell 16 true c (omega arith) (omega arith) (omega arith)

-- by its number
numbered : (c : ℕ) (ds : List ℕ) → IsScalar c → Spell 16 c ds → (file : List ℕ) (from to : ℕ) → long_character file from to (0x78 ∷ ds) ≡ Ok c
numbered c ds h spell file from to = rw (digits_some ds spell.some, all_digits 16 ds (omega arith) spell.are, spell.value, scalar_is c h) refl

numbered_reads : (c : ℕ) (ds rest : List ℕ) → IsScalar c → Spell 16 c ds → ends rest ≡ true → Reads (0x23 ∷ 0x5C ∷ 0x78 ∷ ds) rest (t.Atom (a.Char c))
numbered_reads c ds rest h spell e = long_reads 0x78 c ds rest (omega arith) spell.some (all_plain ds spell.are) e (numbered c ds h spell)

graphic_small : (c : ℕ) → is_graphic c ≡ true → c < 0x80
graphic_small c h = grind (arith, nat_tests)

abbrev IsSpelt : ℕ → List ℕ → List ℕ → Type 0
IsSpelt c rest name = Reads (0x23 ∷ 0x5C ∷ name) rest (t.Atom (a.Char c))

unnamed_reads : (c : ℕ) (rest : List ℕ) → IsScalar c → ends rest ≡ true → IsSpelt c rest (unnamed c)
unnamed_reads c rest h e =
    branch (IsSpelt c rest) (is_graphic c)
    (λ g. let small = graphic_small c g in let itself : encode_utf8 c ≡ c ∷ [] = encode_ascii c (omega arith) in rw itself (lone_reads c rest small e))
    (λ _. numbered_reads c (hex c) rest h (hex_spell c h) e)

-- a character with a name
named : (c k : ℕ) (name rest : List ℕ) → c == k ≡ true → IsSpelt k rest name → IsSpelt c rest name
named c k name rest e h = let same : c ≡ k = eqb-true c k e in rw same h

pub char_reads : (c : ℕ) (rest : List ℕ) → IsScalar c → ends rest ≡ true → Reads (character_text c) rest (t.Atom (a.Char c))
char_reads c rest h e =
    let P : List ℕ → Type 0 = IsSpelt c rest in
    branch P (c == 0x00) (λ is. named c 0x00 (codes "nul") rest is (long_reads 0x6E 0x00 (codes "ul") rest (omega arith) (omega arith) refl e (λ file from to. refl))) (λ _.
    branch P (c == 0x07) (λ is. named c 0x07 (codes "alarm") rest is (long_reads 0x61 0x07 (codes "larm") rest (omega arith) (omega arith) refl e (λ file from to. refl))) (λ _.
    branch P (c == 0x08) (λ is. named c 0x08 (codes "backspace") rest is (long_reads 0x62 0x08 (codes "ackspace") rest (omega arith) (omega arith) refl e (λ file from to. refl))) (λ _.
    branch P (c == 0x09) (λ is. named c 0x09 (codes "tab") rest is (long_reads 0x74 0x09 (codes "ab") rest (omega arith) (omega arith) refl e (λ file from to. refl))) (λ _.
    branch P (c == 0x0A) (λ is. named c 0x0A (codes "newline") rest is (long_reads 0x6E 0x0A (codes "ewline") rest (omega arith) (omega arith) refl e (λ file from to. refl))) (λ _.
    branch P (c == 0x0B) (λ is. named c 0x0B (codes "vtab") rest is (long_reads 0x76 0x0B (codes "tab") rest (omega arith) (omega arith) refl e (λ file from to. refl))) (λ _.
    branch P (c == 0x0C) (λ is. named c 0x0C (codes "page") rest is (long_reads 0x70 0x0C (codes "age") rest (omega arith) (omega arith) refl e (λ file from to. refl))) (λ _.
    branch P (c == 0x0D) (λ is. named c 0x0D (codes "return") rest is (long_reads 0x72 0x0D (codes "eturn") rest (omega arith) (omega arith) refl e (λ file from to. refl))) (λ _.
    branch P (c == 0x1B) (λ is. named c 0x1B (codes "esc") rest is (long_reads 0x65 0x1B (codes "sc") rest (omega arith) (omega arith) refl e (λ file from to. refl))) (λ _.
    branch P (c == 0x20) (λ is. named c 0x20 (codes "space") rest is (long_reads 0x73 0x20 (codes "pace") rest (omega arith) (omega arith) refl e (λ file from to. refl))) (λ _.
    branch P (c == 0x7F) (λ is. named c 0x7F (codes "delete") rest is (long_reads 0x64 0x7F (codes "elete") rest (omega arith) (omega arith) refl e (λ file from to. refl))) (λ _.
    unnamed_reads c rest h e)))))))))))
