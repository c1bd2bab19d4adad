-- Strings as tokens.
use Rattle.std.proofs.Common.{◌≡◌, ℕ, zero, suc, ◌+◌, ◌-◌, ◌<◌, ◌≤◌, Bool, true, false, List, [], ◌∷◌, ◌++◌, length, drop, drop-drop, arith, refl, sym, ap, ◌∙◌, subst, append_assoc, length-append, Option, Some, None, Result, Ok}
use Rattle.std.specs.Prelude.{◌==◌, ◌&&◌, nat_lt, slice_index, codes, encode_utf8}
use lib.Utf8.{scalar}
use Rattle.std.specs.Char.{IsScalar}
use Rattle.std.specs.List.{flat_map}
use Rattle.std.specs.Str.{IsUtf8, chars, encode_utf8_all, all_scalars}
use Rattle.std.proofs.Math.Seq.{drop-append_seam}
use Rattle.std.proofs.lemmas.Bool.{eqb-true}
use Rattle.std.proofs.lemmas.Bool.Decides.{nat_tests}
use Rattle.std.proofs.lemmas.List.{append-nil}
use Rattle.std.proofs.lemmas.Str.{encode_ascii, encodes-chars, scalars-chars}
use Rattle.bstr.specs.Utf8.{Decoded}
use Rattle.base_data.specs.Gives.{◌>>=◌}
use Rattle.base_data.specs.Hex.{hex}
use Rattle.base_data.specs.Place.{line_end}
use Rattle.base_data.specs.declared.atom.Atom.TheVariants as a
use Rattle.base_data.specs.declared.fault.Fault.{Fault}
use Rattle.base_data.proofs.Chars.{branch}
use Rattle.read_spelling.specs.Escapes.{escape}
use Rattle.read_spelling.specs.Numbers.{digits_size}
use Rattle.read_spelling.specs.declared.escapes.Letter.{Letter}
use Rattle.read_spelling.specs.Source.{characters, piece}
use Rattle.read_lexer.specs.Strings.{string_from, string_part, string_lexeme, string_at, char_text, hex_part}
use Rattle.read_lexer.specs.Tokens.{lexeme, lexeme_at}
use Rattle.read_lexer.specs.declared.token.Lexeme.{Lexeme}
use Rattle.read_lexer.specs.declared.token.Token.TheVariants as t
use Rattle.read_printer.specs.Escapes.{escape_text}
use Rattle.read_printer.specs.Strings.{string_text, contents, string_character, unescaped, is_plain}
use Rattle.law_round.proofs.Ascii.{characters-ascii, no_gap, no_start}
use Rattle.law_round.proofs.Chars.{hex_spell}
use Rattle.law_round.proofs.Digits.{Spell}
use Rattle.law_round.proofs.Escapes.{escaped, escape_gives, digits_size-semicolon}
use Rattle.law_round.proofs.Lexing.{Reads}

left : (x y : Bool) → (x && y) ≡ true → x ≡ true
left true y p = refl
left false y p = p

right : (x y : Bool) → (x && y) ≡ true → y ≡ true
right true y p = p
right false y p = absurd (cc)

-- these bytes are a part of a string that stands for this character, whatever follows
record IsPart (w : List ℕ) (c : ℕ) : Type 0 where
  some : 0 < length w
  other : (rest : List ℕ) → slice_index (w ++ rest) 0 == 0x22 ≡ false
  part : (file rest : List ℕ) (quote at : ℕ) → string_part file quote (w ++ rest) at ≡ Ok (piece (Some c) (length w))

-- a backslash and a letter
letter_part : (b c : ℕ) → ((file rest : List ℕ) (quote at : ℕ) → string_part file quote (0x5C ∷ b ∷ rest) at ≡ Ok (piece (Some c) 2)) → IsPart (0x5C ∷ b ∷ []) c
letter_part b c h = record { some = omega arith; other = λ rest. refl; part = h }

plain_is : (c : ℕ) → is_plain c ≡ true → c == 0x22 ≡ false → c == 0x5C ≡ false → (c < 0x80) × (c == 0x0A ≡ false) × (c == 0x0D ≡ false) × (c == 0xC2 ≡ false) × (c == 0xE2 ≡ false)
plain_is c h q b = (grind (arith, nat_tests), grind (arith, nat_tests), grind (arith, nat_tests), grind (arith, nat_tests), grind (arith, nat_tests))

plain_part : (c : ℕ) → is_plain c ≡ true → c == 0x22 ≡ false → c == 0x5C ≡ false → IsPart (c ∷ []) c
unfolding string_part
plain_part c h q b =
    let p = plain_is c h q b in
    record { some = omega arith; other = λ rest. q; part = λ file rest quote at. rw (b, p.1, p.2, p.3, p.4, characters-ascii c rest p.0) refl }

hex_by : (file bytes after : List ℕ) (quote at n : ℕ) (l : Letter) → drop (2 + n) bytes ≡ 0x3B ∷ after → escape bytes ≡ Some l → hex_part file quote at n bytes ≡ Ok (piece (Some l.char) l.size)
hex_by file bytes after quote at n l behind gives = rw (behind, characters-ascii 0x3B after (omega arith), gives) refl

hex_is : (file : List ℕ) (quote at c : ℕ) (ds rest : List ℕ) → IsScalar c → Spell 16 c ds → hex_part file quote at (digits_size 16 (drop 2 (escaped ds rest))) (escaped ds rest) ≡ Ok (piece (Some c) (3 + length ds))
hex_is file quote at c ds rest h spell =
    let size : digits_size 16 (drop 2 (escaped ds rest)) ≡ length ds = digits_size-semicolon ds rest spell.are in
    let behind : drop (2 + length ds) (escaped ds rest) ≡ 0x3B ∷ rest = sym (drop-drop (length ds) 2 (escaped ds rest)) ∙ drop-append_seam ds (0x3B ∷ rest) in
    ap (λ n. hex_part file quote at n (escaped ds rest)) size
    ∙ hex_by file (escaped ds rest) rest quote at (length ds) (record { char = c; size = 3 + length ds }) behind (escape_gives c ds rest h spell)

hex_string : (file : List ℕ) (quote at c : ℕ) (ds rest : List ℕ) → IsScalar c → Spell 16 c ds → string_part file quote (escaped ds rest) at ≡ Ok (piece (Some c) (3 + length ds))
unfolding string_part
hex_string file quote at c ds rest h spell = hex_is file quote at c ds rest h spell

escape_part : (c : ℕ) (ds : List ℕ) → IsScalar c → Spell 16 c ds → IsPart (0x5C ∷ 0x78 ∷ (ds ++ 0x3B ∷ [])) c
escape_part c ds h spell = record {
  some = omega arith;
  other = λ rest. refl;
  part = λ file rest quote at.
      let text : (0x5C ∷ 0x78 ∷ (ds ++ 0x3B ∷ [])) ++ rest ≡ escaped ds rest = ap (λ b. 0x5C ∷ 0x78 ∷ b) (append_assoc ds (0x3B ∷ []) rest) in
      let size : length (0x5C ∷ 0x78 ∷ (ds ++ 0x3B ∷ [])) ≡ 3 + length ds = omega (arith, length-append ds (0x3B ∷ [])) in
      rw (text, size) (hex_string file quote at c ds rest h spell);
}

unescaped_part : (c : ℕ) → IsScalar c → c == 0x22 ≡ false → c == 0x5C ≡ false → IsPart (unescaped c) c
unescaped_part c h q b =
    branch (λ w. IsPart w c) (is_plain c)
    (λ p. let itself : encode_utf8 c ≡ c ∷ [] = encode_ascii c (let small = plain_is c p q b in omega (arith, small.0)) in rw itself (plain_part c p q b))
    (λ _. escape_part c (hex c) h (hex_spell c h))

-- a character that a letter stands for
lettered : (c k b : ℕ) → c == k ≡ true → ((file rest : List ℕ) (quote at : ℕ) → string_part file quote (0x5C ∷ b ∷ rest) at ≡ Ok (piece (Some k) 2)) → IsPart (0x5C ∷ b ∷ []) c
lettered c k b e h = let same : c ≡ k = eqb-true c k e in rw same (letter_part b k h)

character_part : (c : ℕ) → IsScalar c → IsPart (string_character c) c
unfolding string_part
character_part c h =
    let P : List ℕ → Type 0 = λ w. IsPart w c in
    branch P (c == 0x22) (λ is. lettered c 0x22 0x22 is (λ file rest quote at. refl)) (λ q.
    branch P (c == 0x5C) (λ is. lettered c 0x5C 0x5C is (λ file rest quote at. refl)) (λ b.
    branch P (c == 0x07) (λ is. lettered c 0x07 0x61 is (λ file rest quote at. refl)) (λ _.
    branch P (c == 0x08) (λ is. lettered c 0x08 0x62 is (λ file rest quote at. refl)) (λ _.
    branch P (c == 0x09) (λ is. lettered c 0x09 0x74 is (λ file rest quote at. refl)) (λ _.
    branch P (c == 0x0A) (λ is. lettered c 0x0A 0x6E is (λ file rest quote at. refl)) (λ _.
    branch P (c == 0x0B) (λ is. lettered c 0x0B 0x76 is (λ file rest quote at. refl)) (λ _.
    branch P (c == 0x0C) (λ is. lettered c 0x0C 0x66 is (λ file rest quote at. refl)) (λ _.
    branch P (c == 0x0D) (λ is. lettered c 0x0D 0x72 is (λ file rest quote at. refl)) (λ _.
    unescaped_part c h q b)))))))))

module _ (file : List ℕ) (quote : ℕ) where
  -- from here a string goes on to this lexeme
  record Goes (out bytes : List ℕ) (at : ℕ) (l : Lexeme) : Type 0 where
    same : (k : ℕ) → length bytes < k → string_from file quote k out bytes at ≡ Ok l

  goes_end : (out rest : List ℕ) (at : ℕ) → Goes out (0x22 ∷ rest) at (string_lexeme out quote (at + 1))
  unfolding string_from
  goes_end out rest at = record { same = turn } where
    turn : (k : ℕ) → length (0x22 ∷ rest) < k → string_from file quote k out (0x22 ∷ rest) at ≡ Ok (string_lexeme out quote (at + 1))
    turn zero few = absurd (omega arith)
    turn (suc k) few = refl

  goes_on : (w : List ℕ) (c : ℕ) (out rest : List ℕ) (at : ℕ) (l : Lexeme) → IsPart w c → Goes (out ++ encode_utf8 c) rest (at + length w) l → Goes out (w ++ rest) at l
  unfolding string_from
  goes_on w c out rest at l p others = record { same = turn } where
    turn : (k : ℕ) → length (w ++ rest) < k → string_from file quote k out (w ++ rest) at ≡ Ok l
    turn zero few = absurd (omega arith)
    turn (suc k) few = rw (p.other rest, p.part file rest quote at, drop-append_seam w rest, others.same k (omega (arith, p.some, length-append w rest))) refl

  goes_all : (cs : List ℕ) → all_scalars cs ≡ true → (out rest : List ℕ) (at there : ℕ) → there ≡ at + length (flat_map string_character cs)
      → Goes out (flat_map string_character cs ++ (0x22 ∷ rest)) at (string_lexeme (out ++ encode_utf8_all cs) quote (there + 1))
  goes_all [] h out rest at there is = let here : there ≡ at = omega arith in rw (here, append-nil out) (goes_end out rest at)
  goes_all (c ∷ cs) h out rest at there is =
      let w : List ℕ = string_character c in
      let others = goes_all cs (right (scalar c) (all_scalars cs) h) (out ++ encode_utf8 c) rest (at + length w) there (omega (arith, length-append w (flat_map string_character cs))) in
      rw (append_assoc w (flat_map string_character cs) (0x22 ∷ rest), ← append_assoc out (encode_utf8 c) (encode_utf8_all cs))
      (goes_on w c out (flat_map string_character cs ++ (0x22 ∷ rest)) at (string_lexeme ((out ++ encode_utf8 c) ++ encode_utf8_all cs) quote (there + 1)) (character_part c (left (scalar c) (all_scalars cs) h)) others)

string_lexed : (x rest file : List ℕ) (at there : ℕ) → IsUtf8 x → there ≡ at + 1 + length (contents x) → string_at file (0x22 ∷ (contents x ++ (0x22 ∷ rest))) at ≡ Ok (lexeme (t.Atom (a.Str x)) at (there + 1))
string_lexed x rest file at there u is =
    let same : string_lexeme ([] ++ encode_utf8_all (chars x)) at (there + 1) ≡ lexeme (t.Atom (a.Str x)) at (there + 1) = ap (λ out. lexeme (t.Atom (a.Str out)) at (there + 1)) (encodes-chars x u) in
    (goes_all file at (chars x) (scalars-chars x u) [] rest (at + 1) there is).same (suc (length (contents x ++ (0x22 ∷ rest)))) (omega arith) ∙ ap Ok same

pub string_reads : (x rest : List ℕ) → IsUtf8 x → Reads (string_text x) rest (t.Atom (a.Str x))
string_reads x rest u = record {
  some = omega arith;
  starts = no_start 0x22 ((contents x ++ 0x22 ∷ []) ++ rest) refl;
  begins = no_gap 0x22 ((contents x ++ 0x22 ∷ []) ++ rest) refl;
  token = λ file at.
      let text : (contents x ++ 0x22 ∷ []) ++ rest ≡ contents x ++ (0x22 ∷ rest) = append_assoc (contents x) (0x22 ∷ []) rest in
      let there : at + length (string_text x) ≡ at + 1 + length (contents x) + 1 = omega (arith, length-append (contents x) (0x22 ∷ [])) in
      rw (text, there) (string_lexed x rest file at (at + 1 + length (contents x)) u refl);
}
