-- A word that a space, a closing parenthesis or the end follows is the next lexeme: the symbol of this text, where it begins as an
-- identifier does, and an integer, where it is one and begins with a digit.
use Rattle.std.proofs.Common.{◌≡◌, ℕ, suc, ◌+◌, ◌-◌, ◌<◌, Bool, true, false, cond, List, [], ◌∷◌, ◌++◌, length, take, drop, Option, Some, None, Result, Ok, ℤ, refl, sym, ap, ◌∙◌, subst, arith, append_assoc}
use Rattle.std.proofs.lemmas.Bool.{eqb-true, and_parts}
use Rattle.std.proofs.lemmas.Bool.Decides.{nat_tests}
use Rattle.std.proofs.lemmas.List.{append-nil, drop_more}
use Rattle.std.proofs.lemmas.Str.{encode_ascii}
use Rattle.std.specs.Cmp.Lexicographic.{pointwise}
use Rattle.std.specs.List.{list_all, starts_with}
use Rattle.std.specs.Prelude.{codes, ◌==◌, ◌&&◌, ◌||◌, nat_eq, nat_le, nat_lt, slice_index}
use Rattle.bstr.specs.Utf8.{Decoded, pieces_from}
use Rattle.base_data.specs.declared.atom.Atom.TheVariants as atom
use Rattle.base_data.specs.declared.fault.Fault.{Fault}
use Rattle.base_data.specs.declared.fault.FaultKind.{FaultKind}
use Rattle.base_data.specs.declared.fault.FaultKind.TheVariants as kind
use Rattle.check_line_reader.proofs.Ahead.{first_piece, at_end, bind_same, no_gap, behind, open_at, close_at, behind_space}
use Rattle.check_line_reader.specs.Words.{begins_word, begins_number, is_in_word, word_from, word_size, ends_word}
use Rattle.read_lexer.proofs.RepeatTurns.{GoesOn, turn, stays}
use Rattle.read_lexer.specs.Gap.{atmosphere_end, gap_end}
use Rattle.read_lexer.specs.Tokens.{lexeme, lexeme_at, lexeme_behind, next_lexeme, bare_at, bare_to, bare_end, bare_step, char_end, bare, identifier_or_else, is_dot, number, spelt_or_fault}
use Rattle.read_lexer.specs.declared.token.Bracket.TheVariants as bracket
use Rattle.read_lexer.specs.declared.token.Lexeme.{Lexeme}
use Rattle.read_lexer.specs.declared.token.Token.{Token}
use Rattle.read_lexer.specs.declared.token.Token.TheVariants as token
use Rattle.read_spelling.proofs.NameTurns.{NameGoesOn, name_turn, name_none, name_done}
use Rattle.read_spelling.specs.Identifiers.{is_of, first_letter, letter_here, name, is_peculiar, identifier}
use Rattle.read_spelling.specs.Numbers.{is_integer, integer, spelt}
use Rattle.read_spelling.specs.Source.{characters}
use Rattle.read_spelling.specs.Whitespace.{is_sign, is_whitespace, is_delimiter}
use Rattle.read_spelling.specs.declared.escapes.Letter.{Letter}
use Rattle.read_spelling.specs.declared.identifiers.Class.{Class}
use Rattle.read_spelling.specs.declared.identifiers.Class.TheVariants as class

-- Characters.

differs : (p : ℕ → Bool) (c n : ℕ) → p n ≡ false → p c ≡ true → c == n ≡ false
differs p c n out within = by (c == n) refl where
  apart : (b : Bool) → b ≡ true → b ≡ false → ⊥
  apart b h k = cc

  by : (b : Bool) → c == n ≡ b → b ≡ false
  by true e = absurd (apart (p c) within (ap p (eqb-true c n e) ∙ out))
  by false e = refl

begins_in : (b : ℕ) → begins_word b ≡ true → is_in_word b ≡ true
begins_in b h = rw h refl

digit_in : (b : ℕ) → begins_number b ≡ true → is_in_word b ≡ true
digit_in b h = grind (arith, nat_tests)

no_letter : (b : ℕ) → begins_number b ≡ true → begins_word b ≡ false
no_letter b h = grind (arith, nat_tests)

small : (c : ℕ) → is_in_word c ≡ true → nat_lt c 0x80 ≡ true
small c h = grind (arith, nat_tests)

less : (c : ℕ) → is_in_word c ≡ true → c < 0x80
less c h = grind (arith, nat_tests)

no_control : (c : ℕ) → is_in_word c ≡ true → nat_le c 0x0D ≡ false
no_control c h = grind (arith, nat_tests)

and_false : (b : Bool) → (b && false) ≡ false
and_false true = refl
and_false false = refl

not_white : (c : ℕ) → is_in_word c ≡ true → is_whitespace c ≡ false
not_white c h = rw (small c h, differs is_in_word c 0x20 refl h, no_control c h) (and_false (nat_le 0x09 c))

no_sign : (c : ℕ) → is_in_word c ≡ true → is_sign c ≡ false
no_sign c h =
    rw (differs is_in_word c 0x28 refl h, differs is_in_word c 0x29 refl h, differs is_in_word c 0x5B refl h, differs is_in_word c 0x5D refl h, differs is_in_word c 0x22 refl h, differs is_in_word c 0x3B refl h, differs is_in_word c 0x23 refl h) refl

no_delimiter : (c : ℕ) → is_in_word c ≡ true → is_delimiter c ≡ false
no_delimiter c h = rw (no_sign c h, not_white c h) refl

-- Steps.

abbrev to_end : ℕ → List Decoded → Result ℕ Fault
to_end at ps = Ok (char_end at ps)

abbrev delimited_end : ℕ → ℕ → Bool → Result ℕ Fault
delimited_end at size b = Ok (cond (cond b false true) (at + size) at)

module _ (file : List ℕ) (bad : FaultKind) (from : ℕ) where
  step_on : (c : ℕ) (bs : List ℕ) (at : ℕ) → is_in_word c ≡ true → bare_step file bad from (c ∷ bs) at ≡ Ok (at + 1)
  unfolding bare_step
  step_on c bs at h = rw (differs is_in_word c 0x5C refl h) (ap (λ (ps : List Decoded). to_end at ps) (first_piece c bs (small c h)) ∙ ap (λ (b : Bool). delimited_end at 1 b) (no_delimiter c h))

  step_at_end : (at : ℕ) → bare_step file bad from [] at ≡ Ok at
  unfolding bare_step characters pieces_from
  step_at_end at = refl

  space_stays : (bs : List ℕ) (at : ℕ) → bare_step file bad from (0x20 ∷ bs) at ≡ Ok at
  unfolding bare_step
  space_stays bs at = ap (λ (ps : List Decoded). to_end at ps) (first_piece 0x20 bs refl)

  close_stops : (bs : List ℕ) (at : ℕ) → bare_step file bad from (0x29 ∷ bs) at ≡ Ok at
  unfolding bare_step
  close_stops bs at = ap (λ (ps : List Decoded). to_end at ps) (first_piece 0x29 bs refl)

  step_stays : (rest : List ℕ) (at : ℕ) → ends_word rest ≡ true → bare_step file bad from rest at ≡ Ok at
  step_stays [] at h = step_at_end at
  step_stays (d ∷ bs) at h = by (d == 0x20) (d == 0x29) refl refl h where
    by : (s t : Bool) → d == 0x20 ≡ s → d == 0x29 ≡ t → (s || t) ≡ true → bare_step file bad from (d ∷ bs) at ≡ Ok at
    by true t e g k = subst (λ (n : ℕ). bare_step file bad from (n ∷ bs) at ≡ Ok at) (sym (eqb-true d 0x20 e)) (space_stays bs at)
    by false true e g k = subst (λ (n : ℕ). bare_step file bad from (n ∷ bs) at ≡ Ok at) (sym (eqb-true d 0x29 g)) (close_stops bs at)
    by false false e g k = absurd (cc)

  goes : (w rest : List ℕ) (at : ℕ) (total : Result ℕ Fault) → list_all is_in_word w ≡ true → ends_word rest ≡ true → GoesOn (bare_step file bad from) (w ++ rest) at total → total ≡ Ok (at + length w)
  goes [] rest at total h e g = stays (bare_step file bad from) rest at total (step_stays rest at e) g ∙ ap Ok (omega arith)
  goes (c ∷ w) rest at total h e g =
      let p = and_parts (is_in_word c) (list_all is_in_word w) h in
      let one : at + 1 - at ≡ 1 = omega arith in
      goes w rest (at + 1) total p.1 e
      (turn (bare_step file bad from) (c ∷ (w ++ rest)) (w ++ rest) at (at + 1) total (omega arith) (omega arith) (step_on c (w ++ rest) at p.0) (rw one refl) g)
      ∙ ap Ok (omega arith)

  word_end : (w rest : List ℕ) (at : ℕ) → list_all is_in_word w ≡ true → ends_word rest ≡ true → bare_end file bad from (w ++ rest) at ≡ Ok (at + length w)
  word_end w rest at h e = goes w rest at (bare_end file bad from (w ++ rest) at) h e (suc (length (w ++ rest)), omega arith, refl)

-- Names.

later_is : (c : ℕ) → is_in_word c ≡ true → is_of class.Subsequent c ≡ true
later_is c h = rw (small c h) h

first_is : (c : ℕ) → begins_word c ≡ true → is_of class.Initial c ≡ true
first_is c h = rw (small c (begins_in c h)) h

abbrev its_letter : ℕ → Letter
its_letter c = record { char = c; size = 1 }

letter_is : (k : Class) (c : ℕ) (bs : List ℕ) → is_in_word c ≡ true → is_of k c ≡ true → letter_here k (c ∷ bs) ≡ Some (its_letter c)
unfolding letter_here
letter_is k c bs h is = rw (differs is_in_word c 0x5C refl h) (ap (λ (ps : List Decoded). first_letter k ps) (first_piece c bs (small c h)) ∙ rw is refl)

whole_name : (k : Class) (out w : List ℕ) (total : Option (List ℕ)) → list_all is_in_word w ≡ true → NameGoesOn class.Subsequent out w total → total ≡ Some (out ++ w)
whole_name k out [] total h g = name_done class.Subsequent out [] total refl g ∙ ap Some (sym (append-nil out))
whole_name k out (c ∷ w) total h g =
    let p = and_parts (is_in_word c) (list_all is_in_word w) h in
    whole_name k (out ++ c ∷ []) w total p.1
    (name_turn class.Subsequent out (out ++ c ∷ []) (c ∷ w) w (its_letter c) total (omega arith) (omega arith) (omega arith) (letter_is class.Subsequent c w p.0 (later_is c p.0)) refl (ap (λ (x : List ℕ). out ++ x) (sym (encode_ascii c (less c p.0)))) g)
    ∙ ap Some (append_assoc out (c ∷ []) w)

named : (b : ℕ) (w : List ℕ) → begins_word b ≡ true → list_all is_in_word w ≡ true → name class.Initial (b ∷ w) ≡ Some (b ∷ w)
named b w h k =
    let is = begins_in b h in
    whole_name class.Initial (b ∷ []) w (name class.Initial (b ∷ w)) k
    (name_turn class.Initial [] (b ∷ []) (b ∷ w) w (its_letter b) (name class.Initial (b ∷ w)) (omega arith) (omega arith) (omega arith) (letter_is class.Initial b w is (first_is b h)) refl (sym (encode_ascii b (less b is)))
    (suc (length (b ∷ w)), omega arith, refl))

not_peculiar : (b : ℕ) (w : List ℕ) → begins_word b ≡ true → is_peculiar (b ∷ w) ≡ false
not_peculiar b w h = rw (differs begins_word b 0x2B refl h, differs begins_word b 0x2D refl h, differs begins_word b 0x2E refl h) (by (length (b ∷ w) == 1) (length (b ∷ w) == 3) (slice_index (b ∷ w) 1 == 0x2E) (slice_index (b ∷ w) 2 == 0x2E)) where
  by : (t u v x : Bool) → ((t && (false || false)) || (u && false && v && x) || (false && slice_index (b ∷ w) 1 == 0x3E)) ≡ false
  by true true v x = refl
  by true false v x = refl
  by false true v x = refl
  by false false v x = refl

identified : (b : ℕ) (w : List ℕ) → begins_word b ≡ true → list_all is_in_word w ≡ true → identifier (b ∷ w) ≡ Some (b ∷ w)
identified b w h k = ap (λ (t : Bool). name (cond t class.Subsequent class.Initial) (b ∷ w)) (not_peculiar b w h) ∙ named b w h k

no_dot : (b : ℕ) (w : List ℕ) → begins_word b ≡ true → is_dot (b ∷ w) ≡ false
no_dot b w h = rw (differs begins_word b 0x2E refl h) (and_false (length (b ∷ w) == 1))

-- Numbers.

letter_none : (b : ℕ) (bs : List ℕ) → begins_number b ≡ true → letter_here class.Initial (b ∷ bs) ≡ None
unfolding letter_here
letter_none b bs h =
    let is = digit_in b h in
    let initial : is_of class.Initial b ≡ false = rw (small b is) (no_letter b h) in
    rw (differs is_in_word b 0x5C refl is) (ap (λ (ps : List Decoded). first_letter class.Initial ps) (first_piece b bs (small b is)) ∙ rw initial refl)

no_name : (b : ℕ) (w : List ℕ) → begins_number b ≡ true → name class.Initial (b ∷ w) ≡ None
no_name b w h = name_none class.Initial [] (b ∷ w) (name class.Initial (b ∷ w)) (omega arith) (letter_none b w h) (suc (length (b ∷ w)), omega arith, refl)

plainly : (b : ℕ) (w : List ℕ) → begins_number b ≡ true → is_peculiar (b ∷ w) ≡ false
plainly b w h = rw (differs begins_number b 0x2B refl h, differs begins_number b 0x2D refl h, differs begins_number b 0x2E refl h) (by (length (b ∷ w) == 1) (length (b ∷ w) == 3) (slice_index (b ∷ w) 1 == 0x2E) (slice_index (b ∷ w) 2 == 0x2E)) where
  by : (t u v x : Bool) → ((t && (false || false)) || (u && false && v && x) || (false && slice_index (b ∷ w) 1 == 0x3E)) ≡ false
  by true true v x = refl
  by true false v x = refl
  by false true v x = refl
  by false false v x = refl

unidentified : (b : ℕ) (w : List ℕ) → begins_number b ≡ true → identifier (b ∷ w) ≡ None
unidentified b w h = ap (λ (t : Bool). name (cond t class.Subsequent class.Initial) (b ∷ w)) (plainly b w h) ∙ no_name b w h

no_point : (b : ℕ) (w : List ℕ) → begins_number b ≡ true → is_dot (b ∷ w) ≡ false
no_point b w h = rw (differs begins_number b 0x2E refl h) (and_false (length (b ∷ w) == 1))

-- Lexemes.

front_of : (w rest : List ℕ) → take (length w) (w ++ rest) ≡ w
front_of [] rest = refl
front_of (c ∷ w) rest = ap (λ (x : List ℕ). c ∷ x) (front_of w rest)

back_of : (w rest : List ℕ) → drop (length w) (w ++ rest) ≡ rest
back_of [] rest = refl
back_of (c ∷ w) rest = back_of w rest

other_side : (b n : ℕ) → b == n ≡ false → n == b ≡ false
other_side b n h = grind (arith, nat_tests)

not_marked : (b : ℕ) (bs needle : List ℕ) → b == 0x23 ≡ false → starts_with nat_eq (b ∷ bs) (0x23 ∷ needle) ≡ false
not_marked b bs needle h = ap (λ (t : Bool). t && pointwise nat_eq needle (take (length needle) bs)) (other_side b 0x23 h)

module _ (file : List ℕ) where
  word_stays : (b : ℕ) (bs : List ℕ) (at : ℕ) → is_in_word b ≡ true → atmosphere_end file (b ∷ bs) at ≡ Ok at
  unfolding atmosphere_end
  word_stays b bs at h =
      let mark = differs is_in_word b 0x23 refl h in
      let comment : starts_with nat_eq (b ∷ bs) (codes "#|") ≡ false = not_marked b bs (0x7C ∷ []) mark in
      let word : starts_with nat_eq (b ∷ bs) (codes "#!r6rs") ≡ false = not_marked b bs (0x21 ∷ 0x72 ∷ 0x36 ∷ 0x72 ∷ 0x73 ∷ []) mark in
      rw (differs is_in_word b 0x3B refl h, comment, word) (ap (λ (ps : List Decoded). at_end at ps) (first_piece b bs (small b h)) ∙ ap (λ (t : Bool). Ok (cond t (at + 1) at)) (not_white b h))

  token_of : (b : ℕ) (w : List ℕ) (from to : ℕ) → begins_word b ≡ true → list_all is_in_word w ≡ true → bare file (b ∷ w) from to ≡ Ok (token.Symbol (b ∷ w))
  token_of b w from to h k =
      ap (λ (t : Bool). cond t (Ok token.Dot) (identifier_or_else file (b ∷ w) from to (identifier (b ∷ w)))) (no_dot b w h)
      ∙ ap (λ (o : Option (List ℕ)). identifier_or_else file (b ∷ w) from to o) (identified b w h k)

  number_is : (b : ℕ) (w : List ℕ) (from to : ℕ) (z : ℤ) → begins_number b ≡ true → is_integer 10 (b ∷ w) ≡ true → integer 10 (b ∷ w) ≡ Some z → bare file (b ∷ w) from to ≡ Ok (token.Atom (atom.Int z))
  number_is b w from to z h k e =
      ap (λ (t : Bool). cond t (Ok token.Dot) (identifier_or_else file (b ∷ w) from to (identifier (b ∷ w)))) (no_point b w h)
      ∙ ap (λ (o : Option (List ℕ)). identifier_or_else file (b ∷ w) from to o) (unidentified b w h)
      ∙ rw h (ap (λ (t : Bool). cond t (number file from to (integer 10 (b ∷ w))) (spelt_or_fault file from to (spelt (b ∷ w)))) k ∙ ap (λ (o : Option ℤ). number file from to o) e)

  abbrev its_lexeme : List ℕ → Token → ℕ → Lexeme
  its_lexeme w t at = lexeme t at (at + length w)

  -- the token of the bytes from one place to another
  abbrev Spells : List ℕ → ℕ → Token → Type 0
  Spells w at t = bare file w at (at + length w) ≡ Ok t

  to_word : (b : ℕ) (w rest : List ℕ) (at : ℕ) (t : Token) → Spells (b ∷ w) at t → bare_to file ((b ∷ w) ++ rest) at (at + length (b ∷ w)) ≡ Ok (its_lexeme (b ∷ w) t at)
  to_word b w rest at t s =
      let to = at + length (b ∷ w) in
      let on : to == at ≡ false = grind (arith, nat_tests) in
      let size : to - at ≡ length (b ∷ w) = omega arith in
      rw (on, size) (bind_same (λ t. Ok (lexeme t at to)) (ap (λ (x : List ℕ). bare file x at to) (front_of (b ∷ w) rest) ∙ s))

  bare_word : (b : ℕ) (w rest : List ℕ) (at : ℕ) (t : Token) → is_in_word b ≡ true → list_all is_in_word w ≡ true → ends_word rest ≡ true → Spells (b ∷ w) at t → bare_at file ((b ∷ w) ++ rest) at ≡ Ok (its_lexeme (b ∷ w) t at)
  bare_word b w rest at t h k e s =
      let all : list_all is_in_word (b ∷ w) ≡ true = rw h k in
      bind_same (λ to. bare_to file ((b ∷ w) ++ rest) at to) (word_end file kind.BadEscape at (b ∷ w) rest at all e) ∙ to_word b w rest at t s

  lexeme_of : (b : ℕ) (w rest : List ℕ) (at : ℕ) (t : Token) → is_in_word b ≡ true → list_all is_in_word w ≡ true → ends_word rest ≡ true → Spells (b ∷ w) at t → lexeme_at file ((b ∷ w) ++ rest) at ≡ Ok (its_lexeme (b ∷ w) t at)
  lexeme_of b w rest at t h k e s =
      rw (differs is_in_word b 0x28 refl h, differs is_in_word b 0x29 refl h, differs is_in_word b 0x5B refl h, differs is_in_word b 0x5D refl h, differs is_in_word b 0x27 refl h, differs is_in_word b 0x60 refl h, differs is_in_word b 0x2C refl h, differs is_in_word b 0x22 refl h, differs is_in_word b 0x23 refl h)
      (bare_word b w rest at t h k e s)

  word_next : (bytes : List ℕ) (at b : ℕ) (w rest : List ℕ) (t : Token) → drop at bytes ≡ (b ∷ w) ++ rest → is_in_word b ≡ true → list_all is_in_word w ≡ true → ends_word rest ≡ true → Spells (b ∷ w) at t
      → next_lexeme file bytes at ≡ Ok (Some (its_lexeme (b ∷ w) t at))
  word_next bytes at b w rest t there h k e s =
      bind_same (λ from. lexeme_behind file (drop from bytes) from) (ap (λ (xs : List ℕ). gap_end file xs at) there ∙ no_gap file ((b ∷ w) ++ rest) at (word_stays b (w ++ rest) at h))
      ∙ ap (λ (xs : List ℕ). lexeme_behind file xs at) there ∙ behind file ((b ∷ w) ++ rest) at (its_lexeme (b ∷ w) t at) (omega arith) (lexeme_of b w rest at t h k e s)

-- The bytes of a word, and what is behind them.
record Word (k : ℕ) (bs : List ℕ) : Type 0 where
  word : List ℕ
  rest : List ℕ
  parts : bs ≡ word ++ rest
  all : list_all is_in_word word ≡ true
  size : word_from k bs ≡ k + length word

word_in : (k : ℕ) (bs : List ℕ) → Word k bs
word_in k [] = record { word = []; rest = []; parts = refl; all = refl; size = omega arith }
word_in k (b ∷ bs) = by (is_in_word b) refl (word_in (k + 1) bs) where
  by : (t : Bool) → is_in_word b ≡ t → Word (k + 1) bs → Word k (b ∷ bs)
  by true e w = record { word = b ∷ w.word; rest = w.rest; parts = ap (λ (x : List ℕ). b ∷ x) w.parts; all = rw e w.all; size = rw e (w.size ∙ omega arith) }
  by false e w = record { word = []; rest = b ∷ bs; parts = refl; all = refl; size = rw e (omega arith) }

-- What the first of some bytes, and the size of the word with it, tell of the word.
record First (b : ℕ) (bs : List ℕ) : Type 0 where
  word : List ℕ
  rest : List ℕ
  parts : b ∷ bs ≡ (b ∷ word) ++ rest
  all : list_all is_in_word word ≡ true
  size : word_size (b ∷ bs) ≡ length (b ∷ word)

first_in : (b : ℕ) (bs : List ℕ) → is_in_word b ≡ true → First b bs
first_in b bs h =
    let w = word_in 1 bs in
    record { word = w.word; rest = w.rest; parts = ap (λ (x : List ℕ). b ∷ x) w.parts; all = w.all; size = rw h (w.size ∙ omega arith) }

word_taken : (b : ℕ) (bs : List ℕ) (f : First b bs) → take (word_size (b ∷ bs)) (b ∷ bs) ≡ b ∷ f.word
word_taken b bs f = ap (λ (n : ℕ). take n (b ∷ bs)) f.size ∙ ap (λ (x : List ℕ). take (length (b ∷ f.word)) x) f.parts ∙ front_of (b ∷ f.word) f.rest

rest_left : (b : ℕ) (bs : List ℕ) (f : First b bs) → drop (word_size (b ∷ bs)) (b ∷ bs) ≡ f.rest
rest_left b bs f = ap (λ (n : ℕ). drop n (b ∷ bs)) f.size ∙ ap (λ (x : List ℕ). drop (length (b ∷ f.word)) x) f.parts ∙ back_of (b ∷ f.word) f.rest

-- where such a word comes next, its bytes are those of the lexeme
word_is : (file bytes : List ℕ) (at b : ℕ) (bs : List ℕ) (f : First b bs) (t : Token) → drop at bytes ≡ b ∷ bs → is_in_word b ≡ true → ends_word (drop (word_size (b ∷ bs)) (b ∷ bs)) ≡ true
    → bare file (b ∷ f.word) at (at + length (b ∷ f.word)) ≡ Ok t → next_lexeme file bytes at ≡ Ok (Some (lexeme t at (at + word_size (b ∷ bs))))
word_is file bytes at b bs f t there h e s =
    let end : ends_word f.rest ≡ true = ap ends_word (sym (rest_left b bs f)) ∙ e in
    word_next file bytes at b f.word f.rest t (there ∙ f.parts) h f.all end s
    ∙ ap (λ (n : ℕ). Ok (Some (lexeme t at (at + n)))) (sym f.size)

-- The next lexeme, by what a look at the bytes tells.

pub opens : (file bytes : List ℕ) (at first : ℕ) → first ≡ slice_index bytes at → (0 < first → at < length bytes) → first ≡ 0x28 → next_lexeme file bytes at ≡ Ok (Some (lexeme (token.Open bracket.Round) at (at + 1)))
opens file bytes at first is there e = open_at file bytes at (there (omega (arith, e))) (sym is ∙ e)

pub closes : (file bytes : List ℕ) (at first : ℕ) → first ≡ slice_index bytes at → (0 < first → at < length bytes) → first ≡ 0x29 → next_lexeme file bytes at ≡ Ok (Some (lexeme (token.Close bracket.Round) at (at + 1)))
closes file bytes at first is there e = close_at file bytes at (there (omega (arith, e))) (sym is ∙ e)

pub spaced : (file bytes : List ℕ) (at first : ℕ) → first ≡ slice_index bytes at → (0 < first → at < length bytes) → first ≡ 0x20 → next_lexeme file bytes at ≡ next_lexeme file bytes (at + 1)
spaced file bytes at first is there e = behind_space file bytes at (there (omega (arith, e))) (sym is ∙ e)

-- The word that was split off.
record Split (bytes rest word others : List ℕ) (at size : ℕ) : Type 0 where
  begun : ℕ
  others_there : List ℕ
  there : drop at bytes ≡ begun ∷ others_there
  first : slice_index bytes at ≡ begun
  is : size ≡ word_size (begun ∷ others_there)
  taken : word ≡ take (word_size (begun ∷ others_there)) (begun ∷ others_there)
  left : others ≡ drop (word_size (begun ∷ others_there)) (begun ∷ others_there)

split : (bytes rest word others : List ℕ) (at size : ℕ) → at < length bytes → rest ≡ drop at bytes → size ≡ word_size rest → word ≡ take size rest → others ≡ drop size rest → Split bytes rest word others at size
split bytes rest word others at size h r s w o =
    let b = slice_index bytes at in
    let bs = drop (at + 1) bytes in
    let there : drop at bytes ≡ b ∷ bs = drop_more bytes at 0 h in
    let whole : rest ≡ b ∷ bs = r ∙ there in
    let n : size ≡ word_size (b ∷ bs) = s ∙ ap (λ (x : List ℕ). word_size x) whole in
    record { begun = b; others_there = bs; there = there; first = refl; is = n; taken = w ∙ (λ i. take (n i) (whole i)); left = o ∙ (λ i. drop (n i) (whole i)) }

pub worded : (file bytes rest word others : List ℕ) (at size : ℕ) → at < length bytes → begins_word (slice_index bytes at) ≡ true → rest ≡ drop at bytes → size ≡ word_size rest → word ≡ take size rest
    → others ≡ drop size rest → ends_word others ≡ true → next_lexeme file bytes at ≡ Ok (Some (lexeme (token.Symbol word) at (at + size)))
worded file bytes rest word others at size h begins r s w o e =
    let p = split bytes rest word others at size h r s w o in
    let first : begins_word p.begun ≡ true = ap begins_word (sym p.first) ∙ begins in
    let f = first_in p.begun p.others_there (begins_in p.begun first) in
    let text : word ≡ p.begun ∷ f.word = p.taken ∙ word_taken p.begun p.others_there f in
    word_is file bytes at p.begun p.others_there f (token.Symbol (p.begun ∷ f.word)) p.there (begins_in p.begun first) (ap ends_word (sym p.left) ∙ e)
    (token_of file p.begun f.word at (at + length (p.begun ∷ f.word)) first f.all)
    ∙ (λ i. Ok (Some (lexeme (token.Symbol (sym text i)) at (at + sym p.is i))))

pub numbered : (file bytes rest word others : List ℕ) (at size : ℕ) (z : ℤ) → at < length bytes → begins_number (slice_index bytes at) ≡ true → rest ≡ drop at bytes → size ≡ word_size rest → word ≡ take size rest
    → others ≡ drop size rest → ends_word others ≡ true → is_integer 10 word ≡ true → integer 10 word ≡ Some z → next_lexeme file bytes at ≡ Ok (Some (lexeme (token.Atom (atom.Int z)) at (at + size)))
numbered file bytes rest word others at size z h begins r s w o e k v =
    let p = split bytes rest word others at size h r s w o in
    let first : begins_number p.begun ≡ true = ap begins_number (sym p.first) ∙ begins in
    let f = first_in p.begun p.others_there (digit_in p.begun first) in
    let text : word ≡ p.begun ∷ f.word = p.taken ∙ word_taken p.begun p.others_there f in
    word_is file bytes at p.begun p.others_there f (token.Atom (atom.Int z)) p.there (digit_in p.begun first) (ap ends_word (sym p.left) ∙ e)
    (number_is file p.begun f.word at (at + length (p.begun ∷ f.word)) z first (ap (λ (x : List ℕ). is_integer 10 x) (sym text) ∙ k) (ap (λ (x : List ℕ). integer 10 x) (sym text) ∙ v))
    ∙ ap (λ (n : ℕ). Ok (Some (lexeme (token.Atom (atom.Int z)) at (at + n)))) (sym p.is)
