-- The definition of a string gives exactly its elements.
use Rattle.std.proofs.Common.{◌≡◌, ◌≢◌, ℕ, zero, suc, ◌+◌, ◌-◌, ◌<◌, Bool, true, false, cond, List, [], ◌∷◌, ◌++◌, length, take, drop, slice_index, Option, Some, None, Result, Ok, Err, refl, sym, ap, ◌∙◌, subst, arith, append_assoc, append-nil, length-drop, add-zero}
use Rattle.std.proofs.lemmas.List.{get_or-drop}
use Rattle.std.specs.Prelude.{◌==◌, ◌&&◌, nat_lt, ◌↔◌}
use Rattle.std.proofs.lemmas.Bool.{eqb-true}
use Rattle.std.proofs.lemmas.Bool.Decides.{nat_tests}
use Rattle.bstr.specs.Utf8.{Decoded, decoded, pieces}
use Rattle.bstr.proofs.lemmas.PieceLemmas.{pieces-step}
use Rattle.base_data.specs.Gives.{◌>>=◌}
use Rattle.base_data.specs.Place.{line_end}
use Rattle.base_data.specs.declared.fault.Fault.{Fault}
use Rattle.base_data.specs.declared.fault.FaultKind.TheVariants as kind
use Rattle.read_lexer.specs.Grammar.{CharacterRun, StringElement, StringElements}
use Rattle.read_lexer.specs.Strings.{char_here, char_or_byte, simple_escape, letter_or_fault, hex_part, behind_blanks, escape_part, line_or_char, string_part, string_from, string_at, string_lexeme, char_text}
use Rattle.read_lexer.proofs.BetweenLemmas.{some_bytes, first_some, by_first, not_equal, equal, ascii_decoded}
use Rattle.read_lexer.proofs.BareLemmas.{escape_some}
use Rattle.read_spelling.specs.Escapes.{escape, letter, scalar_of}
use Rattle.read_spelling.specs.Numbers.{digits_size}
use Rattle.read_spelling.specs.Source.{characters, piece}
use Rattle.read_spelling.specs.Whitespace.{blanks_end, is_intraline_char, run_end, runs_on}
use Rattle.read_spelling.specs.declared.escapes.Letter.{Letter}
use Rattle.read_lexer.specs.declared.token.Lexeme.{Lexeme}

-- a run's end, from either definition
blanks_test : (at : ℕ) (p : Decoded) (ps : List Decoded) (t : Bool) → is_intraline_char p.char ≡ t
    → ((n : ℕ) × (blanks_end (at + p.size) ps ≡ at + p.size + n) × CharacterRun is_intraline_char ps n)
    → (n : ℕ) × (cond t (blanks_end (at + p.size) ps) at ≡ at + n) × CharacterRun is_intraline_char (p ∷ ps) n
blanks_test at p ps true e r = (p.size + r.0, omega (arith, r.1), CharacterRun.more r.0 p ps e r.2)
blanks_test at p ps false e r = (0, omega arith, CharacterRun.stop p ps e)

pub blanks_are : (at : ℕ) (text : List Decoded) → (n : ℕ) × (blanks_end at text ≡ at + n) × CharacterRun is_intraline_char text n
blanks_are at [] = (0, omega arith, CharacterRun.source_end)
blanks_are at (p ∷ ps) = blanks_test at p ps (is_intraline_char p.char) refl (blanks_are (at + p.size) ps)

pub blanks_complete : (at : ℕ) (text : List Decoded) (n : ℕ) → CharacterRun is_intraline_char text n → blanks_end at text ≡ at + n
blanks_complete at _ _ CharacterRun.source_end = omega arith
blanks_complete at _ _ (CharacterRun.stop p ps e) = rw e (omega arith)
blanks_complete at _ _ (CharacterRun.more n p ps e run) = rw e (omega (arith, blanks_complete (at + p.size) ps n run))

run_test : (at : ℕ) (p : Decoded) (ps : List Decoded) (t : Bool) → runs_on p.char ≡ t
    → ((n : ℕ) × (run_end (at + p.size) ps ≡ at + p.size + n) × CharacterRun runs_on ps n)
    → (n : ℕ) × (cond t (run_end (at + p.size) ps) at ≡ at + n) × CharacterRun runs_on (p ∷ ps) n
run_test at p ps true e r = (p.size + r.0, omega (arith, r.1), CharacterRun.more r.0 p ps e r.2)
run_test at p ps false e r = (0, omega arith, CharacterRun.stop p ps e)

pub run_is : (at : ℕ) (text : List Decoded) → (n : ℕ) × (run_end at text ≡ at + n) × CharacterRun runs_on text n
run_is at [] = (0, omega arith, CharacterRun.source_end)
run_is at (p ∷ ps) = run_test at p ps (runs_on p.char) refl (run_is (at + p.size) ps)

pub run_complete : (at : ℕ) (text : List Decoded) (n : ℕ) → CharacterRun runs_on text n → run_end at text ≡ at + n
run_complete at _ _ CharacterRun.source_end = omega arith
run_complete at _ _ (CharacterRun.stop p ps e) = rw e (omega arith)
run_complete at _ _ (CharacterRun.more n p ps e run) = rw e (omega (arith, run_complete (at + p.size) ps n run))

ok_same : (a b : Decoded) → ◌≡◌ {A = Result Decoded Fault} (Ok a) (Ok b) → a ≡ b
ok_same a b e = cc

pub lexeme_same : (a b : Lexeme) → ◌≡◌ {A = Result Lexeme Fault} (Ok a) (Ok b) → a ≡ b
lexeme_same a b e = cc

-- the element that an answer stands for
at_piece : (bytes : List ℕ) (char : Option ℕ) (size m : ℕ) (p : Decoded) → ◌≡◌ {A = Result Decoded Fault} (Ok (piece char size)) (Ok p) → m ≡ size → StringElement bytes char m → StringElement bytes p.char p.size
at_piece bytes char size m p e same element =
    subst (λ (d : Decoded). StringElement bytes d.char d.size) (ap (λ k. piece char k) same ∙ ok_same (piece char size) p e) element

abbrev Here : List ℕ → Decoded → Type 0
Here bytes p = (c : ℕ) × (size : ℕ) × (ps : List Decoded) × (piece (Some c) size ≡ p) × (characters bytes ≡ piece (Some c) size ∷ ps)

here_char : (file bytes : List ℕ) (at : ℕ) (p : Decoded) (char : Option ℕ) (size : ℕ) (ps : List Decoded) → characters bytes ≡ piece char size ∷ ps → char_or_byte file at char size ≡ Ok p → Here bytes p
here_char file bytes at p None size ps e given = absurd (cc)
here_char file bytes at p (Some c) size ps e given = (c, size, ps, ok_same (piece (Some c) size) p given, e)

here_sound : (file bytes : List ℕ) (quote at : ℕ) (p : Decoded) (text : List Decoded) → characters bytes ≡ text → char_here file quote at text ≡ Ok p → Here bytes p
here_sound file bytes quote at p [] e given = absurd (cc)
here_sound file bytes quote at p (q ∷ qs) e given = here_char file bytes at p q.char q.size qs e given

not_zero : (n : ℕ) → n == 0 ≡ false → 0 < n
not_zero n h = grind (arith, nat_tests)

is_some : (n : ℕ) → 0 < n → n == 0 ≡ false
is_some n h = grind (arith, nat_tests)

pub differs : (b c : ℕ) → b == c ≡ false → b ≢ c
differs b c h e = grind (arith, nat_tests)

three : (a b c : Bool) → (a && b && c) ≡ true → (a ≡ true) × (c ≡ true)
three true true true h = (refl, refl)
three true true false h = absurd (cc)
three true false c h = absurd (cc)
three false b c h = absurd (cc)

escape_test : (n : ℕ) (bytes : List ℕ) (l : Letter) (t : Bool) → (slice_index bytes 1 == 0x78 && nat_lt 0 n && slice_index bytes (2 + n) == 0x3B) ≡ t
    → cond t (letter (3 + n) (scalar_of (take n (drop 2 bytes)))) None ≡ Some l → (slice_index bytes 1 ≡ 0x78) × (slice_index bytes (2 + n) ≡ 0x3B)
escape_test n bytes l true e given =
    let f = three (slice_index bytes 1 == 0x78) (nat_lt 0 n) (slice_index bytes (2 + n) == 0x3B) e in
    (eqb-true (slice_index bytes 1) 0x78 f.0, eqb-true (slice_index bytes (2 + n)) 0x3B f.1)
escape_test n bytes l false e given = absurd (cc)

-- an escape is x, digits and a semicolon
escape_parts : (bytes : List ℕ) (l : Letter) → escape bytes ≡ Some l → (slice_index bytes 1 ≡ 0x78) × (slice_index bytes (2 + digits_size 16 (drop 2 bytes)) ≡ 0x3B)
escape_parts bytes l e =
    let n = digits_size 16 (drop 2 bytes) in
    escape_test n bytes l (slice_index bytes 1 == 0x78 && nat_lt 0 n && slice_index bytes (2 + n) == 0x3B) refl e

semicolon_here : (bytes : List ℕ) → slice_index bytes 0 ≡ 0x3B → characters bytes ≡ piece (Some 0x3B) 1 ∷ characters (drop 1 bytes)
unfolding characters
semicolon_here [] h = absurd (omega arith)
semicolon_here (b ∷ bs) h =
    let small : nat_lt b 0x80 ≡ true = rw h refl in
    let first : decoded (b ∷ bs) ≡ piece (Some 0x3B) 1 = ascii_decoded b bs small ∙ ap (λ c. piece (Some c) 1) h in
    pieces-step (b ∷ bs) (omega arith) ∙ ap (λ (d : Decoded). d ∷ pieces (drop d.size (b ∷ bs))) first

line_some : (bytes : List ℕ) → 0 < line_end bytes → 0 < length bytes
line_some [] n = absurd (omega arith)
line_some (b ∷ bs) n = omega arith

first_way : (t : Bool) (x y z : Result Decoded Fault) → t ≡ true → x ≡ z → cond t x y ≡ z
first_way t x y z e p = rw e p

module _ (file : List ℕ) (quote : ℕ) where
  abbrev SoundPart : List ℕ → Result Decoded Fault → Type 0
  SoundPart bytes r = (p : Decoded) → r ≡ Ok p → StringElement bytes p.char p.size

  line_test : (bytes : List ℕ) (at : ℕ) (t : Bool) → slice_index bytes 0 ≢ 0x5C → line_end bytes == 0 ≡ t
      → SoundPart bytes (cond t (char_here file quote at (characters bytes)) (Ok (piece (Some 0x0A) (line_end bytes))))
  line_test bytes at true first e p given =
      let h = here_sound file bytes quote at p (characters bytes) refl given in
      at_piece bytes (Some h.0) h.1 h.1 p (ap Ok h.3) refl (StringElement.char bytes h.0 h.1 h.2 first h.4 (eqb-true (line_end bytes) 0 e))
  line_test bytes at false first e p given = at_piece bytes (Some 0x0A) (line_end bytes) (line_end bytes) p given refl (StringElement.line bytes first (not_zero (line_end bytes) e))

  letter_sound : (bytes : List ℕ) (at : ℕ) (o : Option Letter) → slice_index bytes 0 ≡ 0x5C → escape bytes ≡ o → SoundPart bytes (letter_or_fault file quote at o)
  letter_sound bytes at None first e p given = absurd (cc)
  letter_sound bytes at (Some l) first e p given = at_piece bytes (Some l.char) l.size l.size p given refl (StringElement.hex bytes l first e)

  hex_sound : (bytes : List ℕ) (at : ℕ) (r : Result Decoded Fault) → slice_index bytes 0 ≡ 0x5C → SoundPart bytes (r >>= λ _. letter_or_fault file quote at (escape bytes))
  hex_sound bytes at (Err f) first p given = absurd (cc)
  hex_sound bytes at (Ok d) first p given = letter_sound bytes at (escape bytes) first refl p given

  continued_test : (bytes rest : List ℕ) (at before here c size : ℕ) (ps : List Decoded) (t : Bool) → slice_index bytes 0 ≡ 0x5C → simple_escape (slice_index bytes 1) ≡ None → slice_index bytes 1 ≢ 0x78
      → CharacterRun is_intraline_char (characters (drop 1 bytes)) before → here ≡ at + 1 + before → rest ≡ drop (1 + before) bytes → characters rest ≡ piece (Some c) size ∷ ps → line_end rest == 0 ≡ t
      → SoundPart bytes (cond t (Err (record { kind = kind.BadEscape; span = record { file = file; from = quote; to = at }; words = [] }))
      (Ok (piece None (blanks_end (here + line_end rest) (characters (drop (line_end rest) rest)) - at))))
  continued_test bytes rest at before here c size ps true first e x run is_here is_rest char n p given = absurd (cc)
  continued_test bytes rest at before here c size ps false first e x run is_here is_rest char n p given =
      let b = blanks_are (here + line_end rest) (characters (drop (line_end rest) rest)) in
      at_piece bytes None (blanks_end (here + line_end rest) (characters (drop (line_end rest) rest)) - at) (1 + before + line_end rest + b.0) p given
      (omega (arith, b.1, is_here)) (StringElement.continued bytes rest before b.0 c size ps first e x run is_rest (not_zero (line_end rest) n) char b.2)

  continued_sound : (bytes rest : List ℕ) (at before here : ℕ) (r : Result Decoded Fault) → slice_index bytes 0 ≡ 0x5C → simple_escape (slice_index bytes 1) ≡ None → slice_index bytes 1 ≢ 0x78
      → CharacterRun is_intraline_char (characters (drop 1 bytes)) before → here ≡ at + 1 + before → rest ≡ drop (1 + before) bytes → char_here file quote here (characters rest) ≡ r
      → SoundPart bytes (r >>= λ _. cond (line_end rest == 0) (Err (record { kind = kind.BadEscape; span = record { file = file; from = quote; to = at }; words = [] }))
      (Ok (piece None (blanks_end (here + line_end rest) (characters (drop (line_end rest) rest)) - at))))
  continued_sound bytes rest at before here (Err f) first e x run is_here is_rest char p given = absurd (cc)
  continued_sound bytes rest at before here (Ok d) first e x run is_here is_rest char p given =
      let h = here_sound file rest quote here d (characters rest) refl char in
      continued_test bytes rest at before here h.0 h.1 h.2 (line_end rest == 0) first e x run is_here is_rest h.4 refl p given

  behind_sound : (bytes : List ℕ) (at : ℕ) → slice_index bytes 0 ≡ 0x5C → simple_escape (slice_index bytes 1) ≡ None → slice_index bytes 1 ≢ 0x78
      → SoundPart bytes (behind_blanks file quote at (blanks_end (at + 1) (characters (drop 1 bytes))) (drop (blanks_end (at + 1) (characters (drop 1 bytes)) - at) bytes))
  behind_sound bytes at first e x p given =
      let a = blanks_are (at + 1) (characters (drop 1 bytes)) in
      let here = blanks_end (at + 1) (characters (drop 1 bytes)) in
      let less : here - at ≡ 1 + a.0 = omega (arith, a.1) in
      continued_sound bytes (drop (here - at) bytes) at a.0 here (char_here file quote here (characters (drop (here - at) bytes))) first e x a.2 a.1
      (ap (λ k. drop k bytes) less) refl p given

  x_test : (bytes : List ℕ) (at : ℕ) (t : Bool) → slice_index bytes 0 ≡ 0x5C → simple_escape (slice_index bytes 1) ≡ None → slice_index bytes 1 == 0x78 ≡ t
      → SoundPart bytes (cond t (hex_part file quote at (digits_size 16 (drop 2 bytes)) bytes)
      (behind_blanks file quote at (blanks_end (at + 1) (characters (drop 1 bytes))) (drop (blanks_end (at + 1) (characters (drop 1 bytes)) - at) bytes)))
  x_test bytes at true first e x p given =
      hex_sound bytes at (char_here file quote (at + 2 + digits_size 16 (drop 2 bytes)) (characters (drop (2 + digits_size 16 (drop 2 bytes)) bytes))) first p given
  x_test bytes at false first e x p given = behind_sound bytes at first e (differs (slice_index bytes 1) 0x78 x) p given

  escape_sound : (bytes : List ℕ) (at : ℕ) (o : Option ℕ) → slice_index bytes 0 ≡ 0x5C → simple_escape (slice_index bytes 1) ≡ o → SoundPart bytes (escape_part file quote bytes at o)
  escape_sound bytes at (Some c) first e p given = at_piece bytes (Some c) 2 2 p given refl (StringElement.simple bytes c first e)
  escape_sound bytes at None first e p given = x_test bytes at (slice_index bytes 1 == 0x78) first e refl p given

  part_test : (bytes : List ℕ) (at : ℕ) (t : Bool) → slice_index bytes 0 == 0x5C ≡ t
      → SoundPart bytes (cond t (escape_part file quote bytes at (simple_escape (slice_index bytes 1))) (line_or_char file quote bytes at (line_end bytes)))
  part_test bytes at true first p given = escape_sound bytes at (simple_escape (slice_index bytes 1)) (eqb-true (slice_index bytes 0) 0x5C first) refl p given
  part_test bytes at false first p given = line_test bytes at (line_end bytes == 0) (differs (slice_index bytes 0) 0x5C first) refl p given

  part_sound : (bytes : List ℕ) (at : ℕ) → SoundPart bytes (string_part file quote bytes at)
  unfolding string_part
  part_sound bytes at p given = part_test bytes at (slice_index bytes 0 == 0x5C) refl p given

  char_complete : (bytes : List ℕ) (at c size : ℕ) (ps : List Decoded) → slice_index bytes 0 ≢ 0x5C → characters bytes ≡ piece (Some c) size ∷ ps → line_end bytes ≡ 0
      → string_part file quote bytes at ≡ Ok (piece (Some c) size)
  unfolding string_part
  char_complete bytes at c size ps first e n = rw (not_equal (slice_index bytes 0) 0x5C first, equal (line_end bytes) 0 n, e) refl

  line_complete : (bytes : List ℕ) (at : ℕ) → slice_index bytes 0 ≢ 0x5C → 0 < line_end bytes → string_part file quote bytes at ≡ Ok (piece (Some 0x0A) (line_end bytes))
  unfolding string_part
  line_complete bytes at first n = rw (not_equal (slice_index bytes 0) 0x5C first, is_some (line_end bytes) n) refl

  simple_complete : (bytes : List ℕ) (at c : ℕ) → slice_index bytes 0 ≡ 0x5C → simple_escape (slice_index bytes 1) ≡ Some c → string_part file quote bytes at ≡ Ok (piece (Some c) 2)
  unfolding string_part
  simple_complete bytes at c first e = rw (equal (slice_index bytes 0) 0x5C first, e) refl

  hex_part_complete : (bytes : List ℕ) (at n : ℕ) (l : Letter) → slice_index bytes (2 + n) ≡ 0x3B → escape bytes ≡ Some l → hex_part file quote at n bytes ≡ Ok (piece (Some l.char) l.size)
  hex_part_complete bytes at n l last e =
      let semicolon = semicolon_here (drop (2 + n) bytes) (get_or-drop (2 + n) bytes 0 0 ∙ rw add-zero last) in
      rw (semicolon, e) refl

  hex_complete : (bytes : List ℕ) (at : ℕ) (l : Letter) → slice_index bytes 0 ≡ 0x5C → escape bytes ≡ Some l → string_part file quote bytes at ≡ Ok (piece (Some l.char) l.size)
  unfolding string_part
  hex_complete bytes at l first e =
      let parts = escape_parts bytes l e in
      let none : simple_escape (slice_index bytes 1) ≡ None = ap simple_escape parts.0 in
      let n = digits_size 16 (drop 2 bytes) in
      let here = blanks_end (at + 1) (characters (drop 1 bytes)) in
      rw (equal (slice_index bytes 0) 0x5C first, none)
      (first_way (slice_index bytes 1 == 0x78) (hex_part file quote at n bytes) (behind_blanks file quote at here (drop (here - at) bytes)) (Ok (piece (Some l.char) l.size))
      (equal (slice_index bytes 1) 0x78 parts.0) (hex_part_complete bytes at n l parts.1 e))

  continued_complete : (bytes rest : List ℕ) (at before after c size : ℕ) (ps : List Decoded) → slice_index bytes 0 ≡ 0x5C → simple_escape (slice_index bytes 1) ≡ None → slice_index bytes 1 ≢ 0x78
      → CharacterRun is_intraline_char (characters (drop 1 bytes)) before → rest ≡ drop (1 + before) bytes → 0 < line_end rest → characters rest ≡ piece (Some c) size ∷ ps
      → CharacterRun is_intraline_char (characters (drop (line_end rest) rest)) after → string_part file quote bytes at ≡ Ok (piece None (1 + before + line_end rest + after))
  unfolding string_part
  continued_complete bytes rest at before after c size ps first e x run is_rest n char run_after =
      let here = blanks_complete (at + 1) (characters (drop 1 bytes)) before run in
      let less : at + 1 + before - at ≡ 1 + before = omega arith in
      let behind = blanks_complete (at + 1 + before + line_end rest) (characters (drop (line_end rest) rest)) after run_after in
      let size_is : at + 1 + before + line_end rest + after - at ≡ 1 + before + line_end rest + after = omega arith in
      rw (equal (slice_index bytes 0) 0x5C first, e, not_equal (slice_index bytes 1) 0x78 x, here, less, ← is_rest, char, is_some (line_end rest) n, behind, size_is) refl

  pub part_complete : (bytes : List ℕ) (at : ℕ) (char : Option ℕ) (size : ℕ) → StringElement bytes char size → string_part file quote bytes at ≡ Ok (piece char size)
  part_complete _ at _ _ (StringElement.char bytes c size rest first e n) = char_complete bytes at c size rest first e n
  part_complete _ at _ _ (StringElement.line bytes first n) = line_complete bytes at first n
  part_complete _ at _ _ (StringElement.simple bytes c first e) = simple_complete bytes at c first e
  part_complete _ at _ _ (StringElement.hex bytes l first e) = hex_complete bytes at l first e
  part_complete _ at _ _ (StringElement.continued bytes rest before after c size ps first e x run is_rest n char run_after) =
      continued_complete bytes rest at before after c size ps first e x run is_rest n char run_after

  pub element_some : (bytes : List ℕ) (char : Option ℕ) (size : ℕ) → StringElement bytes char size → (0 < size) × (0 < length bytes)
  element_some _ _ _ (StringElement.char bytes c size rest first e n) = (first_some bytes c size rest e, some_bytes bytes (piece (Some c) size) rest e)
  element_some _ _ _ (StringElement.line bytes first n) = (n, line_some bytes n)
  element_some _ _ _ (StringElement.simple bytes c first e) = (omega arith, by_first bytes 0x5C (omega arith) first)
  element_some _ _ _ (StringElement.hex bytes l first e) = (escape_some bytes l e, by_first bytes 0x5C (omega arith) first)
  element_some _ _ _ (StringElement.continued bytes rest before after c size ps first e x run is_rest n char run_after) = (omega arith, by_first bytes 0x5C (omega arith) first)

  abbrev ElementsTo : List ℕ → List ℕ → ℕ → Lexeme → Type 0
  ElementsTo out bytes at l = (n : ℕ) × (text : List ℕ) × (string_lexeme (out ++ text) quote (at + n) ≡ l) × StringElements bytes n text

  string_step : (k : ℕ) (out bytes : List ℕ) (at : ℕ) (l : Lexeme) (r : Result Decoded Fault) → length bytes < suc k → slice_index bytes 0 ≢ 0x22
      → ((longer rest : List ℕ) (here : ℕ) → length rest < k → string_from file quote k longer rest here ≡ Ok l → ElementsTo longer rest here l)
      → string_part file quote bytes at ≡ r → (r >>= λ p. string_from file quote k (out ++ char_text p.char) (drop p.size bytes) (at + p.size)) ≡ Ok l → ElementsTo out bytes at l
  string_step k out bytes at l (Err f) enough first further is given = absurd (cc)
  string_step k out bytes at l (Ok p) enough first further is given =
      let element = part_sound bytes at p is in
      let left = element_some bytes p.char p.size element in
      let r = further (out ++ char_text p.char) (drop p.size bytes) (at + p.size) (omega (arith, left.0, left.1, length-drop p.size bytes)) given in
      let text : out ++ (char_text p.char ++ r.1) ≡ out ++ char_text p.char ++ r.1 = sym (append_assoc out (char_text p.char) r.1) in
      let size : at + (p.size + r.0) ≡ at + p.size + r.0 = omega arith in
      (p.size + r.0, char_text p.char ++ r.1, rw (text, size) r.2, StringElements.more bytes r.1 p.char p.size r.0 first element r.3)

  string_test : (k : ℕ) (out bytes : List ℕ) (at : ℕ) (l : Lexeme) (t : Bool) → length bytes < suc k → slice_index bytes 0 == 0x22 ≡ t
      → ((longer rest : List ℕ) (here : ℕ) → length rest < k → string_from file quote k longer rest here ≡ Ok l → ElementsTo longer rest here l)
      → cond t (Ok (string_lexeme out quote (at + 1))) (string_part file quote bytes at >>= λ p. string_from file quote k (out ++ char_text p.char) (drop p.size bytes) (at + p.size)) ≡ Ok l
      → ElementsTo out bytes at l
  string_test k out bytes at l true enough first further given =
      (1, [], rw (append-nil out) (lexeme_same (string_lexeme out quote (at + 1)) l given), StringElements.close bytes (eqb-true (slice_index bytes 0) 0x22 first))
  string_test k out bytes at l false enough first further given =
      string_step k out bytes at l (string_part file quote bytes at) enough (differs (slice_index bytes 0) 0x22 first) further refl given

  string_sound : (k : ℕ) (out bytes : List ℕ) (at : ℕ) (l : Lexeme) → length bytes < k → string_from file quote k out bytes at ≡ Ok l → ElementsTo out bytes at l
  unfolding string_from
  string_sound zero out bytes at l enough given = absurd (omega arith)
  string_sound (suc k) out bytes at l enough given =
      string_test k out bytes at l (slice_index bytes 0 == 0x22) enough refl (λ longer rest here fewer e. string_sound k longer rest here l fewer e) given

  close_complete : (bytes out : List ℕ) (k at : ℕ) → length bytes < k → slice_index bytes 0 ≡ 0x22 → string_from file quote k out bytes at ≡ Ok (string_lexeme (out ++ []) quote (at + 1))
  unfolding string_from
  close_complete bytes out zero at enough first = absurd (omega arith)
  close_complete bytes out (suc k) at enough first = rw (equal (slice_index bytes 0) 0x22 first, append-nil out) refl

  more_complete : (bytes out text : List ℕ) (k at size n : ℕ) (char : Option ℕ) → length bytes < k → slice_index bytes 0 ≢ 0x22 → StringElement bytes char size
      → ((j : ℕ) → length (drop size bytes) < j → string_from file quote j (out ++ char_text char) (drop size bytes) (at + size) ≡ Ok (string_lexeme (out ++ char_text char ++ text) quote (at + size + n)))
      → string_from file quote k out bytes at ≡ Ok (string_lexeme (out ++ (char_text char ++ text)) quote (at + (size + n)))
  unfolding string_from
  more_complete bytes out text zero at size n char enough first element further = absurd (omega arith)
  more_complete bytes out text (suc k) at size n char enough first element further =
      let left = element_some bytes char size element in
      let joined : out ++ (char_text char ++ text) ≡ out ++ char_text char ++ text = sym (append_assoc out (char_text char) text) in
      let sum : at + (size + n) ≡ at + size + n = omega arith in
      rw (not_equal (slice_index bytes 0) 0x22 first, part_complete bytes at char size element, joined, sum) (further k (omega (arith, left.0, left.1, length-drop size bytes)))

  string_complete : (bytes : List ℕ) (n : ℕ) (text : List ℕ) → StringElements bytes n text → (k at : ℕ) (out : List ℕ) → length bytes < k
      → string_from file quote k out bytes at ≡ Ok (string_lexeme (out ++ text) quote (at + n))
  string_complete _ _ _ (StringElements.close bytes first) k at out enough = close_complete bytes out k at enough first
  string_complete _ _ _ (StringElements.more bytes text char size n first element elements) k at out enough =
      more_complete bytes out text k at size n char enough first element
      (λ j fewer. string_complete (drop size bytes) n text elements j (at + size) (out ++ char_text char) fewer)

  -- a string is exactly its elements
  pub string_is : (bytes : List ℕ) (l : Lexeme) → (string_at file bytes quote ≡ Ok l) ↔ ((n : ℕ) × (text : List ℕ) × (string_lexeme text quote (quote + 1 + n) ≡ l) × StringElements (drop 1 bytes) n text)
  string_is bytes l = (
    λ e. string_sound (suc (length (drop 1 bytes))) [] (drop 1 bytes) (quote + 1) l (omega arith) e,
    λ g. string_complete (drop 1 bytes) g.0 g.1 g.3 (suc (length (drop 1 bytes))) (quote + 1) [] (omega arith) ∙ ap Ok g.2,
  )
