-- Strings: what the definition refuses, and why.
use Rattle.std.proofs.Common.{◌≡◌, ◌≢◌, ℕ, zero, suc, ◌+◌, ◌-◌, ◌<◌, Bool, true, false, cond, List, [], ◌∷◌, ◌++◌, length, drop, slice_index, Option, Some, None, Result, Ok, Err, refl, sym, ap, ◌∙◌, subst, arith, length-drop}
use Rattle.std.specs.Prelude.{◌==◌, ◌↔◌}
use Rattle.std.proofs.lemmas.Bool.{eqb-true}
use Rattle.std.proofs.lemmas.Bool.Decides.{nat_tests}
use Rattle.bstr.specs.Utf8.{Decoded}
use Rattle.base_data.specs.Gives.{◌>>=◌}
use Rattle.base_data.specs.Place.{line_end}
use Rattle.base_data.specs.declared.fault.Fault.{Fault}
use Rattle.base_data.specs.declared.fault.FaultKind.TheVariants as kind
use Rattle.base_data.proofs.Chars.{branch}
use Rattle.read_lexer.specs.Faults.{fault_at}
use Rattle.read_lexer.specs.Grammar.{CharacterRun, StringElement}
use Rattle.read_lexer.specs.Strings.{char_here, char_or_byte, simple_escape, letter_or_fault, hex_part, line_part, escape_part, line_or_char, string_part, string_from, string_at, string_lexeme, char_text}
use Rattle.read_lexer.specs.declared.token.Lexeme.{Lexeme}
use Rattle.read_lexer.proofs.BetweenLemmas.{not_equal, equal}
use Rattle.read_lexer.proofs.StringLemmas.{blanks_are, blanks_complete, differs, part_complete, element_some}
use Rattle.read_spelling.specs.Escapes.{escape}
use Rattle.read_spelling.specs.Numbers.{digits_size}
use Rattle.read_spelling.specs.Source.{characters, piece}
use Rattle.read_spelling.specs.Whitespace.{blanks_end, is_intraline_char}
use Rattle.read_spelling.specs.declared.escapes.Letter.{Letter}
use Rattle.law_faults.specs.Behind.{BadBehind, Cut}
use Rattle.law_faults.specs.Behind as behind
use Rattle.law_faults.specs.Laws.{StringFaultsAre}
use Rattle.law_faults.specs.Strings.{NextElement, BadElement}
use Rattle.law_faults.specs.Strings as bad
use Rattle.law_faults.proofs.Tests.{Tells, told, blamed, follows, turned, bind_err}

not_zero : (n : ℕ) → n == 0 ≡ false → 0 < n
not_zero n h = grind (arith, nat_tests)

backslash_goes_on : (b : ℕ) → b ≡ 0x5C → b == 0x22 ≡ false
backslash_goes_on b h = ap (λ (c : ℕ). c == 0x22) h

-- a character comes first
record Here (bytes : List ℕ) (d : Decoded) : Type 0 where
  c : ℕ
  ps : List Decoded
  same : piece (Some c) d.size ≡ d
  first : characters bytes ≡ piece (Some c) d.size ∷ ps

module _ (file : List ℕ) (quote : ℕ) where
  here_char : (bytes : List ℕ) (at : ℕ) (char : Option ℕ) (size : ℕ) (ps : List Decoded) → characters bytes ≡ piece char size ∷ ps
      → Tells (Here bytes) (Cut file quote at (piece char size ∷ ps)) (char_or_byte file at char size)
  here_char bytes at None size ps e = behind.no_char at (piece None size) ps refl
  here_char bytes at (Some c) size ps e = record { c = c; ps = ps; same = refl; first = e }

  here_text : (bytes : List ℕ) (at : ℕ) (text : List Decoded) → characters bytes ≡ text → Tells (Here bytes) (Cut file quote at text) (char_here file quote at text)
  here_text bytes at [] e = behind.source_end at
  here_text bytes at (p ∷ ps) e = here_char bytes at p.char p.size ps e

  here : (bytes : List ℕ) (at : ℕ) → Tells (Here bytes) (Cut file quote at (characters bytes)) (char_here file quote at (characters bytes))
  here bytes at = here_text bytes at (characters bytes) refl

  abbrev Good : List ℕ → Decoded → Type 0
  Good bytes p = StringElement bytes p.char p.size

  abbrev Part : List ℕ → ℕ → Result Decoded Fault → Type 0
  Part bytes at r = Tells (Good bytes) (BadElement file quote at bytes) r

  line_tells : (bytes : List ℕ) (at : ℕ) → slice_index bytes 0 ≢ 0x22 → slice_index bytes 0 ≢ 0x5C → Part bytes at (line_or_char file quote bytes at (line_end bytes))
  line_tells bytes at inside first =
      branch (Part bytes at) (line_end bytes == 0)
      (λ n.
      let none = eqb-true (line_end bytes) 0 n in
      turned (Here bytes) (Good bytes) (Cut file quote at (characters bytes)) (BadElement file quote at bytes) (char_here file quote at (characters bytes)) (here bytes at)
      (λ f cut. bad.cut at bytes f inside first none cut)
      (λ d h. subst (λ (d : Decoded). Good bytes d) h.same (StringElement.char bytes h.c d.size h.ps first h.first none)))
      (λ n. StringElement.line bytes first (not_zero (line_end bytes) n))

  letter_tells : (bytes : List ℕ) (at n c size : ℕ) (ps : List Decoded) (o : Option Letter) → slice_index bytes 0 ≡ 0x5C → slice_index bytes 1 ≡ 0x78 → n ≡ digits_size 16 (drop 2 bytes)
      → characters (drop (2 + n) bytes) ≡ piece (Some c) size ∷ ps → escape bytes ≡ o → Part bytes at (letter_or_fault file quote at o)
  letter_tells bytes at n c size ps None first x digits char e = bad.no_hex at bytes n c size ps first x digits char e
  letter_tells bytes at n c size ps (Some l) first x digits char e = StringElement.hex bytes l first e

  hex_tells : (bytes : List ℕ) (at n : ℕ) → slice_index bytes 0 ≡ 0x5C → slice_index bytes 1 ≡ 0x78 → n ≡ digits_size 16 (drop 2 bytes) → Part bytes at (hex_part file quote at n bytes)
  hex_tells bytes at n first x digits =
      let rest = drop (2 + n) bytes in
      follows (Here rest) (Cut file quote (at + 2 + n) (characters rest)) (Good bytes) (BadElement file quote at bytes) (char_here file quote (at + 2 + n) (characters rest))
      (λ _. letter_or_fault file quote at (escape bytes)) (here rest (at + 2 + n))
      (λ f cut. bad.hex_cut at bytes n f first x digits cut)
      (λ d h. letter_tells bytes at n h.c d.size h.ps (escape bytes) first x digits h.first refl)

  continued_tells : (bytes rest : List ℕ) (at before place c size : ℕ) (ps : List Decoded) → slice_index bytes 0 ≡ 0x5C → simple_escape (slice_index bytes 1) ≡ None → slice_index bytes 1 ≢ 0x78
      → CharacterRun is_intraline_char (characters (drop 1 bytes)) before → place ≡ at + 1 + before → rest ≡ drop (1 + before) bytes → characters rest ≡ piece (Some c) size ∷ ps
      → Part bytes at (cond (line_end rest == 0) (Err (fault_at file kind.BadEscape quote at)) (Ok (piece None (blanks_end (place + line_end rest) (characters (drop (line_end rest) rest)) - at))))
  continued_tells bytes rest at before place c size ps first e x run is_place is_rest char =
      let b = blanks_are (place + line_end rest) (characters (drop (line_end rest) rest)) in
      let size_is : 1 + before + line_end rest + b.0 ≡ blanks_end (place + line_end rest) (characters (drop (line_end rest) rest)) - at = omega (arith, b.1, is_place) in
      branch (Part bytes at) (line_end rest == 0)
      (λ n. bad.no_line at bytes before c size ps first e x run (ap characters (sym is_rest) ∙ char) (ap line_end (sym is_rest) ∙ eqb-true (line_end rest) 0 n))
      (λ n. subst (λ (k : ℕ). StringElement bytes None k) size_is (StringElement.continued bytes rest before b.0 c size ps first e x run is_rest (not_zero (line_end rest) n) char b.2))

  cut_at : (bytes rest : List ℕ) (at before place : ℕ) (f : Fault) → place ≡ at + 1 + before → rest ≡ drop (1 + before) bytes → Cut file quote place (characters rest) f
      → Cut file quote (at + 1 + before) (characters (drop (1 + before) bytes)) f
  cut_at bytes rest at before place f is_place is_rest cut =
      subst (λ (k : ℕ). Cut file quote k (characters (drop (1 + before) bytes)) f) is_place (subst (λ (r : List ℕ). Cut file quote place (characters r) f) is_rest cut)

  blanks_tell : (bytes rest : List ℕ) (at before place : ℕ) → slice_index bytes 0 ≡ 0x5C → simple_escape (slice_index bytes 1) ≡ None → slice_index bytes 1 ≢ 0x78
      → CharacterRun is_intraline_char (characters (drop 1 bytes)) before → place ≡ at + 1 + before → rest ≡ drop (1 + before) bytes → Part bytes at (line_part file quote at place (line_end rest) rest)
  blanks_tell bytes rest at before place first e x run is_place is_rest =
      follows (Here rest) (Cut file quote place (characters rest)) (Good bytes) (BadElement file quote at bytes) (char_here file quote place (characters rest))
      (λ _. cond (line_end rest == 0) (Err (fault_at file kind.BadEscape quote at)) (Ok (piece None (blanks_end (place + line_end rest) (characters (drop (line_end rest) rest)) - at))))
      (here rest place)
      (λ f cut. bad.blanks_cut at bytes before f first e x run (cut_at bytes rest at before place f is_place is_rest cut))
      (λ d h. continued_tells bytes rest at before place h.c d.size h.ps first e x run is_place is_rest h.first)

  escape_tells : (bytes : List ℕ) (at : ℕ) (o : Option ℕ) → slice_index bytes 0 ≡ 0x5C → simple_escape (slice_index bytes 1) ≡ o → Part bytes at (escape_part file quote bytes at o)
  escape_tells bytes at (Some c) first e = StringElement.simple bytes c first e
  escape_tells bytes at None first e =
      let a = blanks_are (at + 1) (characters (drop 1 bytes)) in
      let place = blanks_end (at + 1) (characters (drop 1 bytes)) in
      let less : place - at ≡ 1 + a.0 = omega (arith, a.1) in
      branch (Part bytes at) (slice_index bytes 1 == 0x78)
      (λ x. hex_tells bytes at (digits_size 16 (drop 2 bytes)) first (eqb-true (slice_index bytes 1) 0x78 x) refl)
      (λ x. blanks_tell bytes (drop (place - at) bytes) at a.0 place first e (differs (slice_index bytes 1) 0x78 x) a.2 a.1 (ap (λ (k : ℕ). drop k bytes) less))

  part_tells : (bytes : List ℕ) (at : ℕ) → slice_index bytes 0 ≢ 0x22 → Part bytes at (string_part file quote bytes at)
  unfolding string_part
  part_tells bytes at inside =
      branch (Part bytes at) (slice_index bytes 0 == 0x5C)
      (λ e. escape_tells bytes at (simple_escape (slice_index bytes 1)) (eqb-true (slice_index bytes 0) 0x5C e) refl) (λ e. line_tells bytes at inside (differs (slice_index bytes 0) 0x5C e))

  cut_refused : (at : ℕ) (text : List Decoded) (f : Fault) → Cut file quote at text f → char_here file quote at text ≡ Err f
  cut_refused _ _ _ (behind.source_end at) = refl
  cut_refused _ _ _ (behind.no_char at p ps none) = rw none refl

  -- a bad element doesn't begin with a quote
  bad_goes_on : (at : ℕ) (bytes : List ℕ) (f : Fault) → BadElement file quote at bytes f → slice_index bytes 0 == 0x22 ≡ false
  bad_goes_on _ _ _ (bad.cut at bytes f inside first none cut) = not_equal (slice_index bytes 0) 0x22 inside
  bad_goes_on _ _ _ (bad.hex_cut at bytes n f first x digits cut) = backslash_goes_on (slice_index bytes 0) first
  bad_goes_on _ _ _ (bad.no_hex at bytes n c size ps first x digits char none) = backslash_goes_on (slice_index bytes 0) first
  bad_goes_on _ _ _ (bad.blanks_cut at bytes before f first e x run cut) = backslash_goes_on (slice_index bytes 0) first
  bad_goes_on _ _ _ (bad.no_line at bytes before c size ps first e x run char none) = backslash_goes_on (slice_index bytes 0) first

  cut_part : (bytes : List ℕ) (at : ℕ) (f : Fault) → slice_index bytes 0 ≢ 0x5C → line_end bytes ≡ 0 → Cut file quote at (characters bytes) f → string_part file quote bytes at ≡ Err f
  unfolding string_part
  cut_part bytes at f first none cut = rw (not_equal (slice_index bytes 0) 0x5C first, equal (line_end bytes) 0 none) (cut_refused at (characters bytes) f cut)

  hex_first : (bytes : List ℕ) (at n : ℕ) → slice_index bytes 0 ≡ 0x5C → slice_index bytes 1 ≡ 0x78 → n ≡ digits_size 16 (drop 2 bytes) → string_part file quote bytes at ≡ hex_part file quote at n bytes
  unfolding string_part
  hex_first bytes at n first x digits =
      let none : simple_escape (slice_index bytes 1) ≡ None = ap simple_escape x in
      rw (equal (slice_index bytes 0) 0x5C first, none, equal (slice_index bytes 1) 0x78 x, digits) refl

  hex_refused : (bytes : List ℕ) (at n c size : ℕ) (ps : List Decoded) → characters (drop (2 + n) bytes) ≡ piece (Some c) size ∷ ps → escape bytes ≡ None
      → hex_part file quote at n bytes ≡ Err (fault_at file kind.BadEscape quote at)
  hex_refused bytes at n c size ps char none = rw (char, none) refl

  blanks_first : (bytes : List ℕ) (at before : ℕ) → slice_index bytes 0 ≡ 0x5C → simple_escape (slice_index bytes 1) ≡ None → slice_index bytes 1 ≢ 0x78 → CharacterRun is_intraline_char (characters (drop 1 bytes)) before
      → string_part file quote bytes at ≡ line_part file quote at (at + 1 + before) (line_end (drop (1 + before) bytes)) (drop (1 + before) bytes)
  unfolding string_part
  blanks_first bytes at before first e x run =
      let place = blanks_complete (at + 1) (characters (drop 1 bytes)) before run in
      let less : at + 1 + before - at ≡ 1 + before = omega arith in
      rw (equal (slice_index bytes 0) 0x5C first, e, not_equal (slice_index bytes 1) 0x78 x, place, less) refl

  line_refused : (rest : List ℕ) (at place c size : ℕ) (ps : List Decoded) → characters rest ≡ piece (Some c) size ∷ ps → line_end rest ≡ 0
      → line_part file quote at place (line_end rest) rest ≡ Err (fault_at file kind.BadEscape quote at)
  line_refused rest at place c size ps char none = rw (char, equal (line_end rest) 0 none) refl

  element_refused : (at : ℕ) (bytes : List ℕ) (f : Fault) → BadElement file quote at bytes f → string_part file quote bytes at ≡ Err f
  element_refused _ _ _ (bad.cut at bytes f inside first none cut) = cut_part bytes at f first none cut
  element_refused _ _ _ (bad.hex_cut at bytes n f first x digits cut) =
      let rest = characters (drop (2 + n) bytes) in
      hex_first bytes at n first x digits
      ∙ bind_err (char_here file quote (at + 2 + n) rest) (λ _. letter_or_fault file quote at (escape bytes)) f (cut_refused (at + 2 + n) rest f cut)
  element_refused _ _ _ (bad.no_hex at bytes n c size ps first x digits char none) = hex_first bytes at n first x digits ∙ hex_refused bytes at n c size ps char none
  element_refused _ _ _ (bad.blanks_cut at bytes before f first e x run cut) =
      let rest = drop (1 + before) bytes in
      let place = at + 1 + before in
      blanks_first bytes at before first e x run
      ∙ bind_err (char_here file quote place (characters rest))
      (λ _. cond (line_end rest == 0) (Err (fault_at file kind.BadEscape quote at)) (Ok (piece None (blanks_end (place + line_end rest) (characters (drop (line_end rest) rest)) - at)))) f
      (cut_refused place (characters rest) f cut)
  element_refused _ _ _ (bad.no_line at bytes before c size ps first e x run char none) =
      blanks_first bytes at before first e x run ∙ line_refused (drop (1 + before) bytes) at (at + 1 + before) c size ps char none

  abbrev BadRest : ℕ → List ℕ → Fault → Type 0
  BadRest at bytes f = BadBehind NextElement (BadElement file quote) at bytes f

  string_step : (k : ℕ) (out bytes : List ℕ) (at : ℕ) (f : Fault) (r : Result Decoded Fault) → length bytes < suc k → slice_index bytes 0 ≢ 0x22
      → ((longer rest : List ℕ) (place : ℕ) → length rest < k → string_from file quote k longer rest place ≡ Err f → BadRest place rest f)
      → Part bytes at r → (r >>= λ p. string_from file quote k (out ++ char_text p.char) (drop p.size bytes) (at + p.size)) ≡ Err f → BadRest at bytes f
  string_step k out bytes at f (Err g) enough inside further tells given =
      let same : g ≡ f = cc in
      behind.here at bytes f (subst (λ (h : Fault). BadElement file quote at bytes h) same tells)
  string_step k out bytes at f (Ok p) enough inside further tells given =
      let left = element_some file quote bytes p.char p.size tells in
      let rest = further (out ++ char_text p.char) (drop p.size bytes) (at + p.size) (omega (arith, left.0, left.1, length-drop p.size bytes)) given in
      behind.more at p.size bytes f (NextElement.element bytes p.char p.size inside tells) rest

  string_test : (k : ℕ) (out bytes : List ℕ) (at : ℕ) (f : Fault) (t : Bool) → length bytes < suc k → slice_index bytes 0 == 0x22 ≡ t
      → ((longer rest : List ℕ) (place : ℕ) → length rest < k → string_from file quote k longer rest place ≡ Err f → BadRest place rest f)
      → cond t (Ok (string_lexeme out quote (at + 1))) (string_part file quote bytes at >>= λ p. string_from file quote k (out ++ char_text p.char) (drop p.size bytes) (at + p.size)) ≡ Err f
      → BadRest at bytes f
  string_test k out bytes at f true enough first further given = absurd (cc)
  string_test k out bytes at f false enough first further given =
      let inside = differs (slice_index bytes 0) 0x22 first in
      string_step k out bytes at f (string_part file quote bytes at) enough inside further (part_tells bytes at inside) given

  string_blamed : (k : ℕ) (out bytes : List ℕ) (at : ℕ) (f : Fault) → length bytes < k → string_from file quote k out bytes at ≡ Err f → BadRest at bytes f
  unfolding string_from
  string_blamed zero out bytes at f enough given = absurd (omega arith)
  string_blamed (suc k) out bytes at f enough given =
      string_test k out bytes at f (slice_index bytes 0 == 0x22) enough refl (λ longer rest place fewer e. string_blamed k longer rest place f fewer e) given

  stops_here : (bytes out : List ℕ) (k at : ℕ) (f : Fault) → length bytes < k → BadElement file quote at bytes f → string_from file quote k out bytes at ≡ Err f
  unfolding string_from
  stops_here bytes out zero at f enough bad = absurd (omega arith)
  stops_here bytes out (suc k) at f enough bad = rw (bad_goes_on at bytes f bad, element_refused at bytes f bad) refl

  stops_later : (bytes out : List ℕ) (k at size : ℕ) (char : Option ℕ) (f : Fault) → length bytes < k → slice_index bytes 0 ≢ 0x22 → StringElement bytes char size
      → ((longer : List ℕ) (j : ℕ) → length (drop size bytes) < j → string_from file quote j longer (drop size bytes) (at + size) ≡ Err f) → string_from file quote k out bytes at ≡ Err f
  unfolding string_from
  stops_later bytes out zero at size char f enough inside element further = absurd (omega arith)
  stops_later bytes out (suc k) at size char f enough inside element further =
      let left = element_some file quote bytes char size element in
      rw (not_equal (slice_index bytes 0) 0x22 inside, part_complete file quote bytes at char size element)
      (further (out ++ char_text char) k (omega (arith, left.0, left.1, length-drop size bytes)))

  after_element : (at size : ℕ) (bytes : List ℕ) (f : Fault) → NextElement bytes size
      → ((longer : List ℕ) (j : ℕ) → length (drop size bytes) < j → string_from file quote j longer (drop size bytes) (at + size) ≡ Err f)
      → (out : List ℕ) (k : ℕ) → length bytes < k → string_from file quote k out bytes at ≡ Err f
  after_element at _ _ f (NextElement.element bytes char size inside element) further out k enough = stops_later bytes out k at size char f enough inside element further

  string_refused : (at : ℕ) (bytes : List ℕ) (f : Fault) → BadRest at bytes f → (out : List ℕ) (k : ℕ) → length bytes < k → string_from file quote k out bytes at ≡ Err f
  string_refused _ _ _ (behind.here at bytes f bad) out k enough = stops_here bytes out k at f enough bad
  string_refused _ _ _ (behind.more at size bytes f part rest) out k enough =
      after_element at size bytes f part (λ longer j fewer. string_refused (at + size) (drop size bytes) f rest longer j fewer) out k enough

-- a string is refused exactly where it can't go on
pub string_faults_are : StringFaultsAre
string_faults_are file bytes at f = (
  λ e. string_blamed file at (suc (length (drop 1 bytes))) [] (drop 1 bytes) (at + 1) f (omega arith) e,
  λ b. string_refused file at (at + 1) (drop 1 bytes) f b [] (suc (length (drop 1 bytes))) (omega arith),
)
