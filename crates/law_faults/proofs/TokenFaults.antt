-- Tokens: what the definition refuses, and why.
use Rattle.std.proofs.Common.{◌≡◌, ◌≢◌, ℕ, zero, suc, ◌+◌, ◌-◌, ◌<◌, ◌≤◌, Bool, true, false, cond, List, [], ◌∷◌, length, take, drop, slice_index, Option, Some, None, Result, Ok, Err, refl, sym, ap, ◌∙◌, subst, arith, length-drop, drop-drop}
use Rattle.std.specs.Prelude.{◌==◌, ◌&&◌, ◌||◌, not, nat_lt, nat_eq, codes, is_none}
use Rattle.std.specs.List.{starts_with}
use Rattle.std.proofs.lemmas.Bool.{eqb-true}
use Rattle.std.proofs.lemmas.Bool.Decides.{nat_tests}
use Rattle.bstr.specs.Utf8.{Decoded, decoded}
use Rattle.base_data.specs.Gives.{◌>>=◌}
use Rattle.base_data.specs.declared.fault.Fault.{Fault}
use Rattle.base_data.specs.declared.fault.FaultKind.TheVariants as kind
use Rattle.base_data.proofs.Chars.{branch}
use Rattle.read_lexer.specs.Between.{Atmosphere, Gap, no_gap, whitespace_first}
use Rattle.read_lexer.specs.Characters.{character_at}
use Rattle.read_lexer.specs.Faults.{fault_at}
use Rattle.read_lexer.specs.Gap.{gap_end}
use Rattle.read_lexer.specs.Grammar.{Bare, CharacterRun, ends_bare, runs_first, hash_sign_of, is_special}
use Rattle.read_lexer.specs.Row.{PartRow}
use Rattle.read_lexer.specs.Strings.{string_at}
use Rattle.read_lexer.specs.Tokens.{next_lexeme, lexeme_behind, lexeme_at, hash_at, word_at, marked_at, unquoting, bare_at, bare_to, bare, bare_end, lexeme, is_number_mark, is_true, is_false}
use Rattle.read_lexer.specs.declared.token.Abbreviation.TheVariants as abbreviation
use Rattle.read_lexer.specs.declared.token.Lexeme.{Lexeme}
use Rattle.read_lexer.proofs.BareLemmas.{bare_is, part_some}
use Rattle.read_lexer.proofs.BetweenLemmas.{gaps_are, not_equal, equal}
use Rattle.read_lexer.proofs.StringLemmas.{differs, run_is, run_complete}
use Rattle.read_lexer.proofs.TokenLemmas.{tells}
use Rattle.read_spelling.specs.Source.{characters, piece}
use Rattle.read_spelling.specs.Whitespace.{is_delimited, is_delimiter, is_sign, is_whitespace, run_end, runs_on}
use Rattle.law_faults.specs.Bare.{BadBare, BadText}
use Rattle.law_faults.specs.Behind.{no_character}
use Rattle.law_faults.specs.Laws.{FaultsAre, OneFault}
use Rattle.law_faults.specs.Tokens.{NoHash, BadToken, GoesWrong}
use Rattle.law_faults.proofs.BareTexts.{backslashes_are, text_explained, text_refused, marked_faults_are}
use Rattle.law_faults.proofs.CharacterFaults.{character_faults_are}
use Rattle.law_faults.proofs.GapFaults.{gap_faults_are}
use Rattle.law_faults.proofs.Small.{first_byte, not_ascii, some_piece}
use Rattle.law_faults.proofs.StringFaults.{string_faults_are}
use Rattle.law_faults.proofs.Tests.{Explains, refuses, accepts, binds, bind_err, bind_ok, not_true}

-- a byte that begins no character comes first
record NoChar (bytes : List ℕ) : Type 0 where
  p : Decoded
  ps : List Decoded
  first : characters bytes ≡ p ∷ ps
  none : p.char ≡ None

four : (a b c d : Bool) → (not a && not b && not c && not d) ≡ true → (a ≡ false) × (d ≡ false)
four true b c d h = absurd (cc)
four false true c d h = absurd (cc)
four false false true d h = absurd (cc)
four false false false true h = absurd (cc)
four false false false false h = (refl, refl)

sign_special : (c : ℕ) → is_sign c ≡ true → is_special c ≡ false → c == 0x3B ≡ false → ⊥
sign_special c sign special semicolon =
    let test : ℕ → Bool = λ b. not (is_special b) in
    let passes : test c ≡ true = ap not special in
    let none : is_sign c ≡ false = rw (
      tells test c 0x28 passes refl,
      tells test c 0x29 passes refl,
      tells test c 0x5B passes refl,
      tells test c 0x5D passes refl,
      tells test c 0x22 passes refl,
      semicolon,
      tells test c 0x23 passes refl,
    ) refl in
    cc (sign, none)

sign_small : (c : ℕ) → is_sign c ≡ true → c < 0x80
sign_small c sign = grind (arith, nat_tests)

either : (a b : Bool) → (a || b) ≡ true → b ≡ false → a ≡ true
either true b h none = refl
either false b h none = absurd (cc)

runs_test : (t : Bool) → cond t false true ≡ false → t ≡ true
runs_test true h = refl
runs_test false h = absurd (cc)

module _ (bytes : List ℕ) where
  delimiter_first : (c size : ℕ) (ps : List Decoded) → characters bytes ≡ piece (Some c) size ∷ ps → is_special (slice_index bytes 0) ≡ false → slice_index bytes 0 == 0x3B ≡ false → is_whitespace c ≡ false
      → is_delimiter c ≡ true → ⊥
  delimiter_first c size ps e special semicolon white delimiter =
      let sign : is_sign c ≡ true = either (is_sign c) (is_whitespace c) delimiter white in
      let same : slice_index bytes 0 ≡ c = first_byte bytes c size ps e (sign_small c sign) in
      sign_special c sign (ap is_special (sym same) ∙ special) (ap (λ (k : ℕ). k == 0x3B) (sym same) ∙ semicolon)

  char_none : (char : Option ℕ) (size : ℕ) (ps : List Decoded) → characters bytes ≡ piece char size ∷ ps → is_special (slice_index bytes 0) ≡ false → slice_index bytes 0 == 0x3B ≡ false
      → whitespace_first (piece char size ∷ ps) ≡ false → runs_on char ≡ false → NoChar bytes
  char_none None size ps e special semicolon white runs = record { p = piece None size; ps = ps; first = e; none = refl }
  char_none (Some c) size ps e special semicolon white runs = absurd (delimiter_first c size ps e special semicolon white (runs_test (is_delimiter c) runs))

  -- where neither a gap nor a token begins, a byte begins no character
  no_char_here : 0 < length bytes → is_special (slice_index bytes 0) ≡ false → no_gap bytes ≡ true → runs_first (characters bytes) ≡ false → NoChar bytes
  no_char_here some special gap runs =
      let e = some_piece bytes some in
      let d = decoded bytes in
      let f = four (slice_index bytes 0 == 0x3B) (starts_with nat_eq bytes (codes "#|")) (starts_with nat_eq bytes (codes "#!r6rs") && is_delimited (characters (drop 6 bytes))) (whitespace_first (characters bytes)) gap in
      char_none d.char d.size (characters (drop d.size bytes)) e special f.0 (ap whitespace_first (sym e) ∙ f.1) (ap runs_first (sym e) ∙ runs)

two : (a b : Bool) → (not a && not b) ≡ true → b ≡ false
two true b h = absurd (cc)
two false true h = absurd (cc)
two false false h = refl

row_none : (bytes : List ℕ) (n : ℕ) → Bare bytes n → n ≡ 0 → runs_first (characters bytes) ≡ false
row_none _ _ (PartRow.none bytes ends) none = two (slice_index bytes 0 == 0x5C) (runs_first (characters bytes)) ends
row_none _ _ (PartRow.more bytes size n part rest) none = absurd (omega (arith, (part_some [] kind.BadEscape 0 bytes size part).0))

module _ (file : List ℕ) (at : ℕ) (bytes : List ℕ) where
  abbrev Bad : Fault → Type 0
  Bad = BadToken file at bytes

  abbrev Why : Result Lexeme Fault → Type 0
  Why r = Explains Bad r

  word_explained : slice_index bytes 0 ≡ 0x23 → hash_sign_of (slice_index bytes 1) ≡ None → slice_index bytes 1 ≢ 0x2C → slice_index bytes 1 ≢ 0x5C → is_number_mark (slice_index bytes 1) ≡ false
      → Why (word_at file bytes at)
  word_explained first no_sign no_comma no_backslash no_mark =
      let b = slice_index bytes 1 in
      let delimited = is_delimited (characters (drop 2 bytes)) in
      let run = run_is (at + 1) (characters (drop 1 bytes)) in
      branch Why (starts_with nat_eq bytes (codes "#vu8(")) (λ _. accepts Bad _) (λ no_bytes.
      branch Why (is_true b && delimited) (λ _. accepts Bad _) (λ no_true.
      branch Why (is_false b && delimited) (λ _. accepts Bad _) (λ no_false.
      let none : NoHash bytes = record { first = first; no_sign = no_sign; no_comma = no_comma; no_backslash = no_backslash; no_mark = no_mark; no_bytes = no_bytes; no_true = no_true; no_false = no_false } in
      rw run.1 (refuses Bad (fault_at file kind.BadToken at (at + 1 + run.0)) (BadToken.hash at bytes run.0 none run.2)))))

  no_sign_is : (b : ℕ) → b == 0x28 ≡ false → b == 0x3B ≡ false → b == 0x27 ≡ false → b == 0x60 ≡ false → hash_sign_of b ≡ None
  no_sign_is b e1 e2 e3 e4 = rw (e1, e2, e3, e4) refl

  hash_explained : slice_index bytes 0 ≡ 0x23 → Why (hash_at file bytes at)
  hash_explained first =
      let b = slice_index bytes 1 in
      branch Why (b == 0x28) (λ _. accepts Bad _) (λ e1.
      branch Why (b == 0x3B) (λ _. accepts Bad _) (λ e2.
      branch Why (b == 0x27) (λ _. accepts Bad _) (λ e3.
      branch Why (b == 0x60) (λ _. accepts Bad _) (λ e4.
      branch Why (b == 0x2C) (λ _. accepts Bad _) (λ e5.
      branch Why (b == 0x5C) (λ e. record { gives = λ f given. BadToken.character at bytes f first (eqb-true b 0x5C e) ((character_faults_are file bytes at f).0 given) }) (λ e6.
      branch Why (is_number_mark b) (λ e. record { gives = λ f given. BadToken.marked at bytes f first e ((marked_faults_are file bytes at f).0 given) })
      (λ e7. word_explained first (no_sign_is b e1 e2 e3 e4) (differs b 0x2C e5) (differs b 0x5C e6) e7)))))))

  text_why : (n to : ℕ) → is_special (slice_index bytes 0) ≡ false → Bare bytes n → to ≡ at + n → to == at ≡ false → Why (bare file (take (to - at) bytes) at to >>= λ t. Ok (lexeme t at to))
  text_why n to special run same some =
      let size : to - at ≡ n = omega (arith, same) in
      let text = take (to - at) bytes in
      let positive : 0 < n = grind (arith, nat_tests) in
      binds Bad (bare file text at to) (λ t. Ok (lexeme t at to))
      (λ f e.
      let bad : BadText file at to text f = (text_explained file at to text).gives f e in
      let moved : BadText file at (at + n) (take n bytes) f = subst (λ (k : ℕ). BadText file at (at + n) (take k bytes) f) size (subst (λ (k : ℕ). BadText file at k text f) same bad) in
      BadToken.bare at bytes f (BadBare.text at bytes n f special run positive moved))
      (λ t e. accepts Bad (lexeme t at to))

  bare_explained : is_special (slice_index bytes 0) ≡ false → 0 < length bytes → no_gap bytes ≡ true → Why (bare_at file bytes at)
  bare_explained special some gap =
      binds Bad (bare_end file kind.BadEscape at bytes at) (λ to. bare_to file bytes at to)
      (λ f e. BadToken.bare at bytes f (BadBare.bad_escape at bytes f special ((backslashes_are file kind.BadEscape at bytes at f).0 e)))
      (λ to e.
      let g = (bare_is file kind.BadEscape at bytes at to).0 e in
      branch Why (to == at)
      (λ none.
      let zero_size : g.0 ≡ 0 = omega (arith, g.1, eqb-true to at none) in
      let nothing = no_char_here bytes some special gap (row_none bytes g.0 g.2 zero_size) in
      refuses Bad (no_character file at) (BadToken.bare at bytes (no_character file at) (BadBare.no_char at bytes nothing.p nothing.ps nothing.first nothing.none)))
      (λ more. text_why g.0 to special g.2 g.1 more))

  token_explained : 0 < length bytes → no_gap bytes ≡ true → Why (lexeme_at file bytes at)
  token_explained some gap =
      let b = slice_index bytes 0 in
      branch Why (b == 0x28) (λ _. accepts Bad _) (λ e1.
      branch Why (b == 0x29) (λ _. accepts Bad _) (λ e2.
      branch Why (b == 0x5B) (λ _. accepts Bad _) (λ e3.
      branch Why (b == 0x5D) (λ _. accepts Bad _) (λ e4.
      branch Why (b == 0x27) (λ _. accepts Bad _) (λ e5.
      branch Why (b == 0x60) (λ _. accepts Bad _) (λ e6.
      branch Why (b == 0x2C) (λ _. accepts Bad _) (λ e7.
      branch Why (b == 0x22) (λ e. record { gives = λ f given. BadToken.string at bytes f (eqb-true b 0x22 e) ((string_faults_are file bytes at f).0 given) }) (λ e8.
      branch Why (b == 0x23) (λ e. hash_explained (eqb-true b 0x23 e)) (λ e9.
      bare_explained (rw (e1, e2, e3, e4, e5, e6, e7, e8, e9) refl) some gap)))))))))

  string_first : slice_index bytes 0 ≡ 0x22 → lexeme_at file bytes at ≡ string_at file bytes at
  string_first first = rw first refl

  hash_first : slice_index bytes 0 ≡ 0x23 → lexeme_at file bytes at ≡ hash_at file bytes at
  hash_first first = rw first refl

  character_first : slice_index bytes 0 ≡ 0x23 → slice_index bytes 1 ≡ 0x5C → lexeme_at file bytes at ≡ character_at file bytes at
  character_first first second = rw (first, second) refl

  mark_first : slice_index bytes 0 ≡ 0x23 → is_number_mark (slice_index bytes 1) ≡ true → lexeme_at file bytes at ≡ marked_at file bytes at
  mark_first first h =
      let x = slice_index bytes 1 in
      hash_first first ∙ rw (
        tells is_number_mark x 0x28 h refl,
        tells is_number_mark x 0x3B h refl,
        tells is_number_mark x 0x27 h refl,
        tells is_number_mark x 0x60 h refl,
        tells is_number_mark x 0x2C h refl,
        tells is_number_mark x 0x5C h refl,
        h,
      ) refl

  no_hash_sign : NoHash bytes → (c : ℕ) → is_none (hash_sign_of c) ≡ false → slice_index bytes 1 == c ≡ false
  no_hash_sign none c h = tells (λ b. is_none (hash_sign_of b)) (slice_index bytes 1) c (ap is_none none.no_sign) h

  word_first : NoHash bytes → lexeme_at file bytes at ≡ word_at file bytes at
  word_first none =
      let x = slice_index bytes 1 in
      hash_first none.first ∙ rw (
        no_hash_sign none 0x28 refl,
        no_hash_sign none 0x3B refl,
        no_hash_sign none 0x27 refl,
        no_hash_sign none 0x60 refl,
        not_equal x 0x2C none.no_comma,
        not_equal x 0x5C none.no_backslash,
        none.no_mark,
      ) refl

  word_refused : (n : ℕ) → NoHash bytes → CharacterRun runs_on (characters (drop 1 bytes)) n → lexeme_at file bytes at ≡ Err (fault_at file kind.BadToken at (at + 1 + n))
  word_refused n none run = word_first none ∙ rw (none.no_bytes, none.no_true, none.no_false, run_complete (at + 1) (characters (drop 1 bytes)) n run) refl

  bare_first : is_special (slice_index bytes 0) ≡ false → lexeme_at file bytes at ≡ bare_at file bytes at
  bare_first h =
      let x = slice_index bytes 0 in
      let test : ℕ → Bool = λ b. not (is_special b) in
      let passes : test x ≡ true = ap not h in
      rw (
        tells test x 0x28 passes refl,
        tells test x 0x29 passes refl,
        tells test x 0x5B passes refl,
        tells test x 0x5D passes refl,
        tells test x 0x27 passes refl,
        tells test x 0x60 passes refl,
        tells test x 0x2C passes refl,
        tells test x 0x22 passes refl,
        tells test x 0x23 passes refl,
      ) refl

  text_stops : (n to : ℕ) (f : Fault) → to ≡ at + n → 0 < n → Bare bytes n → BadText file at to (take n bytes) f → bare_at file bytes at ≡ Err f
  text_stops n to f same some run bad =
      let end = (bare_is file kind.BadEscape at bytes at to).1 (n, same, run) in
      let size : to - at ≡ n = omega (arith, same) in
      let further : to == at ≡ false = not_equal to at (λ e. omega (arith, e, some, same)) in
      bind_ok (bare_end file kind.BadEscape at bytes at) (λ to. bare_to file bytes at to) to end
      ∙ rw (further, size) (bind_err (bare file (take n bytes) at to) (λ t. Ok (lexeme t at to)) f (text_refused file at to (take n bytes) f bad))

  no_special : (b : ℕ) → nat_lt b 0x80 ≡ false → is_special b ≡ false
  no_special b h =
      let high : ℕ → Bool = λ c. not (nat_lt c 0x80) in
      let passes : high b ≡ true = ap not h in
      rw (
        tells high b 0x28 passes refl,
        tells high b 0x29 passes refl,
        tells high b 0x5B passes refl,
        tells high b 0x5D passes refl,
        tells high b 0x27 passes refl,
        tells high b 0x60 passes refl,
        tells high b 0x2C passes refl,
        tells high b 0x22 passes refl,
        tells high b 0x23 passes refl,
      ) refl

  no_backslash : (b : ℕ) → nat_lt b 0x80 ≡ false → b == 0x5C ≡ false
  no_backslash b h = tells (λ c. not (nat_lt c 0x80)) b 0x5C (ap not h) refl

  itself : (n : ℕ) → n == n ≡ true
  itself n = grind (arith, nat_tests)

  byte_ends : (p : Decoded) (ps : List Decoded) → characters bytes ≡ p ∷ ps → p.char ≡ None → nat_lt (slice_index bytes 0) 0x80 ≡ false → ends_bare bytes ≡ true
  byte_ends p ps e none high = rw (no_backslash (slice_index bytes 0) high, e, none) refl

  byte_stops : (p : Decoded) (ps : List Decoded) → characters bytes ≡ p ∷ ps → p.char ≡ None → lexeme_at file bytes at ≡ Err (no_character file at)
  byte_stops p ps e none =
      let high = not_ascii bytes p ps e none in
      let end = (bare_is file kind.BadEscape at bytes at at).1 (0, omega arith, PartRow.none bytes (byte_ends p ps e none high)) in
      bare_first (no_special (slice_index bytes 0) high)
      ∙ bind_ok (bare_end file kind.BadEscape at bytes at) (λ to. bare_to file bytes at to) at end
      ∙ rw (itself at) refl

bare_refused : (file : List ℕ) (at : ℕ) (bytes : List ℕ) (f : Fault) → BadBare file at bytes f → lexeme_at file bytes at ≡ Err f
bare_refused file _ _ _ (BadBare.bad_escape at bytes f special behind) =
    bare_first file at bytes special
    ∙ bind_err (bare_end file kind.BadEscape at bytes at) (λ to. bare_to file bytes at to) f ((backslashes_are file kind.BadEscape at bytes at f).1 behind)
bare_refused file _ _ _ (BadBare.no_char at bytes p ps e none) = byte_stops file at bytes p ps e none
bare_refused file _ _ _ (BadBare.text at bytes n f special run some bad) = bare_first file at bytes special ∙ text_stops file at bytes n (at + n) f refl some run bad

token_refused : (file : List ℕ) (at : ℕ) (bytes : List ℕ) (f : Fault) → BadToken file at bytes f → lexeme_at file bytes at ≡ Err f
token_refused file _ _ _ (BadToken.string at bytes f first bad) = string_first file at bytes first ∙ (string_faults_are file bytes at f).1 bad
token_refused file _ _ _ (BadToken.character at bytes f first second bad) = character_first file at bytes first second ∙ (character_faults_are file bytes at f).1 bad
token_refused file _ _ _ (BadToken.marked at bytes f first mark bad) = mark_first file at bytes first mark ∙ (marked_faults_are file bytes at f).1 bad
token_refused file _ _ _ (BadToken.hash at bytes n none run) = word_refused file at bytes n none run
token_refused file _ _ _ (BadToken.bare at bytes f bad) = bare_refused file at bytes f bad

-- behind a gap no other begins
gap_ends : (bytes : List ℕ) (n : ℕ) → Gap bytes n → no_gap (drop n bytes) ≡ true
gap_ends _ _ (PartRow.none bytes ends) = ends
gap_ends _ _ (PartRow.more bytes size n part rest) = ap no_gap (sym (drop-drop n size bytes)) ∙ gap_ends (drop size bytes) n rest

err_same : {A : Type 0} (f g : Fault) → ◌≡◌ {A = Result A Fault} (Err f) (Err g) → f ≡ g
err_same f g e = cc

module _ (file bytes : List ℕ) (at : ℕ) where
  token_goes : (from n : ℕ) (f : Fault) → from ≡ at + n → Gap (drop at bytes) n → 0 < length (drop from bytes) → (lexeme_at file (drop from bytes) from >>= λ l. Ok (Some l)) ≡ Err f → GoesWrong file bytes at f
  token_goes from n f same gap some given =
      let here : drop n (drop at bytes) ≡ drop from bytes = drop-drop n at bytes ∙ ap (λ (k : ℕ). drop k bytes) (sym same) in
      let nothing : no_gap (drop from bytes) ≡ true = ap no_gap (sym here) ∙ gap_ends (drop at bytes) n gap in
      let why = binds (BadToken file from (drop from bytes)) (lexeme_at file (drop from bytes) from) (λ l. Ok (Some l)) (λ g e. (token_explained file from (drop from bytes) some nothing).gives g e) (λ l e. accepts (BadToken file from (drop from bytes)) (Some l)) in
      let bad : BadToken file (at + n) (drop (at + n) bytes) f = subst (λ (k : ℕ). BadToken file k (drop k bytes) f) same (why.gives f given) in
      GoesWrong.behind_gap n f gap (omega (arith, some, same, length-drop from bytes)) bad

  positive : (n : ℕ) → n == 0 ≡ false → 0 < n
  positive n h = grind (arith, nat_tests)

  behind_goes : (from n : ℕ) (f : Fault) (t : Bool) → from ≡ at + n → Gap (drop at bytes) n → length (drop from bytes) == 0 ≡ t
      → cond t (Ok None) (lexeme_at file (drop from bytes) from >>= λ l. Ok (Some l)) ≡ Err f → GoesWrong file bytes at f
  behind_goes from n f true same gap some given = absurd (cc)
  behind_goes from n f false same gap some given = token_goes from n f same gap (positive (length (drop from bytes)) some) given

  goes_wrong : (f : Fault) (r : Result ℕ Fault) → gap_end file (drop at bytes) at ≡ r → (r >>= λ from. lexeme_behind file (drop from bytes) from) ≡ Err f → GoesWrong file bytes at f
  goes_wrong f (Err g) is given =
      let same : g ≡ f = err_same {A = Option Lexeme} g f given in
      GoesWrong.in_gap f ((gap_faults_are file (drop at bytes) at f).0 (is ∙ ap Err same))
  goes_wrong f (Ok from) is given =
      let g = (gaps_are file (drop at bytes) at from).0 is in
      behind_goes from g.0 f (length (drop from bytes) == 0) g.1 g.2 refl given

  is_refused : (f : Fault) → GoesWrong file bytes at f → next_lexeme file bytes at ≡ Err f
  is_refused _ (GoesWrong.in_gap f bad) = bind_err (gap_end file (drop at bytes) at) (λ from. lexeme_behind file (drop from bytes) from) f ((gap_faults_are file (drop at bytes) at f).1 bad)
  is_refused _ (GoesWrong.behind_gap n f gap more bad) =
      let from = at + n in
      let end = (gaps_are file (drop at bytes) at from).1 (n, refl, gap) in
      let some : length (drop from bytes) == 0 ≡ false = not_equal (length (drop from bytes)) 0 (λ e. omega (arith, e, more, length-drop from bytes)) in
      bind_ok (gap_end file (drop at bytes) at) (λ from. lexeme_behind file (drop from bytes) from) from end
      ∙ rw some (bind_err (lexeme_at file (drop from bytes) from) (λ l. Ok (Some l)) f (token_refused file from (drop from bytes) f bad))

-- the lexer refuses exactly what goes wrong
pub faults_are : FaultsAre
faults_are file bytes at f = (λ e. goes_wrong file bytes at f (gap_end file (drop at bytes) at) refl e, λ b. is_refused file bytes at f b)

-- with one fault at most
pub one_fault : OneFault
one_fault file bytes at f g p q = err_same {A = Option Lexeme} f g (sym (is_refused file bytes at f p) ∙ is_refused file bytes at g q)
