-- Characters: what the definition refuses, and why.
use Rattle.std.proofs.Common.{◌≡◌, ℕ, ◌+◌, ◌-◌, ◌<◌, Bool, true, false, cond, List, [], ◌∷◌, take, drop, slice_index, Option, Some, None, Result, Ok, Err, refl, sym, ap, ◌∙◌, subst, arith}
use Rattle.std.specs.Prelude.{◌==◌, ◌&&◌}
use Rattle.std.proofs.lemmas.Bool.{eqb-true}
use Rattle.std.proofs.lemmas.Bool.Decides.{nat_tests}
use Rattle.bstr.specs.Utf8.{Decoded}
use Rattle.base_data.specs.Gives.{◌>>=◌}
use Rattle.base_data.specs.declared.fault.Fault.{Fault}
use Rattle.base_data.specs.declared.fault.FaultKind.{FaultKind}
use Rattle.base_data.specs.declared.fault.FaultKind.TheVariants as kind
use Rattle.base_data.proofs.Chars.{branch}
use Rattle.read_lexer.specs.Characters.{named, scalar_or_fault, hex_character, character_but, long_character, character_to, lexeme_of_char, character_end, character_with, character_behind, character_at}
use Rattle.read_lexer.specs.Faults.{fault_at}
use Rattle.read_lexer.specs.Grammar.{CharacterRun}
use Rattle.read_lexer.specs.declared.token.Lexeme.{Lexeme}
use Rattle.read_lexer.proofs.BetweenLemmas.{left, right, not_equal, equal}
use Rattle.read_lexer.proofs.StringLemmas.{run_is, run_complete, differs}
use Rattle.read_spelling.specs.Escapes.{scalar_of}
use Rattle.read_spelling.specs.Numbers.{is_digits}
use Rattle.read_spelling.specs.Source.{characters, piece}
use Rattle.read_spelling.specs.Whitespace.{is_delimited, runs_on}
use Rattle.law_faults.specs.Characters.{WholeCharacter, text_of, BadCharacter}
use Rattle.law_faults.specs.Characters as bad
use Rattle.law_faults.specs.Laws.{CharacterFaultsAre}
use Rattle.law_faults.proofs.Tests.{Explains, refuses, accepts, binds, bind_err, both}

not_zero : (a n to : ℕ) → to ≡ a + n → to == a ≡ false → 0 < n
not_zero a n to same h = grind (arith, nat_tests)

not_same : (a n to : ℕ) → to ≡ a + n → 0 < n → to == a ≡ false
not_same a n to same some = grind (arith, nat_tests)

module _ (file : List ℕ) (bytes : List ℕ) (at size n : ℕ) (whole : WholeCharacter bytes size n) where
  abbrev end_at : ℕ
  end_at = at + 2 + size + n

  abbrev text : List ℕ
  text = text_of bytes size n

  abbrev Why : {A : Type 0} → Result A Fault → Type 0
  Why r = Explains (BadCharacter file at bytes) r

  abbrev delimited : Bool
  delimited = is_delimited (characters (drop (2 + size + n) bytes))

  scalar_explained : (o : Option ℕ) → 0 < n → delimited ≡ true → named text ≡ None → slice_index text 0 ≡ 0x78 → is_digits 16 (drop 1 text) ≡ true → scalar_of (drop 1 text) ≡ o
      → Why (scalar_or_fault file at end_at o)
  scalar_explained (Some c) some d unnamed x digits e = accepts (BadCharacter file at bytes) c
  scalar_explained None some d unnamed x digits e = refuses (BadCharacter file at bytes) (fault_at file kind.BadEscape at end_at) (bad.no_scalar at bytes size n whole some d unnamed x digits e)

  long_explained : (o : Option ℕ) → 0 < n → delimited ≡ true → named text ≡ o → Why (character_but file at end_at text o)
  long_explained (Some c) some d e = accepts (BadCharacter file at bytes) c
  long_explained None some d e =
      let x = slice_index text 0 == 0x78 in
      let digits = is_digits 16 (drop 1 text) in
      branch Why (x && digits) (λ h. scalar_explained (scalar_of (drop 1 text)) some d e (eqb-true (slice_index text 0) 0x78 (left x digits h)) (right x digits h) refl)
      (λ h. refuses (BadCharacter file at bytes) (fault_at file kind.BadToken at end_at) (bad.unknown at bytes size n whole some d e h))

  end_explained : (c to : ℕ) → to ≡ end_at → Why (cond delimited (cond (to == at + 2 + size) (Ok c) (long_character file at end_at text)) (Err (fault_at file kind.BadToken at end_at)))
  end_explained c to same =
      branch Why delimited
      (λ d. branch Why (to == at + 2 + size) (λ _. accepts (BadCharacter file at bytes) c) (λ e. long_explained (named text) (not_zero (at + 2 + size) n to same e) d refl))
      (λ d. refuses (BadCharacter file at bytes) (fault_at file kind.BadToken at end_at) (bad.undelimited at bytes size n whole d))

  to_explained : (c to : ℕ) → to ≡ end_at → Why (character_to file bytes at c size to)
  to_explained c to same =
      let size_is : to - at ≡ 2 + size + n = omega (arith, same) in
      rw (size_is, same) (rw same at (end_explained c to same))

  undelimited_refused : (c to : ℕ) → to ≡ end_at → delimited ≡ false → character_to file bytes at c size to ≡ Err (fault_at file kind.BadToken at end_at)
  undelimited_refused c to same d =
      let size_is : to - at ≡ 2 + size + n = omega (arith, same) in
      rw (size_is, d, same) refl

  long_refused : (c to : ℕ) → to ≡ end_at → 0 < n → delimited ≡ true → (f : Fault) → long_character file at to text ≡ Err f → character_to file bytes at c size to ≡ Err f
  long_refused c to same some d f e =
      let size_is : to - at ≡ 2 + size + n = omega (arith, same) in
      rw (size_is, d, not_same (at + 2 + size) n to same some) e

  unknown_refused : (to : ℕ) → named text ≡ None → (slice_index text 0 == 0x78 && is_digits 16 (drop 1 text)) ≡ false → long_character file at to text ≡ Err (fault_at file kind.BadToken at to)
  unknown_refused to unnamed h = rw (unnamed, h) refl

  scalar_refused : (to : ℕ) → named text ≡ None → slice_index text 0 ≡ 0x78 → is_digits 16 (drop 1 text) ≡ true → scalar_of (drop 1 text) ≡ None
      → long_character file at to text ≡ Err (fault_at file kind.BadEscape at to)
  scalar_refused to unnamed x digits e = rw (unnamed, both (slice_index text 0 == 0x78) (is_digits 16 (drop 1 text)) (equal (slice_index text 0) 0x78 x) digits, e) refl

  -- what comes of the whole is what comes of the character
  behind_whole : (f : Fault) → character_to file bytes at whole.char size end_at ≡ Err f → character_at file bytes at ≡ Err f
  behind_whole f given =
      let end = run_complete (at + 2 + size) (characters (drop (2 + size) bytes)) n whole.run in
      rw (whole.first, end, given) refl

module _ (file : List ℕ) (bytes : List ℕ) (at : ℕ) where
  char_explained : (char : Option ℕ) (size : ℕ) (ps : List Decoded) → characters (drop 2 bytes) ≡ piece char size ∷ ps → Explains (BadCharacter file at bytes) (character_with file bytes at char size)
  char_explained None size ps e = refuses (BadCharacter file at bytes) (fault_at file kind.BadUtf8 (at + 2) (at + 3)) (bad.no_char at bytes (piece None size) ps e refl)
  char_explained (Some c) size ps e =
      let run = run_is (at + 2 + size) (characters (drop (2 + size) bytes)) in
      let to = character_end bytes at size in
      let whole : WholeCharacter bytes size run.0 = record { char = c; rest = ps; first = e; run = run.2 } in
      let explained = to_explained file bytes at size run.0 whole c to run.1 in
      binds (BadCharacter file at bytes) (character_to file bytes at c size to) (λ d. Ok (lexeme_of_char at to d)) (λ f given. explained.gives f given) (λ d given. accepts (BadCharacter file at bytes) (lexeme_of_char at to d))

  text_explained : (text : List Decoded) → characters (drop 2 bytes) ≡ text → Explains (BadCharacter file at bytes) (character_behind file bytes at text)
  text_explained [] e = refuses (BadCharacter file at bytes) (fault_at file kind.BadToken at (at + 2)) (bad.source_end at bytes e)
  text_explained (p ∷ ps) e = char_explained p.char p.size ps e

  nothing_refused : characters (drop 2 bytes) ≡ [] → character_at file bytes at ≡ Err (fault_at file kind.BadToken at (at + 2))
  nothing_refused e = rw e refl

  byte_refused : (p : Decoded) (ps : List Decoded) → characters (drop 2 bytes) ≡ p ∷ ps → p.char ≡ None → character_at file bytes at ≡ Err (fault_at file kind.BadUtf8 (at + 2) (at + 3))
  byte_refused p ps e none = rw (e, none) refl

character_refused : (file : List ℕ) (at : ℕ) (bytes : List ℕ) (f : Fault) → BadCharacter file at bytes f → character_at file bytes at ≡ Err f
character_refused file _ _ _ (bad.source_end at bytes e) = nothing_refused file bytes at e
character_refused file _ _ _ (bad.no_char at bytes p ps e none) = byte_refused file bytes at p ps e none
character_refused file _ _ _ (bad.undelimited at bytes size n whole d) =
    let to = at + 2 + size + n in
    behind_whole file bytes at size n whole (fault_at file kind.BadToken at to) (undelimited_refused file bytes at size n whole whole.char to refl d)
character_refused file _ _ _ (bad.unknown at bytes size n whole some d unnamed h) =
    let to = at + 2 + size + n in
    let f = fault_at file kind.BadToken at to in
    behind_whole file bytes at size n whole f (long_refused file bytes at size n whole whole.char to refl some d f (unknown_refused file bytes at size n whole to unnamed h))
character_refused file _ _ _ (bad.no_scalar at bytes size n whole some d unnamed x digits e) =
    let to = at + 2 + size + n in
    let f = fault_at file kind.BadEscape at to in
    behind_whole file bytes at size n whole f (long_refused file bytes at size n whole whole.char to refl some d f (scalar_refused file bytes at size n whole to unnamed x digits e))

-- a character is refused exactly so
pub character_faults_are : CharacterFaultsAre
character_faults_are file bytes at f = (λ e. (text_explained file bytes at (characters (drop 2 bytes)) refl).gives f e, λ b. character_refused file at bytes f b)
