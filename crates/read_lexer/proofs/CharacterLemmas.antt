-- The definition of a character gives exactly what it spells.
use Rattle.std.proofs.Common.{◌≡◌, ℕ, ◌+◌, ◌-◌, ◌<◌, Bool, true, false, cond, List, [], ◌∷◌, take, drop, slice_index, Option, Some, None, Result, Ok, Err, refl, ap, ◌∙◌, subst, arith}
use Rattle.std.specs.Prelude.{◌==◌, ◌&&◌}
use Rattle.std.proofs.lemmas.Bool.{eqb-true}
use Rattle.std.proofs.lemmas.Bool.Decides.{nat_tests}
use Rattle.bstr.specs.Utf8.{Decoded}
use Rattle.base_data.specs.Gives.{◌>>=◌}
use Rattle.base_data.specs.declared.fault.Fault.{Fault}
use Rattle.base_data.specs.declared.fault.FaultKind.TheVariants as kind
use Rattle.read_lexer.specs.Grammar.{IsCharacter, SpellsCharacter, CharacterRun}
use Rattle.read_lexer.specs.Characters.{named, scalar_or_fault, hex_character, character_but, long_character, character_to, lexeme_of_char, character_end, character_with, character_behind, character_at}
use Rattle.read_lexer.specs.declared.token.Lexeme.{Lexeme}
use Rattle.read_lexer.proofs.BetweenLemmas.{left, right, not_equal, equal}
use Rattle.read_lexer.proofs.StringLemmas.{run_is, run_complete, lexeme_same, differs}
use Rattle.read_spelling.specs.Escapes.{scalar_of}
use Rattle.read_spelling.specs.Numbers.{is_digits}
use Rattle.read_spelling.specs.Source.{characters, piece}
use Rattle.read_spelling.specs.Whitespace.{is_delimited, runs_on}

pub number_same : (a b : ℕ) → ◌≡◌ {A = Result ℕ Fault} (Ok a) (Ok b) → a ≡ b
number_same a b e = cc

both : (a b : Bool) → a ≡ true → b ≡ true → (a && b) ≡ true
both a b p q = rw (p, q) refl

module _ (file : List ℕ) (from to : ℕ) where
  scalar_sound : (text : List ℕ) (d : ℕ) (o : Option ℕ) → named text ≡ None → slice_index text 0 ≡ 0x78 → is_digits 16 (drop 1 text) ≡ true → scalar_of (drop 1 text) ≡ o
      → scalar_or_fault file from to o ≡ Ok d → SpellsCharacter text d
  scalar_sound text d (Some c) n x h s given =
      let same : c ≡ d = number_same c d given in
      SpellsCharacter.by_number text d n x h (s ∙ ap Some same)
  scalar_sound text d None n x h s given = absurd (cc)

  hex_sound : (text : List ℕ) (d : ℕ) (t : Bool) → named text ≡ None → (slice_index text 0 == 0x78 && is_digits 16 (drop 1 text)) ≡ t
      → cond t (scalar_or_fault file from to (scalar_of (drop 1 text))) (Err (record { kind = kind.BadToken; span = record { file = file; from = from; to = to }; words = [] })) ≡ Ok d → SpellsCharacter text d
  hex_sound text d true n h given =
      scalar_sound text d (scalar_of (drop 1 text)) n (eqb-true (slice_index text 0) 0x78 (left (slice_index text 0 == 0x78) (is_digits 16 (drop 1 text)) h))
      (right (slice_index text 0 == 0x78) (is_digits 16 (drop 1 text)) h) refl given
  hex_sound text d false n h given = absurd (cc)

  name_sound : (text : List ℕ) (d : ℕ) (o : Option ℕ) → named text ≡ o → character_but file from to text o ≡ Ok d → SpellsCharacter text d
  name_sound text d (Some c) n given =
      let same : c ≡ d = number_same c d given in
      SpellsCharacter.by_name text d (n ∙ ap Some same)
  name_sound text d None n given = hex_sound text d (slice_index text 0 == 0x78 && is_digits 16 (drop 1 text)) n refl given

  spells_sound : (text : List ℕ) (d : ℕ) → long_character file from to text ≡ Ok d → SpellsCharacter text d
  spells_sound text d given = name_sound text d (named text) refl given

  number_complete : (text : List ℕ) (c : ℕ) → slice_index text 0 ≡ 0x78 → is_digits 16 (drop 1 text) ≡ true → scalar_of (drop 1 text) ≡ Some c → hex_character file from to text ≡ Ok c
  number_complete text c x h s = rw (both (slice_index text 0 == 0x78) (is_digits 16 (drop 1 text)) (equal (slice_index text 0) 0x78 x) h, s) refl

  spells_complete : (text : List ℕ) (c : ℕ) → SpellsCharacter text c → long_character file from to text ≡ Ok c
  spells_complete _ _ (SpellsCharacter.by_name text c n) = rw n refl
  spells_complete _ _ (SpellsCharacter.by_number text c n x h s) = rw n (number_complete text c x h s)

module _ (file : List ℕ) (bytes : List ℕ) (from : ℕ) where
  abbrev CharacterIs : Lexeme → Type 0
  CharacterIs l = (n : ℕ) × (c : ℕ) × (lexeme_of_char from (from + n) c ≡ l) × IsCharacter bytes n c

  end_is : (size n to : ℕ) → to ≡ from + 2 + size + n → to - from ≡ 2 + size + n
  end_is size n to e = omega (arith, e)

  one_or_long : (c size n to d : ℕ) (ps : List Decoded) (t : Bool) → characters (drop 2 bytes) ≡ piece (Some c) size ∷ ps → CharacterRun runs_on (characters (drop (2 + size) bytes)) n
      → to ≡ from + 2 + size + n → to == from + 2 + size ≡ t → is_delimited (characters (drop (to - from) bytes)) ≡ true
      → cond t (Ok c) (long_character file from to (drop 2 (take (to - from) bytes))) ≡ Ok d → (m : ℕ) × (to ≡ from + m) × IsCharacter bytes m d
  one_or_long c size n to d ps true first run is_to one delimited given =
      let none : n ≡ 0 = omega (arith, is_to, eqb-true to (from + 2 + size) one) in
      let size_is : to - from ≡ 2 + size = omega (arith, is_to, none) in
      let same : c ≡ d = number_same c d given in
      (2 + size, omega (arith, is_to, none), subst (λ (k : ℕ). IsCharacter bytes (2 + size) k) same (IsCharacter.one bytes c size ps first (rw none at run) (rw size_is at delimited)))
  one_or_long c size n to d ps false first run is_to one delimited given =
      let some : 0 < n = grind (arith, nat_tests, differs to (from + 2 + size) one) in
      let size_is : to - from ≡ 2 + size + n = end_is size n to is_to in
      (2 + size + n, omega (arith, is_to), IsCharacter.long bytes c size n d ps first run some (rw size_is at delimited) (spells_sound file from to (drop 2 (take (2 + size + n) bytes)) d (rw size_is at given)))

  to_sound : (c size n to d : ℕ) (ps : List Decoded) (t : Bool) → characters (drop 2 bytes) ≡ piece (Some c) size ∷ ps → CharacterRun runs_on (characters (drop (2 + size) bytes)) n
      → to ≡ from + 2 + size + n → is_delimited (characters (drop (to - from) bytes)) ≡ t
      → cond t (cond (to == from + 2 + size) (Ok c) (long_character file from to (drop 2 (take (to - from) bytes))))
      (Err (record { kind = kind.BadToken; span = record { file = file; from = from; to = to }; words = [] })) ≡ Ok d → (m : ℕ) × (to ≡ from + m) × IsCharacter bytes m d
  to_sound c size n to d ps true first run is_to delimited given = one_or_long c size n to d ps (to == from + 2 + size) first run is_to refl delimited given
  to_sound c size n to d ps false first run is_to delimited given = absurd (cc)

  with_result : (c size n to : ℕ) (ps : List Decoded) (l : Lexeme) (r : Result ℕ Fault) → characters (drop 2 bytes) ≡ piece (Some c) size ∷ ps → CharacterRun runs_on (characters (drop (2 + size) bytes)) n
      → to ≡ from + 2 + size + n → character_to file bytes from c size to ≡ r → (r >>= λ d. Ok (lexeme_of_char from to d)) ≡ Ok l → CharacterIs l
  with_result c size n to ps l (Err f) first run is_to is given = absurd (cc)
  with_result c size n to ps l (Ok d) first run is_to is given =
      let m = to_sound c size n to d ps (is_delimited (characters (drop (to - from) bytes))) first run is_to refl is in
      (m.0, d, rw (← m.1) (lexeme_same (lexeme_of_char from to d) l given), m.2)

  with_sound : (char : Option ℕ) (size : ℕ) (ps : List Decoded) (l : Lexeme) → characters (drop 2 bytes) ≡ piece char size ∷ ps → character_with file bytes from char size ≡ Ok l → CharacterIs l
  with_sound None size ps l first given = absurd (cc)
  with_sound (Some c) size ps l first given =
      let run = run_is (from + 2 + size) (characters (drop (2 + size) bytes)) in
      let to = character_end bytes from size in
      with_result c size run.0 to ps l (character_to file bytes from c size to) first run.2 run.1 refl given

  behind_sound : (text : List Decoded) (l : Lexeme) → characters (drop 2 bytes) ≡ text → character_behind file bytes from text ≡ Ok l → CharacterIs l
  behind_sound [] l e given = absurd (cc)
  behind_sound (p ∷ ps) l e given = with_sound p.char p.size ps l e given

  pub character_sound : (l : Lexeme) → character_at file bytes from ≡ Ok l → CharacterIs l
  character_sound l given = behind_sound (characters (drop 2 bytes)) l refl given

  to_complete : (c size n to d : ℕ) → to - from ≡ 2 + size + n → to == from + 2 + size ≡ false → is_delimited (characters (drop (2 + size + n) bytes)) ≡ true
      → SpellsCharacter (drop 2 (take (2 + size + n) bytes)) d → character_to file bytes from c size to ≡ Ok d
  to_complete c size n to d size_is some delimited spells = rw (size_is, delimited, some) (spells_complete file from to (drop 2 (take (2 + size + n) bytes)) d spells)

  one_complete : (c size to : ℕ) → to - from ≡ 2 + size → to == from + 2 + size ≡ true → is_delimited (characters (drop (2 + size) bytes)) ≡ true → character_to file bytes from c size to ≡ Ok c
  one_complete c size to size_is one delimited = rw (size_is, delimited, one) refl

  with_complete : (c size to d : ℕ) (ps : List Decoded) → characters (drop 2 bytes) ≡ piece (Some c) size ∷ ps → character_end bytes from size ≡ to → character_to file bytes from c size to ≡ Ok d
      → character_at file bytes from ≡ Ok (lexeme_of_char from to d)
  with_complete c size to d ps first end given = rw (first, end, given) refl

pub character_complete : (file bytes : List ℕ) (from n c : ℕ) → IsCharacter bytes n c → character_at file bytes from ≡ Ok (lexeme_of_char from (from + n) c)
character_complete file _ from _ _ (IsCharacter.one bytes c size ps first run delimited) =
    let to = from + (2 + size) in
    let end : character_end bytes from size ≡ to = run_complete (from + 2 + size) (characters (drop (2 + size) bytes)) 0 run ∙ omega arith in
    let here : to == from + 2 + size ≡ true = equal to (from + 2 + size) (omega arith) in
    with_complete file bytes from c size to c ps first end (one_complete file bytes from c size to (omega arith) here delimited)
character_complete file _ from _ _ (IsCharacter.long bytes c size n d ps first run some delimited spells) =
    let to = from + (2 + size + n) in
    let end : character_end bytes from size ≡ to = run_complete (from + 2 + size) (characters (drop (2 + size) bytes)) n run ∙ omega arith in
    let further : to == from + 2 + size ≡ false = not_equal to (from + 2 + size) (λ e. omega (arith, e)) in
    with_complete file bytes from c size to d ps first end (to_complete file bytes from c size n to d (omega arith) further delimited spells)
