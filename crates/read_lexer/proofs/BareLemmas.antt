-- The definition of a bare token's end gives exactly the row of its characters.
use Rattle.std.proofs.Common.{◌≡◌, ℕ, ◌+◌, ◌<◌, Bool, true, false, cond, List, [], ◌∷◌, length, take, drop, slice_index, Option, Some, None, Ok, inl, inr, refl, ap, arith}
use Rattle.std.specs.Prelude.{◌==◌, ◌&&◌, not, nat_lt, ◌↔◌}
use Rattle.std.proofs.lemmas.Bool.{eqb-true}
use Rattle.std.proofs.lemmas.Bool.Decides.{nat_tests}
use Rattle.bstr.specs.Utf8.{Decoded}
use Rattle.base_data.specs.declared.fault.FaultKind.{FaultKind}
use Rattle.read_lexer.specs.Grammar.{BarePart, Bare, ends_bare, runs_first}
use Rattle.read_lexer.specs.Tokens.{bare_step, bare_end, escape_end, char_end}
use Rattle.read_lexer.proofs.BetweenLemmas.{some_bytes, first_some, by_first, not_equal, equal}
use Rattle.read_lexer.proofs.RowLemmas.{StepsOver, row_is}
use Rattle.read_spelling.specs.Escapes.{escape, letter, scalar_of}
use Rattle.read_spelling.specs.Numbers.{digits_size}
use Rattle.read_spelling.specs.Source.{characters, piece}
use Rattle.read_spelling.specs.Whitespace.{is_delimiter}
use Rattle.read_spelling.specs.declared.escapes.Letter.{Letter}

abbrev size_of : Option Letter → ℕ
size_of None = 0
size_of (Some l) = l.size

letter_some : (size : ℕ) (char : Option ℕ) (l : Letter) → letter size char ≡ Some l → size ≡ l.size
letter_some size None l e = absurd (cc)
letter_some size (Some c) l e = ap size_of e

escape_test : (n : ℕ) (bytes : List ℕ) (l : Letter) (t : Bool) → cond t (letter (3 + n) (scalar_of (take n (drop 2 bytes)))) None ≡ Some l → 0 < l.size
escape_test n bytes l true e = omega (arith, letter_some (3 + n) (scalar_of (take n (drop 2 bytes))) l e)
escape_test n bytes l false e = absurd (cc)

-- an escape takes some bytes
pub escape_some : (bytes : List ℕ) (l : Letter) → escape bytes ≡ Some l → 0 < l.size
escape_some bytes l e =
    let n = digits_size 16 (drop 2 bytes) in
    escape_test n bytes l (slice_index bytes 1 == 0x78 && nat_lt 0 n && slice_index bytes (2 + n) == 0x3B) e

module _ (file : List ℕ) (bad : FaultKind) (from : ℕ) where
  escape_sound : (bytes : List ℕ) (at to : ℕ) (o : Option Letter) → slice_index bytes 0 ≡ 0x5C → escape bytes ≡ o → escape_end file bad from at o ≡ Ok to → StepsOver ends_bare BarePart bytes at to
  escape_sound bytes at to None first e given = absurd (cc)
  escape_sound bytes at to (Some l) first e given = inr (l.size, (cc), BarePart.escaped bytes l first e)

  char_test : (bytes : List ℕ) (c size : ℕ) (ps : List Decoded) (at to : ℕ) (t : Bool) → slice_index bytes 0 == 0x5C ≡ false → characters bytes ≡ piece (Some c) size ∷ ps
      → is_delimiter c ≡ t → cond (cond t false true) (at + size) at ≡ to → StepsOver ends_bare BarePart bytes at to
  char_test bytes c size ps at to true first e d given = inl ((cc), rw (first, e, d) refl)
  char_test bytes c size ps at to false first e d given = inr (size, (cc), BarePart.char bytes c size ps (λ h. grind (arith, nat_tests)) e d)

  char_sound : (bytes : List ℕ) (char : Option ℕ) (size : ℕ) (ps : List Decoded) (at to : ℕ) → slice_index bytes 0 == 0x5C ≡ false → characters bytes ≡ piece char size ∷ ps
      → char_end at (piece char size ∷ ps) ≡ to → StepsOver ends_bare BarePart bytes at to
  char_sound bytes None size ps at to first e given = inl ((cc), rw (first, e) refl)
  char_sound bytes (Some c) size ps at to first e given = char_test bytes c size ps at to (is_delimiter c) first e refl given

  plain_sound : (bytes : List ℕ) (text : List Decoded) (at to : ℕ) → slice_index bytes 0 == 0x5C ≡ false → characters bytes ≡ text → char_end at text ≡ to → StepsOver ends_bare BarePart bytes at to
  plain_sound bytes [] at to first e given = inl ((cc), rw (first, e) refl)
  plain_sound bytes (p ∷ ps) at to first e given = char_sound bytes p.char p.size ps at to first e given

  step_test : (bytes : List ℕ) (at to : ℕ) (t : Bool) → slice_index bytes 0 == 0x5C ≡ t → cond t (escape_end file bad from at (escape bytes)) (Ok (char_end at (characters bytes))) ≡ Ok to
      → StepsOver ends_bare BarePart bytes at to
  step_test bytes at to true first given = escape_sound bytes at to (escape bytes) (eqb-true (slice_index bytes 0) 0x5C first) refl given
  step_test bytes at to false first given =
      let same : char_end at (characters bytes) ≡ to = cc in
      plain_sound bytes (characters bytes) at to first refl same

  step_sound : (bytes : List ℕ) (at to : ℕ) → bare_step file bad from bytes at ≡ Ok to → StepsOver ends_bare BarePart bytes at to
  unfolding bare_step
  step_sound bytes at to given = step_test bytes at to (slice_index bytes 0 == 0x5C) refl given

  step_complete : (bytes : List ℕ) (at n : ℕ) → BarePart bytes n → bare_step file bad from bytes at ≡ Ok (at + n)
  unfolding bare_step
  step_complete _ at _ (BarePart.char bytes c size rest first e d) = rw (not_equal (slice_index bytes 0) 0x5C first, e, d) refl
  step_complete _ at _ (BarePart.escaped bytes l first e) = rw (equal (slice_index bytes 0) 0x5C first, e) refl

  two : (a b : Bool) → (not a && not b) ≡ true → (a ≡ false) × (b ≡ false)
  two true b h = absurd (cc)
  two false true h = absurd (cc)
  two false false h = (refl, refl)

  char_stays : (text : List Decoded) (at : ℕ) → runs_first text ≡ false → char_end at text ≡ at
  char_stays [] at h = refl
  char_stays (p ∷ ps) at h = rw h refl

  step_stays : (bytes : List ℕ) (at : ℕ) → ends_bare bytes ≡ true → bare_step file bad from bytes at ≡ Ok at
  unfolding bare_step
  step_stays bytes at h =
      let f = two (slice_index bytes 0 == 0x5C) (runs_first (characters bytes)) h in
      rw f.0 (ap Ok (char_stays (characters bytes) at f.1))

  pub part_some : (bytes : List ℕ) (n : ℕ) → BarePart bytes n → (0 < n) × (0 < length bytes)
  part_some _ _ (BarePart.char bytes c size rest first e d) = (first_some bytes c size rest e, some_bytes bytes (piece (Some c) size) rest e)
  part_some _ _ (BarePart.escaped bytes l first e) = (escape_some bytes l e, by_first bytes 0x5C (omega arith) first)

  -- a bare token ends exactly behind its characters and escapes
  pub bare_is : (bytes : List ℕ) (at to : ℕ) → (bare_end file bad from bytes at ≡ Ok to) ↔ ((n : ℕ) × (to ≡ at + n) × Bare bytes n)
  bare_is bytes at to = row_is (bare_step file bad from) ends_bare BarePart step_sound step_complete step_stays part_some bytes at to
