-- Gaps: what the definition refuses, and why.
use Rattle.std.proofs.Common.{◌≡◌, ℕ, zero, suc, ◌+◌, ◌-◌, Bool, true, false, cond, List, [], ◌∷◌, drop, slice_index, Option, Some, None, Result, Ok, Err, ◌⊎◌, inl, inr, refl, sym, ap, ◌∙◌, subst, arith}
use Rattle.std.specs.Prelude.{◌==◌, ◌&&◌, nat_eq, codes}
use Rattle.std.specs.List.{starts_with}
use Rattle.std.proofs.lemmas.Bool.{eqb-true}
use Rattle.bstr.specs.Utf8.{Decoded}
use Rattle.base_data.specs.declared.fault.Fault.{Fault}
use Rattle.base_data.proofs.Chars.{branch}
use Rattle.read_lexer.specs.Between.{Atmosphere, CommentLine, BlockComment, ends_comment}
use Rattle.read_lexer.specs.Gap.{rest_of_line, comment_from, atmosphere_end, ends_there}
use Rattle.read_lexer.specs.declared.gap.Until.TheVariants as until
use Rattle.read_lexer.proofs.BetweenLemmas.{line_sound, line_complete, block_sound, block_complete, left, right, not_equal, equal, first_ascii, starts_block, starts_mark, atmosphere_some}
use Rattle.read_spelling.specs.Source.{characters, piece}
use Rattle.read_spelling.specs.Whitespace.{is_whitespace, is_delimited, whitespace_end}
use Rattle.law_faults.specs.Gaps.{BadComment}
use Rattle.law_faults.specs.Laws.{GapFaultsAre}
use Rattle.law_faults.proofs.Blocks.{block_explained, block_refused}
use Rattle.law_faults.proofs.Lines.{line_explained, line_refused}
use Rattle.law_faults.proofs.Repeats.{stops_are}
use Rattle.law_faults.proofs.Small.{small}
use Rattle.law_faults.proofs.Tests.{Explains, Tells, told, blamed, knows, not_true}

comment_ends : (c : ℕ) → ends_there until.LineOrParagraphEnd (Some c) ≡ ends_comment c
comment_ends c = refl

-- a step stays, or goes over an atmosphere
abbrev Over : List ℕ → ℕ → ℕ → Type 0
Over bytes at to = (to ≡ at) ⊎ ((n : ℕ) × (to ≡ at + n) × Atmosphere bytes n)

whitespace_over : (bytes : List ℕ) (c size : ℕ) (ps : List Decoded) (at to : ℕ) (t : Bool) → characters bytes ≡ piece (Some c) size ∷ ps → is_whitespace c ≡ t → cond t (at + size) at ≡ to → Over bytes at to
whitespace_over bytes c size ps at to true e white given = inr (size, sym given, Atmosphere.whitespace bytes c size ps e white)
whitespace_over bytes c size ps at to false e white given = inl (sym given)

char_over : (bytes : List ℕ) (char : Option ℕ) (size : ℕ) (ps : List Decoded) (at to : ℕ) → characters bytes ≡ piece char size ∷ ps → whitespace_end at (piece char size ∷ ps) ≡ to → Over bytes at to
char_over bytes None size ps at to e given = inl (sym given)
char_over bytes (Some c) size ps at to e given = whitespace_over bytes c size ps at to (is_whitespace c) e refl given

text_over : (bytes : List ℕ) (text : List Decoded) (at to : ℕ) → characters bytes ≡ text → whitespace_end at text ≡ to → Over bytes at to
text_over bytes [] at to e given = inl (sym given)
text_over bytes (p ∷ ps) at to e given = char_over bytes p.char p.size ps at to e given

module _ (file : List ℕ) where
  abbrev Step : List ℕ → ℕ → Result ℕ Fault → Type 0
  Step bytes at r = Tells (Over bytes at) (BadComment file at bytes) r

  line_tells : (bytes : List ℕ) (at : ℕ) → slice_index bytes 0 ≡ 0x3B → Step bytes at (rest_of_line file until.LineOrParagraphEnd (at + 1) (characters (drop 1 bytes)))
  line_tells bytes at first =
      let text = characters (drop 1 bytes) in
      knows (Over bytes at) (BadComment file at bytes) (rest_of_line file until.LineOrParagraphEnd (at + 1) text)
      (λ to e.
      let r = line_sound file text (at + 1) to e in
      inr (1 + r.0, omega (arith, r.1), Atmosphere.line_comment bytes r.0 first r.2))
      (λ f e. BadComment.line at bytes f first ((line_explained file until.LineOrParagraphEnd ends_comment comment_ends text (at + 1)).gives f e))

  block_tells : (bytes : List ℕ) (at : ℕ) → starts_with nat_eq bytes (codes "#|") ≡ true → Step bytes at (comment_from file (at ∷ []) None (at + 2) (characters (drop 2 bytes)))
  block_tells bytes at starts =
      let text = characters (drop 2 bytes) in
      knows (Over bytes at) (BadComment file at bytes) (comment_from file (at ∷ []) None (at + 2) text)
      (λ to e.
      let r = block_sound file text (at ∷ []) 0 (at + 2) to refl e in
      inr (2 + r.0, omega (arith, r.1), Atmosphere.block_comment bytes r.0 starts r.2))
      (λ f e. BadComment.block at bytes f starts ((block_explained file text at [] (at + 2) (small (drop 2 bytes))).gives f e))

  step_tells : (bytes : List ℕ) (at : ℕ) → Step bytes at (atmosphere_end file bytes at)
  unfolding atmosphere_end
  step_tells bytes at =
      let P : Result ℕ Fault → Type 0 = Step bytes at in
      let starts = starts_with nat_eq bytes (codes "#!r6rs") in
      let delimited = is_delimited (characters (drop 6 bytes)) in
      branch P (slice_index bytes 0 == 0x3B) (λ e. line_tells bytes at (eqb-true (slice_index bytes 0) 0x3B e)) (λ _.
      branch P (starts_with nat_eq bytes (codes "#|")) (λ e. block_tells bytes at e) (λ _.
      branch P (starts && delimited) (λ e. inr (6, refl, Atmosphere.report_mark bytes (left starts delimited e) (right starts delimited e)))
      (λ _. text_over bytes (characters bytes) at (whitespace_end at (characters bytes)) refl refl)))

  step_over : (bytes : List ℕ) (at to : ℕ) → atmosphere_end file bytes at ≡ Ok to → Over bytes at to
  step_over bytes at to e = told (Over bytes at) (BadComment file at bytes) (atmosphere_end file bytes at) to e (step_tells bytes at)

  step_explained : (bytes : List ℕ) (at : ℕ) → Explains (BadComment file at bytes) (atmosphere_end file bytes at)
  step_explained bytes at = record { gives = λ f e. blamed (Over bytes at) (BadComment file at bytes) (atmosphere_end file bytes at) f e (step_tells bytes at) }

  abbrev Steps : List ℕ → ℕ → ℕ → Type 0
  Steps bytes at n = atmosphere_end file bytes at ≡ Ok (at + n)

  whitespace_steps : (bytes : List ℕ) (at c size : ℕ) (rest : List Decoded) → characters bytes ≡ piece (Some c) size ∷ rest → is_whitespace c ≡ true → Steps bytes at size
  unfolding atmosphere_end
  whitespace_steps bytes at c size rest e white =
      let no_line = not_equal (slice_index bytes 0) 0x3B (λ h. let same = first_ascii bytes c size 0x3B rest e h refl in cc (sym white, ap is_whitespace same)) in
      let no_block = not_true (starts_with nat_eq bytes (codes "#|")) (λ h. let same = first_ascii bytes c size 0x23 rest e (starts_block bytes h).0 refl in cc (sym white, ap is_whitespace same)) in
      let no_mark = not_true (starts_with nat_eq bytes (codes "#!r6rs")) (λ h. let same = first_ascii bytes c size 0x23 rest e (starts_mark bytes h).0 refl in cc (sym white, ap is_whitespace same)) in
      rw (no_line, no_block, no_mark, e, white) refl

  line_steps : (bytes : List ℕ) (at n : ℕ) → slice_index bytes 0 ≡ 0x3B → CommentLine (characters (drop 1 bytes)) n → Steps bytes at (1 + n)
  unfolding atmosphere_end
  line_steps bytes at n h line = rw (equal (slice_index bytes 0) 0x3B h) (line_complete file (characters (drop 1 bytes)) (at + 1) n line ∙ ap Ok (omega arith))

  no_line_here : (bytes : List ℕ) → slice_index bytes 0 ≡ 0x23 → slice_index bytes 0 == 0x3B ≡ false
  no_line_here bytes h = not_equal (slice_index bytes 0) 0x3B (λ e. omega (arith, h, e))

  block_steps : (bytes : List ℕ) (at n : ℕ) → starts_with nat_eq bytes (codes "#|") ≡ true → BlockComment 1 (characters (drop 2 bytes)) n → Steps bytes at (2 + n)
  unfolding atmosphere_end
  block_steps bytes at n h block =
      rw (no_line_here bytes (starts_block bytes h).0, h) (block_complete file 1 n (characters (drop 2 bytes)) block (at ∷ []) (at + 2) refl (omega arith) ∙ ap Ok (omega arith))

  mark_steps : (bytes : List ℕ) (at : ℕ) → starts_with nat_eq bytes (codes "#!r6rs") ≡ true → is_delimited (characters (drop 6 bytes)) ≡ true → Steps bytes at 6
  unfolding atmosphere_end
  mark_steps bytes at h delimited =
      let no_block = not_true (starts_with nat_eq bytes (codes "#|")) (λ e. omega (arith, (starts_mark bytes h).1, (starts_block bytes e).1)) in
      rw (no_line_here bytes (starts_mark bytes h).0, no_block, h, delimited) refl

  step_complete : (bytes : List ℕ) (at n : ℕ) → Atmosphere bytes n → Steps bytes at n
  step_complete _ at _ (Atmosphere.whitespace bytes c size rest e white) = whitespace_steps bytes at c size rest e white
  step_complete _ at _ (Atmosphere.line_comment bytes n h line) = line_steps bytes at n h line
  step_complete _ at _ (Atmosphere.block_comment bytes n h block) = block_steps bytes at n h block
  step_complete _ at _ (Atmosphere.report_mark bytes h delimited) = mark_steps bytes at h delimited

  line_stops : (bytes : List ℕ) (at : ℕ) (f : Fault) → slice_index bytes 0 ≡ 0x3B → rest_of_line file until.LineOrParagraphEnd (at + 1) (characters (drop 1 bytes)) ≡ Err f → atmosphere_end file bytes at ≡ Err f
  unfolding atmosphere_end
  line_stops bytes at f h e = rw (equal (slice_index bytes 0) 0x3B h) e

  block_stops : (bytes : List ℕ) (at : ℕ) (f : Fault) → starts_with nat_eq bytes (codes "#|") ≡ true → comment_from file (at ∷ []) None (at + 2) (characters (drop 2 bytes)) ≡ Err f → atmosphere_end file bytes at ≡ Err f
  unfolding atmosphere_end
  block_stops bytes at f h e = rw (no_line_here bytes (starts_block bytes h).0, h) e

  step_refused : (at : ℕ) (bytes : List ℕ) (f : Fault) → BadComment file at bytes f → atmosphere_end file bytes at ≡ Err f
  step_refused _ _ _ (BadComment.line at bytes f h line) = line_stops bytes at f h (line_refused file until.LineOrParagraphEnd ends_comment comment_ends (at + 1) (characters (drop 1 bytes)) f line)
  step_refused _ _ _ (BadComment.block at bytes f h block) = block_stops bytes at f h (block_refused file (at ∷ []) (at + 2) (characters (drop 2 bytes)) f block (small (drop 2 bytes)))

-- a gap is refused exactly in a comment
pub gap_faults_are : GapFaultsAre
gap_faults_are file bytes at f =
    stops_are (atmosphere_end file) Atmosphere (BadComment file) (step_over file) (step_complete file) atmosphere_some (step_explained file) (step_refused file) bytes at f
