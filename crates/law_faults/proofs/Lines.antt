-- Lines, and the start of a source that is skipped.
use Rattle.std.proofs.Common.{◌≡◌, ℕ, ◌+◌, Bool, true, false, cond, List, [], ◌∷◌, drop, Option, Some, None, Result, Ok, Err, refl, sym, ap, ◌∙◌, subst, arith}
use Rattle.std.specs.Prelude.{is_none, nat_eq}
use Rattle.std.specs.List.{starts_with}
use Rattle.bstr.specs.Utf8.{Decoded}
use Rattle.base_data.specs.declared.fault.Fault.{Fault}
use Rattle.base_data.proofs.Chars.{branch}
use Rattle.read_lexer.specs.Gap.{rest_of_line, ends_there}
use Rattle.read_lexer.specs.Start.{start_of, mark_end, run_line_end, is_run_line, byte_order_mark}
use Rattle.read_lexer.specs.declared.gap.Until.{Until}
use Rattle.read_lexer.specs.declared.gap.Until.TheVariants as until
use Rattle.read_lexer.proofs.CharacterLemmas.{number_same}
use Rattle.read_spelling.specs.Source.{characters, piece}
use Rattle.read_spelling.specs.Whitespace.{ends_line}
use Rattle.law_faults.specs.Behind.{no_character}
use Rattle.law_faults.specs.Gaps.{BadLine}
use Rattle.law_faults.specs.Laws.{StartsAre, StartFaultsAre}
use Rattle.law_faults.specs.Start.{SourceLine, RunLine, Start, BadStart}
use Rattle.law_faults.proofs.Tests.{Explains, refuses, accepts, no_char}

module _ (file : List ℕ) (u : Until) (ends : ℕ → Bool) (same : (c : ℕ) → ends_there u (Some c) ≡ ends c) where
  line_char : (char : Option ℕ) (size at : ℕ) (ps : List Decoded) → Explains (BadLine file ends (at + size) ps) (rest_of_line file u (at + size) ps)
      → Explains (BadLine file ends at (piece char size ∷ ps)) (rest_of_line file u at (piece char size ∷ ps))
  line_char None size at ps further = refuses (BadLine file ends at (piece None size ∷ ps)) (no_character file at) (BadLine.no_char at (piece None size) ps refl)
  line_char (Some c) size at ps further =
      branch (Explains (BadLine file ends at (piece (Some c) size ∷ ps))) (ends_there u (Some c)) (λ e. accepts (BadLine file ends at (piece (Some c) size ∷ ps)) at)
      (λ e. record { gives = λ f given. BadLine.char at c size ps f (sym (same c) ∙ e) (further.gives f given) })

  pub line_explained : (text : List Decoded) (at : ℕ) → Explains (BadLine file ends at text) (rest_of_line file u at text)
  line_explained [] at = accepts (BadLine file ends at []) at
  line_explained (p ∷ ps) at = line_char p.char p.size at ps (line_explained ps (at + p.size))

  pub line_refused : (at : ℕ) (text : List Decoded) (f : Fault) → BadLine file ends at text f → rest_of_line file u at text ≡ Err f
  line_refused at _ _ (BadLine.no_char _ p rest none) = rw none refl
  line_refused at _ _ (BadLine.char _ c size rest f goes more) = rw (same c ∙ goes) (line_refused (at + size) rest f more)

module _ (file : List ℕ) where
  abbrev LineTo : ℕ → ℕ → List Decoded → Type 0
  LineTo at to text = (n : ℕ) × (to ≡ at + n) × SourceLine text n

  run_test : (c size : ℕ) (ps : List Decoded) (at to : ℕ) (t : Bool) → ends_line c ≡ t
      → (rest_of_line file until.LineEnd (at + size) ps ≡ Ok to → LineTo (at + size) to ps)
      → cond t (Ok at) (rest_of_line file until.LineEnd (at + size) ps) ≡ Ok to → LineTo at to (piece (Some c) size ∷ ps)
  run_test c size ps at to true is further e = (0, omega (arith, number_same at to e), SourceLine.line_end c size ps is)
  run_test c size ps at to false is further e =
      let r = further e in
      (size + r.0, omega (arith, r.1), SourceLine.char c size r.0 ps is r.2)

  run_char : (char : Option ℕ) (size : ℕ) (ps : List Decoded) (at to : ℕ)
      → (rest_of_line file until.LineEnd (at + size) ps ≡ Ok to → LineTo (at + size) to ps)
      → rest_of_line file until.LineEnd at (piece char size ∷ ps) ≡ Ok to → LineTo at to (piece char size ∷ ps)
  run_char None size ps at to further e = absurd (cc)
  run_char (Some c) size ps at to further e = run_test c size ps at to (ends_line c) refl further e

  run_sound : (text : List Decoded) (at to : ℕ) → rest_of_line file until.LineEnd at text ≡ Ok to → LineTo at to text
  run_sound [] at to e = (0, omega (arith, number_same at to e), SourceLine.source_end)
  run_sound (p ∷ ps) at to e = run_char p.char p.size ps at to (run_sound ps (at + p.size) to) e

  run_complete : (text : List Decoded) (at n : ℕ) → SourceLine text n → rest_of_line file until.LineEnd at text ≡ Ok (at + n)
  run_complete _ at _ SourceLine.source_end = ap Ok (omega arith)
  run_complete _ at _ (SourceLine.line_end c size rest ends) = rw ends (ap Ok (omega arith))
  run_complete _ at _ (SourceLine.char c size n rest goes more) = rw goes (run_complete rest (at + size) n more ∙ ap Ok (omega arith))

  abbrev RunTo : ℕ → ℕ → List ℕ → Type 0
  RunTo at to bytes = (n : ℕ) × (to ≡ at + n) × RunLine bytes n

  line_test : (bytes : List ℕ) (at to : ℕ) (t : Bool) → is_run_line bytes ≡ t → cond t (rest_of_line file until.LineEnd at (characters bytes)) (Ok at) ≡ Ok to → RunTo at to bytes
  line_test bytes at to true is e =
      let r = run_sound (characters bytes) at to e in
      (r.0, r.1, RunLine.line bytes r.0 is r.2)
  line_test bytes at to false is e = (0, omega (arith, number_same at to e), RunLine.none bytes is)

  line_complete : (bytes : List ℕ) (at n : ℕ) → RunLine bytes n → run_line_end file at bytes ≡ Ok (at + n)
  line_complete _ at _ (RunLine.none bytes is) = rw is (ap Ok (omega arith))
  line_complete _ at _ (RunLine.line bytes n is line) = rw is (run_complete (characters bytes) at n line)

  mark_test : (bytes : List ℕ) (n : ℕ) (t : Bool) → starts_with nat_eq bytes byte_order_mark ≡ t → run_line_end file (cond t 3 0) (drop (cond t 3 0) bytes) ≡ Ok n → Start bytes n
  mark_test bytes n true is e =
      let r = line_test (drop 3 bytes) 3 n (is_run_line (drop 3 bytes)) refl e in
      subst (λ (k : ℕ). Start bytes k) (sym r.1) (Start.marked bytes r.0 is r.2)
  mark_test bytes n false is e =
      let r = line_test bytes 0 n (is_run_line bytes) refl e in
      let same : r.0 ≡ n = omega (arith, r.1) in
      subst (λ (k : ℕ). Start bytes k) same (Start.unmarked bytes r.0 is r.2)

  start_complete : (bytes : List ℕ) (n : ℕ) → Start bytes n → start_of file bytes ≡ Ok n
  start_complete _ _ (Start.marked bytes n is run) = rw is (line_complete (drop 3 bytes) 3 n run)
  start_complete _ _ (Start.unmarked bytes n is run) = rw is (line_complete bytes 0 n run ∙ ap Ok (omega arith))

  line_ends : (c : ℕ) → ends_there until.LineEnd (Some c) ≡ ends_line c
  line_ends c = refl

  marked_test : (bytes : List ℕ) (t : Bool) → starts_with nat_eq bytes byte_order_mark ≡ t → Explains (BadStart file bytes) (run_line_end file (cond t 3 0) (drop (cond t 3 0) bytes))
  marked_test bytes true is =
      branch (Explains (BadStart file bytes)) (is_run_line (drop 3 bytes))
      (λ run. record { gives = λ f e. BadStart.marked bytes f is run ((line_explained file until.LineEnd ends_line line_ends (characters (drop 3 bytes)) 3).gives f e) })
      (λ run. accepts (BadStart file bytes) 3)
  marked_test bytes false is =
      branch (Explains (BadStart file bytes)) (is_run_line bytes)
      (λ run. record { gives = λ f e. BadStart.unmarked bytes f is run ((line_explained file until.LineEnd ends_line line_ends (characters bytes) 0).gives f e) })
      (λ run. accepts (BadStart file bytes) 0)

  start_refused : (bytes : List ℕ) (f : Fault) → BadStart file bytes f → start_of file bytes ≡ Err f
  start_refused _ _ (BadStart.marked bytes f is run line) = rw (is, run) (line_refused file until.LineEnd ends_line line_ends 3 (characters (drop 3 bytes)) f line)
  start_refused _ _ (BadStart.unmarked bytes f is run line) = rw (is, run) (line_refused file until.LineEnd ends_line line_ends 0 (characters bytes) f line)

pub starts_are : StartsAre
starts_are file bytes n = (λ e. mark_test file bytes n (starts_with nat_eq bytes byte_order_mark) refl e, λ s. start_complete file bytes n s)

pub start_faults_are : StartFaultsAre
start_faults_are file bytes f = (λ e. (marked_test file bytes (starts_with nat_eq bytes byte_order_mark) refl).gives f e, λ b. start_refused file bytes f b)
