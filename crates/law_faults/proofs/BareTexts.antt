-- Identifiers and numbers: what the definitions refuse, and why.
use Rattle.std.proofs.Common.{◌≡◌, ◌≢◌, ℕ, zero, suc, ◌+◌, ◌-◌, ◌<◌, Bool, true, false, cond, List, [], ◌∷◌, length, take, drop, slice_index, Option, Some, None, Result, Ok, Err, ℤ, ◌⊎◌, inl, inr, refl, sym, ap, ◌∙◌, subst, arith}
use Rattle.std.specs.Prelude.{◌==◌, ◌&&◌, not, nat_lt, ◌↔◌}
use Rattle.std.proofs.lemmas.Bool.{eqb-true}
use Rattle.std.proofs.lemmas.Bool.Decides.{nat_tests}
use Rattle.bstr.specs.Utf8.{Decoded}
use Rattle.base_data.specs.Gives.{◌>>=◌}
use Rattle.base_data.specs.declared.fault.Fault.{Fault}
use Rattle.base_data.specs.declared.fault.FaultKind.{FaultKind}
use Rattle.base_data.specs.declared.fault.FaultKind.TheVariants as kind
use Rattle.base_data.proofs.Chars.{branch}
use Rattle.read_lexer.specs.Faults.{fault_at}
use Rattle.read_lexer.specs.Grammar.{BarePart, Bare, is_special}
use Rattle.read_lexer.specs.Tokens.{bare_step, bare_end, escape_end, char_end, bare_at, bare_to, bare, lexeme, is_dot, begins_number, number, number_of, spelt_or_fault, identifier_or_else, no_identifier, integer_in, radix, marked_at}
use Rattle.read_lexer.specs.declared.token.Lexeme.{Lexeme}
use Rattle.read_lexer.specs.declared.token.Token.{Token}
use Rattle.read_lexer.specs.declared.token.Token.TheVariants as token
use Rattle.read_lexer.proofs.BareLemmas.{bare_is, part_some}
use Rattle.read_lexer.proofs.BetweenLemmas.{not_equal, equal, left, right}
use Rattle.read_lexer.proofs.StringLemmas.{differs}
use Rattle.read_spelling.specs.Escapes.{escape}
use Rattle.read_spelling.specs.Identifiers.{identifier}
use Rattle.read_spelling.specs.Numbers.{is_integer, integer, spelt}
use Rattle.read_spelling.specs.Source.{characters, piece}
use Rattle.read_spelling.specs.Whitespace.{is_delimiter}
use Rattle.read_spelling.specs.declared.escapes.Letter.{Letter}
use Rattle.law_faults.specs.Bare.{NoInteger, BadBackslash, BadText, BadMarked}
use Rattle.law_faults.specs.Behind.{BadBehind}
use Rattle.law_faults.specs.Laws.{MarkedFaultsAre}
use Rattle.law_faults.proofs.Repeats.{stops_are}
use Rattle.law_faults.proofs.Tests.{Explains, refuses, accepts, binds, bind_err, bind_ok, both}

module _ (file : List ℕ) (k : FaultKind) (from : ℕ) where
  abbrev Over : List ℕ → ℕ → ℕ → Type 0
  Over bytes at to = (to ≡ at) ⊎ ((n : ℕ) × (to ≡ at + n) × BarePart bytes n)

  escape_over : (bytes : List ℕ) (at to : ℕ) (o : Option Letter) → slice_index bytes 0 ≡ 0x5C → escape bytes ≡ o → escape_end file k from at o ≡ Ok to → Over bytes at to
  escape_over bytes at to None first e given = absurd (cc)
  escape_over bytes at to (Some l) first e given = inr (l.size, (cc), BarePart.escaped bytes l first e)

  delimiter_over : (bytes : List ℕ) (c size : ℕ) (ps : List Decoded) (at to : ℕ) (t : Bool) → slice_index bytes 0 == 0x5C ≡ false → characters bytes ≡ piece (Some c) size ∷ ps
      → is_delimiter c ≡ t → cond (cond t false true) (at + size) at ≡ to → Over bytes at to
  delimiter_over bytes c size ps at to true first e d given = inl (cc)
  delimiter_over bytes c size ps at to false first e d given = inr (size, (cc), BarePart.char bytes c size ps (differs (slice_index bytes 0) 0x5C first) e d)

  char_over : (bytes : List ℕ) (char : Option ℕ) (size : ℕ) (ps : List Decoded) (at to : ℕ) → slice_index bytes 0 == 0x5C ≡ false → characters bytes ≡ piece char size ∷ ps
      → char_end at (piece char size ∷ ps) ≡ to → Over bytes at to
  char_over bytes None size ps at to first e given = inl (cc)
  char_over bytes (Some c) size ps at to first e given = delimiter_over bytes c size ps at to (is_delimiter c) first e refl given

  text_over : (bytes : List ℕ) (text : List Decoded) (at to : ℕ) → slice_index bytes 0 == 0x5C ≡ false → characters bytes ≡ text → char_end at text ≡ to → Over bytes at to
  text_over bytes [] at to first e given = inl (cc)
  text_over bytes (p ∷ ps) at to first e given = char_over bytes p.char p.size ps at to first e given

  test_over : (bytes : List ℕ) (at to : ℕ) (t : Bool) → slice_index bytes 0 == 0x5C ≡ t → cond t (escape_end file k from at (escape bytes)) (Ok (char_end at (characters bytes))) ≡ Ok to
      → Over bytes at to
  test_over bytes at to true first given = escape_over bytes at to (escape bytes) (eqb-true (slice_index bytes 0) 0x5C first) refl given
  test_over bytes at to false first given =
      let same : char_end at (characters bytes) ≡ to = cc in
      text_over bytes (characters bytes) at to first refl same

  step_over : (bytes : List ℕ) (at to : ℕ) → bare_step file k from bytes at ≡ Ok to → Over bytes at to
  unfolding bare_step
  step_over bytes at to given = test_over bytes at to (slice_index bytes 0 == 0x5C) refl given

  step_complete : (bytes : List ℕ) (at n : ℕ) → BarePart bytes n → bare_step file k from bytes at ≡ Ok (at + n)
  unfolding bare_step
  step_complete _ at _ (BarePart.char bytes c size rest first e d) = rw (not_equal (slice_index bytes 0) 0x5C first, e, d) refl
  step_complete _ at _ (BarePart.escaped bytes l first e) = rw (equal (slice_index bytes 0) 0x5C first, e) refl

  escape_explained : (bytes : List ℕ) (at : ℕ) (o : Option Letter) → slice_index bytes 0 ≡ 0x5C → escape bytes ≡ o → Explains (BadBackslash file k from at bytes) (escape_end file k from at o)
  escape_explained bytes at (Some l) first e = accepts (BadBackslash file k from at bytes) (at + l.size)
  escape_explained bytes at None first e = refuses (BadBackslash file k from at bytes) (fault_at file k from at) (BadBackslash.backslash at bytes first e)

  step_explained : (bytes : List ℕ) (at : ℕ) → Explains (BadBackslash file k from at bytes) (bare_step file k from bytes at)
  unfolding bare_step
  step_explained bytes at =
      branch (Explains (BadBackslash file k from at bytes)) (slice_index bytes 0 == 0x5C)
      (λ e. escape_explained bytes at (escape bytes) (eqb-true (slice_index bytes 0) 0x5C e) refl) (λ _. accepts (BadBackslash file k from at bytes) (char_end at (characters bytes)))

  step_refused : (at : ℕ) (bytes : List ℕ) (f : Fault) → BadBackslash file k from at bytes f → bare_step file k from bytes at ≡ Err f
  unfolding bare_step
  step_refused _ _ _ (BadBackslash.backslash at bytes first e) = rw (equal (slice_index bytes 0) 0x5C first, e) refl

  -- a bare token is refused exactly at a backslash that begins no escape
  pub backslashes_are : (bytes : List ℕ) (at : ℕ) (f : Fault) → (bare_end file k from bytes at ≡ Err f) ↔ BadBehind BarePart (BadBackslash file k from) at bytes f
  backslashes_are bytes at f = stops_are (bare_step file k from) BarePart (BadBackslash file k from) step_over step_complete (part_some file k from) step_explained step_refused bytes at f

module _ (file : List ℕ) (at to : ℕ) where
  integer_explained : (text : List ℕ) (o : Option ℤ) → is_dot text ≡ false → identifier text ≡ None → begins_number (slice_index text 0) ≡ true → is_integer 10 text ≡ true → integer 10 text ≡ o
      → Explains (BadText file at to text) (number file at to o)
  integer_explained text (Some z) d i b n e = accepts (BadText file at to text) _
  integer_explained text None d i b n e = refuses (BadText file at to text) (fault_at file kind.BadNumber at to) (BadText.too_large d i b n e)

  spelt_explained : (text : List ℕ) (o : Option (List ℕ)) → is_dot text ≡ false → identifier text ≡ None → begins_number (slice_index text 0) ≡ true → is_integer 10 text ≡ false → spelt text ≡ o
      → Explains (BadText file at to text) (spelt_or_fault file at to o)
  spelt_explained text (Some s) d i b n e = accepts (BadText file at to text) _
  spelt_explained text None d i b n e = refuses (BadText file at to text) (fault_at file kind.BadNumber at to) (BadText.no_number d i b n e)

  identifier_explained : (text : List ℕ) (o : Option (List ℕ)) → is_dot text ≡ false → identifier text ≡ o → Explains (BadText file at to text) (identifier_or_else file text at to o)
  identifier_explained text (Some name) d i = accepts (BadText file at to text) _
  identifier_explained text None d i =
      let P : Result Token Fault → Type 0 = Explains (BadText file at to text) in
      branch P (begins_number (slice_index text 0)) (λ b. branch P (is_integer 10 text) (λ n. integer_explained text (integer 10 text) d i b n refl) (λ n. spelt_explained text (spelt text) d i b n refl))
      (λ b. refuses (BadText file at to text) (fault_at file kind.BadToken at to) (BadText.no_name d i b))

  pub text_explained : (text : List ℕ) → Explains (BadText file at to text) (bare file text at to)
  text_explained text = branch (Explains (BadText file at to text)) (is_dot text) (λ _. accepts (BadText file at to text) token.Dot) (λ d. identifier_explained text (identifier text) d refl)

  pub text_refused : (text : List ℕ) (f : Fault) → BadText file at to text f → bare file text at to ≡ Err f
  text_refused text _ (BadText.no_name d i b) = rw (d, i, b) refl
  text_refused text _ (BadText.too_large d i b n e) = rw (d, i, b, n, e) refl
  text_refused text _ (BadText.no_number d i b n e) = rw (d, i, b, n, e) refl

zero_base : (base : ℕ) → nat_lt 0 base ≡ false → base ≡ 0
zero_base base h = grind (arith, nat_tests)

some_base : (base : ℕ) → nat_lt 0 base ≡ true → 0 < base
some_base base h = grind (arith, nat_tests)

is_some : (base : ℕ) → 0 < base → nat_lt 0 base ≡ true
is_some base h = grind (arith, nat_tests)

module _ (file : List ℕ) (at to : ℕ) (base : ℕ) (text : List ℕ) where
  abbrev Refused : Fault → Type 0
  Refused f = (f ≡ fault_at file kind.BadNumber at to) × NoInteger base text

  of_integer : (o : Option ℤ) → 0 < base → is_integer base text ≡ true → integer base text ≡ o → Explains Refused (number file at to o)
  of_integer (Some z) some is e = accepts Refused _
  of_integer None some is e = refuses Refused (fault_at file kind.BadNumber at to) (refl, NoInteger.too_large some is e)

  no_integer_test : (a b : Bool) → nat_lt 0 base ≡ a → is_integer base text ≡ b → (a && b) ≡ false → NoInteger base text
  no_integer_test true true p q h = absurd (cc)
  no_integer_test true false p q h = NoInteger.no_digits q
  no_integer_test false b p q h = NoInteger.no_base (zero_base base p)

  integer_explains : Explains Refused (integer_in file base text at to)
  integer_explains =
      branch (Explains Refused) (nat_lt 0 base && is_integer base text)
      (λ h. of_integer (integer base text) (some_base base (left (nat_lt 0 base) (is_integer base text) h)) (right (nat_lt 0 base) (is_integer base text) h) refl)
      (λ h. refuses Refused (fault_at file kind.BadNumber at to) (refl, no_integer_test (nat_lt 0 base) (is_integer base text) refl refl h))

  second_false : (a b : Bool) → b ≡ false → (a && b) ≡ false
  second_false true b h = h
  second_false false b h = refl

  integer_refused : NoInteger base text → integer_in file base text at to ≡ Err (fault_at file kind.BadNumber at to)
  integer_refused (NoInteger.no_base none) = rw none refl
  integer_refused (NoInteger.no_digits none) = rw (second_false (nat_lt 0 base) (is_integer base text) none) refl
  integer_refused (NoInteger.too_large some is none) = rw (both (nat_lt 0 base) (is_integer base text) (is_some base some) is, none) refl

module _ (file : List ℕ) (bytes : List ℕ) (at : ℕ) where
  -- the rest of a number behind its mark
  abbrev rest_of : ℕ → Result Lexeme Fault
  rest_of to = integer_in file (radix (slice_index bytes 1)) (drop 2 (take (to - at) bytes)) at to >>= λ t. Ok (lexeme t at to)

  number_explained : (n to : ℕ) → Bare (drop 2 bytes) n → to ≡ at + 2 + n → Explains (BadMarked file at bytes) (rest_of to)
  number_explained n to run same =
      let base = radix (slice_index bytes 1) in
      let size : to - at ≡ 2 + n = omega (arith, same) in
      let text = drop 2 (take (to - at) bytes) in
      binds (BadMarked file at bytes) (integer_in file base text at to) (λ t. Ok (lexeme t at to))
      (λ f e.
      let r = (integer_explains file at to base text).gives f e in
      let nothing : NoInteger base (drop 2 (take (2 + n) bytes)) = subst (λ (m : ℕ). NoInteger base (drop 2 (take m bytes))) size r.1 in
      let here : f ≡ fault_at file kind.BadNumber at (at + 2 + n) = r.0 ∙ ap (λ (m : ℕ). fault_at file kind.BadNumber at m) same in
      subst (λ (g : Fault). BadMarked file at bytes g) (sym here) (BadMarked.number at bytes n run nothing))
      (λ t e. accepts (BadMarked file at bytes) (lexeme t at to))

  marked_explained : Explains (BadMarked file at bytes) (marked_at file bytes at)
  marked_explained =
      binds (BadMarked file at bytes) (bare_end file kind.BadNumber at (drop 2 bytes) (at + 2)) rest_of
      (λ f e. BadMarked.bad_escape at bytes f ((backslashes_are file kind.BadNumber at (drop 2 bytes) (at + 2) f).0 e))
      (λ to e.
      let g = (bare_is file kind.BadNumber at (drop 2 bytes) (at + 2) to).0 e in
      number_explained g.0 to g.2 g.1)

  number_refused : (n to : ℕ) → Bare (drop 2 bytes) n → to ≡ at + 2 + n → NoInteger (radix (slice_index bytes 1)) (drop 2 (take (2 + n) bytes)) → rest_of to ≡ Err (fault_at file kind.BadNumber at to)
  number_refused n to run same nothing =
      let base = radix (slice_index bytes 1) in
      let size : 2 + n ≡ to - at = omega (arith, same) in
      let text = drop 2 (take (to - at) bytes) in
      let none : NoInteger base text = subst (λ (m : ℕ). NoInteger base (drop 2 (take m bytes))) size nothing in
      bind_err (integer_in file base text at to) (λ t. Ok (lexeme t at to)) (fault_at file kind.BadNumber at to) (integer_refused file at to base text none)

marked_refused : (file bytes : List ℕ) (at : ℕ) (f : Fault) → BadMarked file at bytes f → marked_at file bytes at ≡ Err f
marked_refused file _ _ _ (BadMarked.bad_escape at bytes f behind) =
    bind_err (bare_end file kind.BadNumber at (drop 2 bytes) (at + 2)) (rest_of file bytes at) f ((backslashes_are file kind.BadNumber at (drop 2 bytes) (at + 2) f).1 behind)
marked_refused file _ _ _ (BadMarked.number at bytes n run nothing) =
    let to = at + 2 + n in
    bind_ok (bare_end file kind.BadNumber at (drop 2 bytes) (at + 2)) (rest_of file bytes at) to ((bare_is file kind.BadNumber at (drop 2 bytes) (at + 2) to).1 (n, refl, run))
    ∙ number_refused file bytes at n to run refl nothing

-- a number behind its mark is refused exactly so
pub marked_faults_are : MarkedFaultsAre
marked_faults_are file bytes at f = (λ e. (marked_explained file bytes at).gives f e, λ b. marked_refused file bytes at f b)
