-- Tokens are refused as bytes.
use Rattle.std.proofs.Common.{ℕ, suc, ◌+◌, ◌-◌, List, length, Option, Some, None, Ok}
use Rattle.std.specs.Prelude.{drop, take, slice_index, ◌==◌, ◌&&◌, nat_lt, nat_eq, codes, ℤ}
use Rattle.std.specs.List.{starts_with}
use Rattle.base_data.specs.Gives.{◌>>=◌}
use Rattle.base_data.specs.declared.fault.FaultKind.{FaultKind}
use Rattle.base_data.specs.declared.fault.FaultKind.TheVariants as kind
use Rattle.read_spelling.specs.Escapes.{escape}
use Rattle.read_spelling.specs.Identifiers.{identifier}
use Rattle.read_spelling.specs.Numbers.{is_integer, integer, spelt}
use Rattle.read_spelling.specs.Source.{characters}
use Rattle.read_spelling.specs.Whitespace.{is_delimited}
use Rattle.read_spelling.specs.declared.escapes.Letter.{Letter}
use Rattle.read_lexer.specs.Gap.{gap_end}
use Rattle.read_lexer.specs.Tokens.{lexeme, escape_end, bare_step, bare_end, number, spelt_or_fault, begins_number, identifier_or_else, is_dot, bare, bare_to, bare_at, is_number_mark, radix, integer_in, marked_at, is_true, is_false, word_at, hash_at, lexeme_at, lexeme_behind, next_lexeme}
use Rattle.law_kinds.specs.Kinds.{IsOfReading, Tells}
use Rattle.law_kinds.proofs.Gaps.{r-if, r-then, tells-repeated, tells-gap}
use Rattle.law_kinds.proofs.Strings.{tells-string, tells-character}

module _ (file : List ℕ) where
  escaped : (bad : FaultKind) → IsOfReading bad → (from at : ℕ) (l : Option Letter) → Tells IsOfReading (escape_end file bad from at l)
  escaped bad h from at (Some l) = tt
  escaped bad h from at None = h

  step : (bad : FaultKind) → IsOfReading bad → (from : ℕ) (bytes : List ℕ) (at : ℕ) → Tells IsOfReading (bare_step file bad from bytes at)
  unfolding bare_step
  step bad h from bytes at = r-if (slice_index bytes 0 == 0x5C) _ _ (escaped bad h from at (escape bytes)) tt

  ends : (bad : FaultKind) → IsOfReading bad → (from : ℕ) (bytes : List ℕ) (at : ℕ) → Tells IsOfReading (bare_end file bad from bytes at)
  ends bad h from bytes at = tells-repeated (bare_step file bad from) (step bad h from) (suc (length bytes)) bytes at

  integral : (from to : ℕ) (z : Option ℤ) → Tells IsOfReading (number file from to z)
  integral from to (Some z) = tt
  integral from to None = tt

  other : (from to : ℕ) (text : Option (List ℕ)) → Tells IsOfReading (spelt_or_fault file from to text)
  other from to (Some text) = tt
  other from to None = tt

  named : (text : List ℕ) (from to : ℕ) (name : Option (List ℕ)) → Tells IsOfReading (identifier_or_else file text from to name)
  named text from to (Some name) = tt
  named text from to None = r-if (begins_number (slice_index text 0)) _ _ (r-if (is_integer 10 text) _ _ (integral from to (integer 10 text)) (other from to (spelt text))) tt

  spells : (text : List ℕ) (from to : ℕ) → Tells IsOfReading (bare file text from to)
  spells text from to = r-if (is_dot text) _ _ tt (named text from to (identifier text))

  up-to : (bytes : List ℕ) (from to : ℕ) → Tells IsOfReading (bare_to file bytes from to)
  up-to bytes from to = r-if (to == from) _ _ tt (r-then (bare file (take (to - from) bytes) from to) _ (spells (take (to - from) bytes) from to) (λ t. tt))

  bare-token : (bytes : List ℕ) (from : ℕ) → Tells IsOfReading (bare_at file bytes from)
  bare-token bytes from = r-then (bare_end file kind.BadEscape from bytes from) (bare_to file bytes from) (ends kind.BadEscape tt from bytes from) (λ to. up-to bytes from to)

  based : (base : ℕ) (text : List ℕ) (from to : ℕ) → Tells IsOfReading (integer_in file base text from to)
  based base text from to = r-if (nat_lt 0 base && is_integer base text) _ _ (integral from to (integer base text)) tt

  marked : (bytes : List ℕ) (from : ℕ) → Tells IsOfReading (marked_at file bytes from)
  marked bytes from =
      r-then (bare_end file kind.BadNumber from (drop 2 bytes) (from + 2)) (λ to. integer_in file (radix (slice_index bytes 1)) (drop 2 (take (to - from) bytes)) from to >>= λ t. Ok (lexeme t from to))
      (ends kind.BadNumber tt from (drop 2 bytes) (from + 2))
      (λ to. r-then (integer_in file (radix (slice_index bytes 1)) (drop 2 (take (to - from) bytes)) from to) _ (based (radix (slice_index bytes 1)) (drop 2 (take (to - from) bytes)) from to) (λ t. tt))

  word : (bytes : List ℕ) (from : ℕ) → Tells IsOfReading (word_at file bytes from)
  word bytes from =
      r-if (starts_with nat_eq bytes (codes "#vu8(")) _ _ tt
      (r-if (is_true (slice_index bytes 1) && is_delimited (characters (drop 2 bytes))) _ _ tt (r-if (is_false (slice_index bytes 1) && is_delimited (characters (drop 2 bytes))) _ _ tt tt))

  hashed : (bytes : List ℕ) (from : ℕ) → Tells IsOfReading (hash_at file bytes from)
  hashed bytes from =
      r-if (slice_index bytes 1 == 0x28) _ _ tt
      (r-if (slice_index bytes 1 == 0x3B) _ _ tt
      (r-if (slice_index bytes 1 == 0x27) _ _ tt
      (r-if (slice_index bytes 1 == 0x60) _ _ tt
      (r-if (slice_index bytes 1 == 0x2C) _ _ tt
      (r-if (slice_index bytes 1 == 0x5C) _ _ (tells-character file bytes from)
      (r-if (is_number_mark (slice_index bytes 1)) _ _ (marked bytes from) (word bytes from)))))))

  token : (bytes : List ℕ) (from : ℕ) → Tells IsOfReading (lexeme_at file bytes from)
  token bytes from =
      r-if (slice_index bytes 0 == 0x28) _ _ tt
      (r-if (slice_index bytes 0 == 0x29) _ _ tt
      (r-if (slice_index bytes 0 == 0x5B) _ _ tt
      (r-if (slice_index bytes 0 == 0x5D) _ _ tt
      (r-if (slice_index bytes 0 == 0x27) _ _ tt
      (r-if (slice_index bytes 0 == 0x60) _ _ tt
      (r-if (slice_index bytes 0 == 0x2C) _ _ tt
      (r-if (slice_index bytes 0 == 0x22) _ _ (tells-string file bytes from)
      (r-if (slice_index bytes 0 == 0x23) _ _ (hashed bytes from) (bare-token bytes from)))))))))

  behind : (bytes : List ℕ) (from : ℕ) → Tells IsOfReading (lexeme_behind file bytes from)
  behind bytes from = r-if (length bytes == 0) _ _ tt (r-then (lexeme_at file bytes from) _ (token bytes from) (λ l. tt))

  pub tells-next : (bytes : List ℕ) (at : ℕ) → Tells IsOfReading (next_lexeme file bytes at)
  tells-next bytes at = r-then (gap_end file (drop at bytes) at) (λ from. lexeme_behind file (drop from bytes) from) (tells-gap file (drop at bytes) at) (λ from. behind (drop from bytes) from)
