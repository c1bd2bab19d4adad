-- Where and how the bytes of a source that spell no data are at fault, down to its bytes (R6RS 4.2 and 4.3).
use Rattle.std.specs.Prelude.{◌≡◌, ℕ, ◌+◌, ◌≤◌, ◌↔◌, List, [], ◌∷◌, ◌++◌, drop, length}
use Rattle.base_data.specs.Datum.{PlainDatum}
use Rattle.base_data.specs.declared.fault.Fault.{Fault}
use Rattle.base_data.specs.declared.fault.FaultKind.TheVariants as fault
use Rattle.law_faults.specs.Start.{Start, BadStart}
use Rattle.law_faults.specs.Tokens.{GoesWrong}
use Rattle.read_lexer.specs.Between.{Gap}
use Rattle.read_lexer.specs.Grammar.{IsToken}
use Rattle.read_lexer.specs.declared.token.Lexeme.{Lexeme}
use Rattle.read_lexer.specs.declared.token.Token.{Token}
use Rattle.read_machine.specs.Extent.{fault_at}
use Rattle.read_machine.specs.declared.extent.Extent.{Extent}
use Rattle.read_machine.specs.declared.partial.OpenParts.{OpenParts}
use Rattle.read_reader.specs.FirstFault.{CanGoOn, EndsInside, IsFaultAt, IsFaultOf}
use Rattle.read_reader.specs.Grammar.{lexeme}
use Rattle.law_grammar.specs.Reads.{Reads}

-- from one offset to another stand these lexemes, each behind a gap of whitespace and comments
pub data Lead (bytes : List ℕ) : ℕ → List Lexeme → ℕ → Type 0 where
  none : (at : ℕ) → Lead bytes at [] at
  one : (at to n size : ℕ) (l : Lexeme) (ls : List Lexeme) → l.from ≡ at + n → Gap (drop at bytes) n
      → l.to ≡ l.from + size → IsToken (drop l.from bytes) size l.token → Lead bytes l.to ls to → Lead bytes at (l ∷ ls) to

-- the first fault of a source, where so many forms may be nested
pub data Fails (file bytes : List ℕ) (nesting : ℕ) : Fault → Type 0 where
  -- bytes of what is skipped at the start are no characters
  at_start : (f : Fault) → BadStart file bytes f → Fails file bytes nesting f
  -- behind tokens with which data can begin come bytes that go on neither with a token nor to the end
  at_bytes : {ls : List Lexeme} (f : Fault) (start at : ℕ) → Start bytes start → Lead bytes start ls at → CanGoOn file nesting ls
      → GoesWrong file bytes at f → Fails file bytes nesting f
  -- behind such tokens stands one where none such can
  at_token : {f : Fault} (ls : List Lexeme) (k : Token) (y : Extent) (start at : ℕ) → Start bytes start → Lead bytes start (ls ++ lexeme k y ∷ []) at
      → CanGoOn file nesting ls → (CanGoOn file nesting (ls ++ lexeme k y ∷ []) → ⊥) → IsFaultAt file nesting ls k y f → Fails file bytes nesting f
  -- behind such tokens the source ends, and a form is open
  at_end : {ls : List Lexeme} {p : OpenParts} {x : Extent} (start at n : ℕ) → Start bytes start → Lead bytes start ls at → CanGoOn file nesting ls
      → Gap (drop at bytes) n → length bytes ≤ at + n → EndsInside file nesting ls p x → Fails file bytes nesting (fault_at file fault.Unclosed x)

-- exactly that is at fault, and so
abbrev pub FailuresAre : Type 0
FailuresAre = (file bytes : List ℕ) (nesting : ℕ) (f : Fault) → IsFaultOf file bytes nesting f ↔ Fails file bytes nesting f

-- in one way at most
abbrev pub OneFailure : Type 0
OneFailure = (file bytes : List ℕ) (nesting : ℕ) (f g : Fault) → Fails file bytes nesting f → Fails file bytes nesting g → f ≡ g

-- and spells no data
abbrev pub ReadsOrFails : Type 0
ReadsOrFails = (file bytes : List ℕ) (nesting : ℕ) (ds : List PlainDatum) (f : Fault) → Reads file bytes nesting ds → Fails file bytes nesting f → ⊥
