-- Where and how a source that spells no data is at fault: at the first token with which no data can be spelt.
use Rattle.std.specs.Prelude.{◌≡◌, ℕ, suc, Bool, true, false, not, List, [], ◌∷◌, ◌++◌, ◌||◌, None, Result, Ok, Err, IsTrue}
use Rattle.base_data.specs.Datum.{PlainDatum}
use Rattle.base_data.specs.declared.fault.Fault.{Fault}
use Rattle.base_data.specs.declared.fault.FaultKind.TheVariants as fault
use Rattle.base_data.specs.declared.fault.Stop.{Stop}
use Rattle.base_data.specs.declared.fault.Stop.TheVariants as stop
use Rattle.read_lexer.specs.Start.{start_of}
use Rattle.read_lexer.specs.Tokens.{next_lexeme}
use Rattle.read_lexer.specs.declared.token.Bracket.{Bracket}
use Rattle.read_lexer.specs.declared.token.Bracket.TheVariants as bracket
use Rattle.read_lexer.specs.declared.token.Token.{Token}
use Rattle.read_lexer.specs.declared.token.Token.TheVariants as t
use Rattle.read_lexer.specs.declared.token.Lexeme.{Lexeme}
use Rattle.read_machine.specs.declared.extent.Extent.{Extent}
use Rattle.read_machine.specs.declared.partial.OpenTail.TheVariants as tail
use Rattle.read_machine.specs.declared.partial.OpenParts.{OpenParts}
use Rattle.read_machine.specs.declared.partial.OpenParts.TheVariants as parts
use Rattle.read_machine.specs.Extent.{fault_at}
use Rattle.read_machine.specs.Step.{same_bracket}
use Rattle.read_reader.specs.Grammar.{lexeme, AreItems}
use Rattle.read_reader.specs.Lexemes.{Follow}
use Rattle.read_machine.specs.declared.partial.Partial.{Partial}
use Rattle.read_reader.specs.Partial.{partial, ComesTo}

-- a close of this kind ends no such form; where a dot waits for its datum, the dot is at fault
abbrev pub is_stray : Bracket → OpenParts → Bool
is_stray b (parts.List c ds tail.Absent) = not (same_bracket b c)
is_stray b (parts.List c ds (tail.Dotted dot)) = false
is_stray b (parts.List c ds (tail.Given dot e)) = not (same_bracket b c)
is_stray b (parts.Vector ds) = not (same_bracket b bracket.Round)
is_stray b (parts.Bytes ns) = not (same_bracket b bracket.Round)
is_stray b (parts.Abbreviation k) = true
is_stray b parts.Skipped = true

-- there is nothing before a dot
abbrev pub has_no_dot : OpenParts → Bool
has_no_dot (parts.List b [] tail.Absent) = true
has_no_dot (parts.List b (d ∷ ds) tail.Absent) = false
has_no_dot (parts.List b ds (tail.Dotted dot)) = false
has_no_dot (parts.List b ds (tail.Given dot e)) = false
has_no_dot (parts.Vector ds) = true
has_no_dot (parts.Bytes ns) = true
has_no_dot (parts.Abbreviation k) = true
has_no_dot parts.Skipped = true

-- a datum begins with such a token
abbrev pub begins_datum : Token → Bool
begins_datum (t.Open b) = true
begins_datum (t.Close b) = false
begins_datum t.OpenVector = true
begins_datum t.OpenBytes = true
begins_datum (t.Abbreviation k) = true
begins_datum t.SkipDatum = false
begins_datum t.Dot = false
begins_datum (t.Atom c) = true
begins_datum (t.Symbol x) = true

-- a form that such a token opens counts as nesting
abbrev pub counts : Token → Bool
counts (t.Open b) = true
counts (t.Close b) = false
counts t.OpenVector = true
counts t.OpenBytes = false
counts (t.Abbreviation k) = true
counts t.SkipDatum = true
counts t.Dot = false
counts (t.Atom c) = false
counts (t.Symbol x) = false

abbrev pub is_dot : Token → Bool
is_dot (t.Open b) = false
is_dot (t.Close b) = false
is_dot t.OpenVector = false
is_dot t.OpenBytes = false
is_dot (t.Abbreviation k) = false
is_dot t.SkipDatum = false
is_dot t.Dot = true
is_dot (t.Atom c) = false
is_dot (t.Symbol x) = false

abbrev pub is_close : Token → Bool
is_close (t.Open b) = false
is_close (t.Close b) = true
is_close t.OpenVector = false
is_close t.OpenBytes = false
is_close (t.Abbreviation k) = false
is_close t.SkipDatum = false
is_close t.Dot = false
is_close (t.Atom c) = false
is_close (t.Symbol x) = false

module _ (file : List ℕ) where
  -- data can be spelt that begin with these lexemes
  pub record CanGoOn (nesting : ℕ) (ls : List Lexeme) : Type 0 where
    pub others : List Lexeme
    pub data_there : List PlainDatum
    pub items : AreItems file nesting (ls ++ others) data_there

  -- the innermost form that is open behind these lexemes was opened here, and has these parts
  pub record EndsInside (nesting : ℕ) (ls : List Lexeme) (p : OpenParts) (x : Extent) : Type 0 where
    pub room : ℕ
    pub round : List Partial
    pub before : List PlainDatum
    pub come : ComesTo file nesting room ls (partial x room p ∷ round) before

  -- what is wrong with this token behind these lexemes
  pub data IsFaultAt (nesting : ℕ) (ls : List Lexeme) : Token → Extent → Fault → Type 0 where
    close_of_nothing : {ds : List PlainDatum} (b : Bracket) (y : Extent) → AreItems file nesting ls ds
        → IsFaultAt nesting ls (t.Close b) y (fault_at file fault.StrayClose y)
    close_of_another : {p : OpenParts} {x : Extent} (b : Bracket) (y : Extent) → EndsInside nesting ls p x → is_stray b p ≡ true
        → IsFaultAt nesting ls (t.Close b) y (fault_at file fault.StrayClose y)
    dot_at_top : {ds : List PlainDatum} (y : Extent) → AreItems file nesting ls ds → IsFaultAt nesting ls t.Dot y (fault_at file fault.BadDot y)
    dot_in_another : {p : OpenParts} {x : Extent} (y : Extent) → EndsInside nesting ls p x → has_no_dot p ≡ true
        → IsFaultAt nesting ls t.Dot y (fault_at file fault.BadDot y)
    nothing_behind_dot : {b : Bracket} {ds : List PlainDatum} {dot x : Extent} (k : Token) (y : Extent)
        → EndsInside nesting ls (parts.List b ds (tail.Dotted dot)) x
        → IsTrue (is_close k || is_dot k) → IsFaultAt nesting ls k y (fault_at file fault.BadDot dot)
    much_behind_dot : {b : Bracket} {ds : List PlainDatum} {e : PlainDatum} {dot x : Extent} (k : Token) (y : Extent)
        → EndsInside nesting ls (parts.List b ds (tail.Given dot e)) x
        → IsTrue (begins_datum k || is_dot k) → IsFaultAt nesting ls k y (fault_at file fault.BadDot dot)
    no_byte : {ns : List ℕ} {x : Extent} (k : Token) (y : Extent) → EndsInside nesting ls (parts.Bytes ns) x → IsTrue (begins_datum k)
        → IsFaultAt nesting ls k y (fault_at file fault.BadNumber y)
    too_nested : (k : Token) (y : Extent) → IsTrue (counts k) → CanGoOn (suc nesting) (ls ++ lexeme k y ∷ [])
        → IsFaultAt nesting ls k y (fault_at file fault.TooNested y)

-- the first fault of a source
pub data IsFaultOf (file bytes : List ℕ) (nesting : ℕ) : Fault → Type 0 where
  -- bytes at the start that would be skipped are no characters
  bad_start : (f : Fault) → start_of file bytes ≡ Err f → IsFaultOf file bytes nesting f
  -- bytes are no token
  no_token : {ls : List Lexeme} (f : Fault) (start at : ℕ) → start_of file bytes ≡ Ok start → Follow (next_lexeme file bytes) start ls at
      → CanGoOn file nesting ls → next_lexeme file bytes at ≡ Err f → IsFaultOf file bytes nesting f
  -- a token stands where none such can
  out_of_place : {f : Fault} (ls : List Lexeme) (k : Token) (y : Extent) (start at : ℕ) → start_of file bytes ≡ Ok start
      → Follow (next_lexeme file bytes) start (ls ++ lexeme k y ∷ []) at
      → CanGoOn file nesting ls → (CanGoOn file nesting (ls ++ lexeme k y ∷ []) → ⊥) → IsFaultAt file nesting ls k y f → IsFaultOf file bytes nesting f
  -- the source ends too early
  unclosed : {ls : List Lexeme} {p : OpenParts} {x : Extent} (start at : ℕ) → start_of file bytes ≡ Ok start → Follow (next_lexeme file bytes) start ls at
      → CanGoOn file nesting ls → next_lexeme file bytes at ≡ Ok None → EndsInside file nesting ls p x
      → IsFaultOf file bytes nesting (fault_at file fault.Unclosed x)

-- of the fault, where it is one
abbrev pub IfFault : Stop → (Fault → Type 0) → Type 0
IfFault (stop.Fault f) P = P f
IfFault stop.Memory P = Unit {0}

-- of the fault that a call stops with
abbrev pub OnFault : {X : Type 0} → Result X Stop → (Fault → Type 0) → Type 0
OnFault (Ok x) P = Unit {0}
OnFault (Err e) P = IfFault e P
