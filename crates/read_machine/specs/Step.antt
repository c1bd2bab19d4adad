-- What a token makes of what is open.
use Rattle.std.specs.Prelude.{ℕ, ◌-◌, Bool, true, false, List, [], ◌∷◌, ◌++◌, length, Option, Some, None, Result, Ok, Err, ◌==◌, if◌then◌else◌}
use Rattle.base_data.specs.declared.atom.Atom.TheVariants as a
use Rattle.base_data.specs.declared.fault.Fault.{Fault}
use Rattle.base_data.specs.declared.fault.FaultKind.TheVariants as fault
use Rattle.base_data.specs.Datum.{PlainDatum, atom, symbol, vector, chain, nil}
use Rattle.base_data.specs.Gives.{◌>>=◌}
use Rattle.read_lexer.specs.declared.token.Bracket.{Bracket}
use Rattle.read_lexer.specs.declared.token.Bracket.TheVariants as bracket
use Rattle.read_lexer.specs.declared.token.Token.{Token}
use Rattle.read_lexer.specs.declared.token.Token.TheVariants as t
use Rattle.read_lexer.specs.declared.token.Lexeme.{Lexeme}
use Rattle.read_machine.specs.declared.extent.Extent.{Extent}
use Rattle.read_machine.specs.declared.extent.Misplaced.{Misplaced}
use Rattle.read_machine.specs.declared.partial.OpenTail.{OpenTail}
use Rattle.read_machine.specs.declared.partial.OpenTail.TheVariants as tail
use Rattle.read_machine.specs.declared.partial.OpenParts.{OpenParts}
use Rattle.read_machine.specs.declared.partial.OpenParts.TheVariants as parts
use Rattle.read_machine.specs.declared.partial.Partial.{Partial}
use Rattle.read_machine.specs.declared.partial.ReaderState.{ReaderState}
use Rattle.read_machine.specs.Extent.{span_at, fault_at, through}
use Rattle.read_machine.specs.Partial.{on_parts, room_in, misplaced}
use Rattle.read_machine.specs.Form.{joined, abbreviated, byte_of}

abbrev pub state : List Partial → List PlainDatum → ReaderState
state fs ds = record { stack = fs; done = ds }

-- the same form with other parts
abbrev pub with_parts : Partial → OpenParts → Partial
with_parts f p = record { opening = f.opening; room = f.room; parts = p }

-- an open list with one more datum
abbrev pub list_with : List ℕ → Bracket → List PlainDatum → OpenTail → PlainDatum → Result OpenParts Fault
list_with file b ds tail.Absent d = Ok (parts.List b (ds ++ d ∷ []) tail.Absent)
list_with file b ds (tail.Dotted dot) d = Ok (parts.List b ds (tail.Given dot d))
list_with file b ds (tail.Given dot e) d = Err (fault_at file fault.BadDot dot)

-- an open bytevector with one more element, which stands here
abbrev pub bytes_with : List ℕ → List ℕ → Option ℕ → Extent → Result OpenParts Fault
bytes_with file ns (Some n) at = Ok (parts.Bytes (ns ++ n ∷ []))
bytes_with file ns None at = Err (fault_at file fault.BadNumber at)

-- a datum, which stands here, is complete
abbrev pub deliver : List ℕ → List Partial → List PlainDatum → PlainDatum → Extent → Result ReaderState Fault
deliver file [] ds d at = Ok (state [] (ds ++ d ∷ []))
deliver file (f ∷ fs) ds d at = on_parts f.parts (record {
  list = λ b items tail. list_with file b items tail d >>= λ p. Ok (state (with_parts f p ∷ fs) ds);
  vector = λ items. Ok (state (with_parts f (parts.Vector (items ++ d ∷ [])) ∷ fs) ds);
  bytes = λ ns. bytes_with file ns (byte_of d) at >>= λ p. Ok (state (with_parts f p ∷ fs) ds);
  abbreviation = λ k. deliver file fs ds (abbreviated file k f.opening d (through f.opening at)) (through f.opening at);
  skipped = Ok (state fs ds);
})

abbrev pub same_bracket : Bracket → Bracket → Bool
same_bracket bracket.Round bracket.Round = true
same_bracket bracket.Round bracket.Square = false
same_bracket bracket.Square bracket.Round = false
same_bracket bracket.Square bracket.Square = true

-- the tail of a list that ends here
abbrev pub tail_of : List ℕ → OpenTail → Result PlainDatum Fault
tail_of file tail.Absent = Ok nil
tail_of file (tail.Dotted dot) = Err (fault_at file fault.BadDot dot)
tail_of file (tail.Given dot e) = Ok e

-- the datum that a close ends; the close stands here, the datum there
abbrev pub ended : List ℕ → OpenParts → Bracket → Extent → Extent → Result PlainDatum Fault
ended file (parts.List c ds tail) b at all =
    tail_of file tail >>= λ e. if same_bracket b c then Ok (joined (span_at file all) ds e) else Err (fault_at file fault.StrayClose at)
ended file (parts.Vector ds) b at all =
    if same_bracket b bracket.Round then Ok (vector (span_at file all) (chain ds nil)) else Err (fault_at file fault.StrayClose at)
ended file (parts.Bytes ns) b at all =
    if same_bracket b bracket.Round then Ok (atom (span_at file all) (a.Bytes ns)) else Err (fault_at file fault.StrayClose at)
ended file (parts.Abbreviation k) b at all = Err (fault_at file fault.StrayClose at)
ended file parts.Skipped b at all = Err (fault_at file fault.StrayClose at)

abbrev pub closed : List ℕ → List Partial → List PlainDatum → Bracket → Extent → Result ReaderState Fault
closed file [] ds b at = Err (fault_at file fault.StrayClose at)
closed file (f ∷ fs) ds b at = ended file f.parts b at (through f.opening at) >>= λ d. deliver file fs ds d (through f.opening at)

-- a form is opened that counts one of nesting
abbrev pub nested : List ℕ → ℕ → ReaderState → OpenParts → Extent → Result ReaderState Fault
nested file nesting s p at = if room_in nesting s.stack == 0 then Err (fault_at file fault.TooNested at)
    else Ok (state (record { opening = at; room = room_in nesting s.stack - 1; parts = p } ∷ s.stack) s.done)

-- a fault, or else this
abbrev pub unless : {A : Type 0} → List ℕ → Option Misplaced → Result A Fault → Result A Fault
unless file None r = r
unless file (Some w) r = Err (fault_at file w.kind w.at)

-- a form other than a comment is opened that counts
abbrev pub opened : List ℕ → ℕ → ReaderState → OpenParts → Extent → Result ReaderState Fault
opened file nesting s p at = unless file (misplaced s.stack at) (nested file nesting s p at)

-- a bytevector is opened, which doesn't count
abbrev pub opened_bytes : List ℕ → ℕ → ReaderState → Extent → Result ReaderState Fault
opened_bytes file nesting s at = unless file (misplaced s.stack at)
    (Ok (state (record { opening = at; room = room_in nesting s.stack; parts = parts.Bytes [] } ∷ s.stack) s.done))

-- what stands behind the elements of an open list, once a dot comes there
abbrev pub dot_in : List ℕ → List PlainDatum → OpenTail → Extent → Result OpenTail Fault
dot_in file ds tail.Absent at = if length ds == 0 then Err (fault_at file fault.BadDot at) else Ok (tail.Dotted at)
dot_in file ds (tail.Dotted dot) at = Err (fault_at file fault.BadDot dot)
dot_in file ds (tail.Given dot e) at = Err (fault_at file fault.BadDot dot)

abbrev pub dotted : List ℕ → List Partial → List PlainDatum → Extent → Result ReaderState Fault
dotted file [] ds at = Err (fault_at file fault.BadDot at)
dotted file (f ∷ fs) ds at = on_parts f.parts (record {
  list = λ b items tail. dot_in file items tail at >>= λ u. Ok (state (with_parts f (parts.List b items u) ∷ fs) ds);
  vector = λ items. Err (fault_at file fault.BadDot at);
  bytes = λ ns. Err (fault_at file fault.BadDot at);
  abbreviation = λ k. Err (fault_at file fault.BadDot at);
  skipped = Err (fault_at file fault.BadDot at);
})

abbrev pub extent_of : Lexeme → Extent
extent_of l = record { from = l.from; to = l.to }

-- the state after one more token, which stands here
abbrev pub step_by : List ℕ → ℕ → ReaderState → Token → Extent → Result ReaderState Fault
step_by file nesting s (t.Open b) at = opened file nesting s (parts.List b [] tail.Absent) at
step_by file nesting s (t.Close b) at = closed file s.stack s.done b at
step_by file nesting s t.OpenVector at = opened file nesting s (parts.Vector []) at
step_by file nesting s t.OpenBytes at = opened_bytes file nesting s at
step_by file nesting s (t.Abbreviation k) at = opened file nesting s (parts.Abbreviation k) at
step_by file nesting s t.SkipDatum at = nested file nesting s parts.Skipped at
step_by file nesting s t.Dot at = dotted file s.stack s.done at
step_by file nesting s (t.Atom c) at = deliver file s.stack s.done (atom (span_at file at) c) at
step_by file nesting s (t.Symbol x) at = deliver file s.stack s.done (symbol (span_at file at) x) at

abbrev pub step : List ℕ → ℕ → ReaderState → Lexeme → Result ReaderState Fault
step file nesting s l = step_by file nesting s l.token (extent_of l)

-- the data, where the source ends
abbrev pub finish : List ℕ → List Partial → List PlainDatum → Result (List PlainDatum) Fault
finish file [] ds = Ok ds
finish file (f ∷ fs) ds = Err (fault_at file fault.Unclosed f.opening)
