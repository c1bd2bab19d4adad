-- Tokens that make no datum are refused as bytes.
use Rattle.std.proofs.Common.{ℕ, List, [], ◌∷◌, ◌++◌, length, Option, Some, None, Result, Ok, Err, if◌then◌else◌}
use Rattle.std.specs.Prelude.{◌==◌}
use Rattle.base_data.specs.Datum.{PlainDatum, atom, symbol}
use Rattle.base_data.specs.Gives.{◌>>=◌}
use Rattle.base_data.specs.declared.fault.Fault.{Fault}
use Rattle.base_data.specs.declared.fault.FaultKind.TheVariants as fault
use Rattle.read_lexer.specs.declared.token.Abbreviation.{Abbreviation}
use Rattle.read_lexer.specs.declared.token.Bracket.{Bracket}
use Rattle.read_lexer.specs.declared.token.Bracket.TheVariants as bracket
use Rattle.read_lexer.specs.declared.token.Lexeme.{Lexeme}
use Rattle.read_lexer.specs.declared.token.Token.{Token}
use Rattle.read_lexer.specs.declared.token.Token.TheVariants as t
use Rattle.read_machine.specs.declared.extent.Extent.{Extent}
use Rattle.read_machine.specs.declared.extent.Misplaced.{Misplaced}
use Rattle.read_machine.specs.declared.partial.OpenTail.{OpenTail}
use Rattle.read_machine.specs.declared.partial.OpenTail.TheVariants as tail
use Rattle.read_machine.specs.declared.partial.OpenParts.{OpenParts}
use Rattle.read_machine.specs.declared.partial.OpenParts.TheVariants as parts
use Rattle.read_machine.specs.declared.partial.Partial.{Partial}
use Rattle.read_machine.specs.declared.partial.ReaderState.{ReaderState}
use Rattle.read_machine.specs.Extent.{span_at, fault_at, through}
use Rattle.read_machine.specs.Partial.{on_parts, room_in, misplaced_by, misplaced_in, misplaced}
use Rattle.read_machine.specs.Form.{joined, abbreviated, byte_of}
use Rattle.read_machine.specs.Step.{state, with_parts, list_with, bytes_with, deliver, same_bracket, tail_of, ended, closed, nested, unless, opened, opened_bytes, dot_in, dotted, extent_of, step_by, step, finish}
use Rattle.law_kinds.specs.Kinds.{IsOfReading, Tells}
use Rattle.law_kinds.proofs.Gaps.{r-if, r-then}

module _ (file : List ℕ) where
  -- ---- a datum is complete

  in-list : (b : Bracket) (ds : List PlainDatum) (e : OpenTail) (d : PlainDatum) → Tells IsOfReading (list_with file b ds e d)
  in-list b ds tail.Absent d = tt
  in-list b ds (tail.Dotted dot) d = tt
  in-list b ds (tail.Given dot e) d = tt

  in-bytes : (ns : List ℕ) (n : Option ℕ) (at : Extent) → Tells IsOfReading (bytes_with file ns n at)
  in-bytes ns (Some n) at = tt
  in-bytes ns None at = tt

  delivers : (fs : List Partial) (ds : List PlainDatum) (d : PlainDatum) (at : Extent) → Tells IsOfReading (deliver file fs ds d at)
  delivers [] ds d at = tt
  delivers (f ∷ fs) ds d at = by f.parts (λ k. delivers fs ds (abbreviated file k f.opening d (through f.opening at)) (through f.opening at))
    where
      by : (p : OpenParts) → ((k : Abbreviation) → Tells IsOfReading (deliver file fs ds (abbreviated file k f.opening d (through f.opening at)) (through f.opening at)))
          → Tells IsOfReading (on_parts p (record {
            list = λ b items tail. list_with file b items tail d >>= λ q. Ok (state (with_parts f q ∷ fs) ds);
            vector = λ items. Ok (state (with_parts f (parts.Vector (items ++ d ∷ [])) ∷ fs) ds);
            bytes = λ ns. bytes_with file ns (byte_of d) at >>= λ q. Ok (state (with_parts f q ∷ fs) ds);
            abbreviation = λ k. deliver file fs ds (abbreviated file k f.opening d (through f.opening at)) (through f.opening at);
            skipped = Ok (state fs ds);
          }))
      by (parts.List b items e) further = r-then (list_with file b items e d) (λ q. Ok (state (with_parts f q ∷ fs) ds)) (in-list b items e d) (λ q. tt)
      by (parts.Vector items) further = tt
      by (parts.Bytes ns) further = r-then (bytes_with file ns (byte_of d) at) (λ q. Ok (state (with_parts f q ∷ fs) ds)) (in-bytes ns (byte_of d) at) (λ q. tt)
      by (parts.Abbreviation k) further = further k
      by parts.Skipped further = tt

  -- ---- a close

  last : (e : OpenTail) → Tells IsOfReading (tail_of file e)
  last tail.Absent = tt
  last (tail.Dotted dot) = tt
  last (tail.Given dot e) = tt

  ends : (p : OpenParts) (b : Bracket) (at all : Extent) → Tells IsOfReading (ended file p b at all)
  ends (parts.List c ds e) b at all =
      r-then (tail_of file e) (λ z. if same_bracket b c then Ok (joined (span_at file all) ds z) else Err (fault_at file fault.StrayClose at)) (last e) (λ z. r-if (same_bracket b c) _ _ tt tt)
  ends (parts.Vector ds) b at all = r-if (same_bracket b bracket.Round) _ _ tt tt
  ends (parts.Bytes ns) b at all = r-if (same_bracket b bracket.Round) _ _ tt tt
  ends (parts.Abbreviation k) b at all = tt
  ends parts.Skipped b at all = tt

  closes : (fs : List Partial) (ds : List PlainDatum) (b : Bracket) (at : Extent) → Tells IsOfReading (closed file fs ds b at)
  closes [] ds b at = tt
  closes (f ∷ fs) ds b at =
      r-then (ended file f.parts b at (through f.opening at)) (λ d. deliver file fs ds d (through f.opening at)) (ends f.parts b at (through f.opening at)) (λ d. delivers fs ds d (through f.opening at))

  -- ---- an opening

  nests : (nesting : ℕ) (s : ReaderState) (p : OpenParts) (at : Extent) → Tells IsOfReading (nested file nesting s p at)
  nests nesting s p at = r-if (room_in nesting s.stack == 0) _ _ tt tt

  -- what is wrong with a place is of these kinds
  abbrev Wrong : Option Misplaced → Type 0
  Wrong None = Unit {0}
  Wrong (Some w) = IsOfReading w.kind

  wrong-behind : (e : OpenTail) → Wrong (misplaced_by e)
  wrong-behind tail.Absent = tt
  wrong-behind (tail.Dotted dot) = tt
  wrong-behind (tail.Given dot e) = tt

  wrong-in : (p : OpenParts) (at : Extent) → Wrong (misplaced_in p at)
  wrong-in (parts.List b ds e) at = wrong-behind e
  wrong-in (parts.Vector ds) at = tt
  wrong-in (parts.Bytes ns) at = tt
  wrong-in (parts.Abbreviation k) at = tt
  wrong-in parts.Skipped at = tt

  wrong : (fs : List Partial) (at : Extent) → Wrong (misplaced fs at)
  wrong [] at = tt
  wrong (f ∷ fs) at = wrong-in f.parts at

  or-else : {A : Type 0} (w : Option Misplaced) (r : Result A Fault) → Wrong w → Tells IsOfReading r → Tells IsOfReading (unless file w r)
  or-else None r h k = k
  or-else (Some w) r h k = h

  opens : (nesting : ℕ) (s : ReaderState) (p : OpenParts) (at : Extent) → Tells IsOfReading (opened file nesting s p at)
  opens nesting s p at = or-else (misplaced s.stack at) (nested file nesting s p at) (wrong s.stack at) (nests nesting s p at)

  opens-bytes : (nesting : ℕ) (s : ReaderState) (at : Extent) → Tells IsOfReading (opened_bytes file nesting s at)
  opens-bytes nesting s at = or-else (misplaced s.stack at) (Ok (state (record { opening = at; room = room_in nesting s.stack; parts = parts.Bytes [] } ∷ s.stack) s.done)) (wrong s.stack at) tt

  -- ---- a dot

  dot-behind : (ds : List PlainDatum) (e : OpenTail) (at : Extent) → Tells IsOfReading (dot_in file ds e at)
  dot-behind ds tail.Absent at = r-if (length ds == 0) _ _ tt tt
  dot-behind ds (tail.Dotted dot) at = tt
  dot-behind ds (tail.Given dot e) at = tt

  dots : (fs : List Partial) (ds : List PlainDatum) (at : Extent) → Tells IsOfReading (dotted file fs ds at)
  dots [] ds at = tt
  dots (f ∷ fs) ds at = by f.parts
    where
      by : (p : OpenParts)
          → Tells IsOfReading (on_parts p (record {
            list = λ b items tail. dot_in file items tail at >>= λ u. Ok (state (with_parts f (parts.List b items u) ∷ fs) ds);
            vector = λ items. Err (fault_at file fault.BadDot at);
            bytes = λ ns. Err (fault_at file fault.BadDot at);
            abbreviation = λ k. Err (fault_at file fault.BadDot at);
            skipped = Err (fault_at file fault.BadDot at);
          }))
      by (parts.List b items e) = r-then (dot_in file items e at) (λ u. Ok (state (with_parts f (parts.List b items u) ∷ fs) ds)) (dot-behind items e at) (λ u. tt)
      by (parts.Vector items) = tt
      by (parts.Bytes ns) = tt
      by (parts.Abbreviation k) = tt
      by parts.Skipped = tt

  -- ---- each token

  token : (nesting : ℕ) (s : ReaderState) (x : Token) (at : Extent) → Tells IsOfReading (step_by file nesting s x at)
  token nesting s (t.Open b) at = opens nesting s (parts.List b [] tail.Absent) at
  token nesting s (t.Close b) at = closes s.stack s.done b at
  token nesting s t.OpenVector at = opens nesting s (parts.Vector []) at
  token nesting s t.OpenBytes at = opens-bytes nesting s at
  token nesting s (t.Abbreviation k) at = opens nesting s (parts.Abbreviation k) at
  token nesting s t.SkipDatum at = nests nesting s parts.Skipped at
  token nesting s t.Dot at = dots s.stack s.done at
  token nesting s (t.Atom c) at = delivers s.stack s.done (atom (span_at file at) c) at
  token nesting s (t.Symbol x) at = delivers s.stack s.done (symbol (span_at file at) x) at

  pub tells-step : (nesting : ℕ) (s : ReaderState) (l : Lexeme) → Tells IsOfReading (step file nesting s l)
  tells-step nesting s l = token nesting s l.token (extent_of l)

  pub tells-finish : (fs : List Partial) (ds : List PlainDatum) → Tells IsOfReading (finish file fs ds)
  tells-finish [] ds = tt
  tells-finish (f ∷ fs) ds = tt
