-- What is stored keeps an invariant of its parts, and so do data that are read of values.
use Rattle.std.proofs.Common.{◌≡◌, ◌+◌, ◌≤◌, ◌<◌, ℕ, zero, suc, List, [], ◌∷◌, ◌++◌, Option, Some, None, length, map, arith, sym, subst}
use Rattle.base_data.proofs.ElementLemmas.{each-and}
use Rattle.base_data.specs.Datum as datum
use Rattle.base_data.specs.Datum.{PlainDatum, atom, symbol, pair, vector}
use Rattle.base_data.specs.Named.{Named}
use Rattle.base_data.specs.declared.library.LibName.{LibName}
use Rattle.base_data.specs.declared.atom.Atom.{Atom}
use Rattle.base_data.specs.declared.atom.Atom.TheVariants as a
use Rattle.eval_value.specs.Cells.{string_at}
use Rattle.eval_value.specs.FromDatum.{atom_stored, pairs_stored, vector_stored, stored, elements_stored}
use Rattle.eval_value.specs.declared.value.Value.{Value}
use Rattle.eval_value.specs.declared.value.Value.TheVariants as value
use Rattle.eval_value.specs.declared.cell.Cell.{Cell}
use Rattle.eval_value.specs.declared.cell.Cell.TheVariants as cell
use Rattle.eval_prims.specs.Chains.{pair_of}
use Rattle.eval_prims.specs.Copied.{text_in, own_datum, datum_by, datum_to, datum_in}
use Rattle.eval_prims.specs.Perform.{name_after, temporary, temporaries, performed, names_taken}
use Rattle.eval_prims.specs.Strings.{vector_of}
use Rattle.eval_prims.specs.declared.made.PrimResult.{PrimResult}
use Rattle.eval_prims.specs.declared.made.PrimResult.TheVariants as made
use Rattle.law_invariants.specs.Holds.{ValueHolds, ValuesHold, CellHolds, CellsHold}
use Rattle.law_invariants.proofs.Calls.{MadeHolds}
use Rattle.law_invariants.proofs.Reading.{PairOr, ValuesOr, TextOr, vector_at_holds, string_at_holds, pair_holds}
use Rattle.law_invariants.specs.Invariant.{Invariant, DatumHolds}
use Rattle.law_invariants.specs.Closed.{IsClosed, Rises}
use Rattle.law_invariants.proofs.Wider.{value_wider, cells_wider}

module _ (I : Invariant) where
  -- a value with the cells then
  abbrev pub StoredHolds : Value × List Cell → Type 0
  StoredHolds p = ValueHolds I p.0 × CellsHold I p.1

  abbrev pub ValuesStored : List Value × List Cell → Type 0
  ValuesStored p = ValuesHold I p.0 × CellsHold I p.1

  pub one_more : (cells : List Cell) (c : Cell) → CellsHold I cells → CellHolds I c → CellsHold I (cells ++ c ∷ [])
  one_more cells c h k = each-and (CellHolds I) cells c h k

  pub pairs_hold : (xs : List Value) (p : Value × List Cell) → ValuesHold I xs → StoredHolds p → StoredHolds (pairs_stored xs p)
  pairs_hold [] p h k = k
  pairs_hold (x ∷ xs) p h k = let q = pairs_hold xs p h.1 k in (tt, one_more (pairs_stored xs p).1 (cell.Pair x (pairs_stored xs p).0) q.1 (h.0, q.0))

  pub vector_holds : (p : List Value × List Cell) → ValuesStored p → StoredHolds (vector_stored p)
  vector_holds p h = (tt, one_more p.1 (cell.Vector p.0) h.1 h.0)

  module _ (closed : IsClosed I) where
    atom_holds : (x : Atom) (cells : List Cell) → I.atoms x → CellsHold I cells → StoredHolds (atom_stored x cells)
    atom_holds a.Nil cells k h = (k, h)
    atom_holds (a.Bool b) cells k h = (k, h)
    atom_holds (a.Int z) cells k h = (k, h)
    atom_holds (a.Spelt text) cells k h = (k, h)
    atom_holds (a.Char c) cells k h = (k, h)
    atom_holds (a.Str text) cells k h = (tt, one_more cells (cell.Str text) h (closed.contents text k))
    atom_holds (a.Bytes bytes) cells k h = (k, h)

    mutual
      pub stored_holds : (d : PlainDatum) (cells : List Cell) → DatumHolds I d → CellsHold I cells → StoredHolds (stored d cells)
      stored_holds (atom s x) cells k h = atom_holds x cells k h
      stored_holds (symbol s x) cells k h = (k, h)
      stored_holds (pair s d e) cells k h =
          let p = stored_holds d cells k.0 h in
          let q = stored_holds e (stored d cells).1 k.1 p.1 in
          (tt, one_more (stored e (stored d cells).1).1 (cell.Pair (stored d cells).0 (stored e (stored d cells).1).0) q.1 (p.0, q.0))
      stored_holds (vector s d) cells k h = vector_holds (elements_stored d cells) (elements_hold d cells k h)

      elements_hold : (d : PlainDatum) (cells : List Cell) → DatumHolds I d → CellsHold I cells → ValuesStored (elements_stored d cells)
      elements_hold (atom s x) cells k h = (tt, h)
      elements_hold (symbol s x) cells k h = (tt, h)
      elements_hold (pair s d e) cells k h =
          let p = stored_holds d cells k.0 h in
          let q = elements_hold e (stored d cells).1 k.1 p.1 in
          ((p.0, q.0), q.1)
      elements_hold (vector s d) cells k h = (tt, h)

    -- data that are read of values

    module _ (cells : List Cell) (holds : CellsHold I cells) where
      text_holds : (o : Option (List ℕ)) → TextOr I o → I.atoms (text_in o)
      text_holds None h = closed.nil
      text_holds (Some s) h = closed.strings s h

      own_holds : (x : Value) → ValueHolds I x → DatumHolds I (own_datum cells x)
      own_holds (value.Atom x) h = h
      own_holds (value.Str p) h = text_holds (string_at cells p.0) (string_at_holds I cells holds p.0)
      own_holds (value.Syn t) h = closed.stripped t h
      own_holds value.Unspecified h = closed.nil
      own_holds (value.Symbol x) h = closed.nil
      own_holds (value.Pair p) h = closed.nil
      own_holds (value.Vector p) h = closed.nil
      own_holds (value.Closure c p) h = closed.nil
      own_holds (value.Prim op) h = closed.nil
      own_holds (value.Transformer p) h = closed.nil

      vector_of_holds : (x : Value) → ValuesOr I (vector_of cells x)
      vector_of_holds (value.Vector p) = vector_at_holds I cells holds p.0
      vector_of_holds value.Unspecified = tt
      vector_of_holds (value.Atom x) = tt
      vector_of_holds (value.Symbol x) = tt
      vector_of_holds (value.Pair p) = tt
      vector_of_holds (value.Str p) = tt
      vector_of_holds (value.Closure c p) = tt
      vector_of_holds (value.Prim op) = tt
      vector_of_holds (value.Syn t) = tt
      vector_of_holds (value.Transformer p) = tt

      module _ (read : Value → PlainDatum) (reads : (x : Value) → ValueHolds I x → DatumHolds I (read x)) where
        elements_read : (xs : List Value) → ValuesHold I xs → DatumHolds I (datum.chain (map read xs) datum.nil)
        elements_read [] h = closed.nil
        elements_read (x ∷ xs) h = (reads x h.0, elements_read xs h.1)

        by_parts : (own : PlainDatum) (p : Option (Value × Value)) (xs : Option (List Value)) → DatumHolds I own → PairOr I p → ValuesOr I xs → DatumHolds I (datum_by read own p xs)
        by_parts own (Some p) xs h k j = (reads p.0 k.0, reads p.1 k.1)
        by_parts own None (Some xs) h k j = elements_read xs j
        by_parts own None None h k j = h

      read_to : (n : ℕ) (x : Value) → ValueHolds I x → DatumHolds I (datum_to n cells x)
      unfolding datum_to
      read_to zero x h = own_holds x h
      read_to (suc n) x h = by_parts (datum_to n cells) (read_to n) (own_datum cells x) (pair_of cells x) (vector_of cells x) (own_holds x h) (pair_holds I cells holds x) (vector_of_holds x)

      datum_in_holds : (x : Value) → ValueHolds I x → DatumHolds I (datum_in cells x)
      unfolding datum_in
      datum_in_holds x h = read_to (length cells) x h

module _ (own : LibName) (first : ℕ) (I : ℕ → Invariant) (rises : Rises own first I) where
  temporary_holds : (n : ℕ) (name : Named) → name.library ≡ own → first ≤ name.number → name.number < n → (I n).trees (temporary name)
  temporary_holds n name e low lt = subst (λ (l : LibName). (I n).trees (temporary (record { library = l; number = name.number }))) (sym e) (rises.temporaries name.number n low lt)

  temporaries_hold : (n count : ℕ) (name : Named) → name.library ≡ own → first ≤ name.number → name.number + count ≤ n → ValuesHold (I n) (temporaries count name)
  temporaries_hold n zero name e low le = tt
  temporaries_hold n (suc count) name e low le = (temporary_holds n name e low (omega (arith, le)), temporaries_hold n count (name_after 1 name) e (omega (arith, low)) (omega (arith, le)))

  -- what was made is stored, and names are taken
  pub performed_holds : (m : PrimResult) (name : Named) (cells : List Cell) → name.library ≡ own → first ≤ name.number → CellsHold (I name.number) cells → MadeHolds (I name.number) m
      → StoredHolds (I (name_after (names_taken m) name).number) (performed m name cells)
  performed_holds m name cells e low h k = by m k
    where
      n : ℕ
      n = name.number

      later : (count : ℕ) (p : Value × List Cell) → StoredHolds (I n) p → StoredHolds (I (n + count)) p
      later count p s = (value_wider (I n) (I (n + count)) (rises.later n (n + count) (omega arith)) p.0 s.0, cells_wider (I n) (I (n + count)) (rises.later n (n + count) (omega arith)) p.1 s.1)

      by : (m : PrimResult) → MadeHolds (I n) m → StoredHolds (I (name_after (names_taken m) name).number) (performed m name cells)
      by (made.Value x) k = later 0 (x, cells) (k, h)
      by (made.List xs x) k = later 0 (pairs_stored xs (x, cells)) (pairs_hold (I n) xs (x, cells) k.0 (k.1, h))
      by (made.Vector xs) k = later 0 (vector_stored (xs, cells)) (vector_holds (I n) (xs, cells) (k, h))
      by (made.Text text) k = later 0 (value.Str (record { 0 = length cells }), cells ++ cell.Str text ∷ []) (tt, one_more (I n) cells (cell.Str text) h k)
      by (made.Transformer x) k = later 0 (value.Transformer (record { 0 = length cells }), cells ++ cell.Transformer x ∷ []) (tt, one_more (I n) cells (cell.Transformer x) h k)
      by (made.Datum x) k = later 0 (stored (datum_in cells x) cells) (stored_holds (I n) (rises.closed n) (datum_in cells x) cells (datum_in_holds (I n) (rises.closed n) cells h x k) h)
      by (made.Temporaries count) k =
          pairs_hold (I (n + count)) (temporaries count name) (value.Atom a.Nil, cells) (temporaries_hold (n + count) count name e low (omega arith))
          ((rises.closed (n + count)).nil, cells_wider (I n) (I (n + count)) (rises.later n (n + count) (omega arith)) cells h)
