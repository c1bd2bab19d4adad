-- What is read of cells of which an invariant holds.
use Rattle.std.proofs.Common.{ℕ, zero, suc, List, [], ◌∷◌, Option, Some, None, Bool, true, false, length, slice_get, if◌then◌else◌}
use Rattle.eval_value.specs.Cells.{pair_in, pair_at, vector_in, vector_at, string_in, string_at}
use Rattle.eval_value.specs.declared.value.Value.{Value}
use Rattle.eval_value.specs.declared.value.Value.TheVariants as value
use Rattle.eval_value.specs.declared.cell.Cell.{Cell}
use Rattle.eval_value.specs.declared.cell.Cell.TheVariants as cell
use Rattle.eval_prims.specs.Chains.{pair_of, is_nil, chain_on, chain_to, chain, list_elements, then_tail, tail_after}
use Rattle.law_invariants.specs.Holds.{ValueHolds, ValuesHold, CellHolds, CellsHold}
use Rattle.law_invariants.specs.Invariant.{OptionHolds}
use Rattle.law_invariants.proofs.Eachs.{each_at}
use Rattle.law_invariants.specs.Invariant.{Invariant}

module _ (I : Invariant) where
  abbrev pub PairOr : Option (Value × Value) → Type 0
  PairOr None = Unit {0}
  PairOr (Some p) = ValueHolds I p.0 × ValueHolds I p.1

  abbrev pub ValueOr : Option Value → Type 0
  ValueOr None = Unit {0}
  ValueOr (Some v) = ValueHolds I v

  abbrev pub ValuesOr : Option (List Value) → Type 0
  ValuesOr None = Unit {0}
  ValuesOr (Some xs) = ValuesHold I xs

  pub value_at : (xs : List Value) (i : ℕ) → ValuesHold I xs → ValueOr (slice_get xs i)
  value_at [] i h = tt
  value_at (x ∷ xs) zero h = h.0
  value_at (x ∷ xs) (suc i) h = value_at xs i h.1

  pair_in_holds : (o : Option Cell) → OptionHolds (CellHolds I) o → PairOr (pair_in o)
  pair_in_holds None h = tt
  pair_in_holds (Some (cell.Pair x y)) h = h
  pair_in_holds (Some (cell.Vector xs)) h = tt
  pair_in_holds (Some (cell.Str text)) h = tt
  pair_in_holds (Some (cell.Scope es q)) h = tt
  pair_in_holds (Some (cell.Binds bs q)) h = tt
  pair_in_holds (Some (cell.Transformer x)) h = tt

  vector_in_holds : (o : Option Cell) → OptionHolds (CellHolds I) o → ValuesOr (vector_in o)
  vector_in_holds None h = tt
  vector_in_holds (Some (cell.Vector xs)) h = h
  vector_in_holds (Some (cell.Pair x y)) h = tt
  vector_in_holds (Some (cell.Str text)) h = tt
  vector_in_holds (Some (cell.Scope es q)) h = tt
  vector_in_holds (Some (cell.Binds bs q)) h = tt
  vector_in_holds (Some (cell.Transformer x)) h = tt

  abbrev pub TextOr : Option (List ℕ) → Type 0
  TextOr o = OptionHolds I.texts o

  string_in_holds : (o : Option Cell) → OptionHolds (CellHolds I) o → TextOr (string_in o)
  string_in_holds None h = tt
  string_in_holds (Some (cell.Str text)) h = h
  string_in_holds (Some (cell.Pair x y)) h = tt
  string_in_holds (Some (cell.Vector xs)) h = tt
  string_in_holds (Some (cell.Scope es q)) h = tt
  string_in_holds (Some (cell.Binds bs q)) h = tt
  string_in_holds (Some (cell.Transformer x)) h = tt

  module _ (cells : List Cell) (holds : CellsHold I cells) where
    pub string_at_holds : (n : ℕ) → TextOr (string_at cells n)
    string_at_holds n = string_in_holds (slice_get cells n) (each_at (CellHolds I) cells n holds)

    pub pair_at_holds : (n : ℕ) → PairOr (pair_at cells n)
    pair_at_holds n = pair_in_holds (slice_get cells n) (each_at (CellHolds I) cells n holds)

    pub vector_at_holds : (n : ℕ) → ValuesOr (vector_at cells n)
    vector_at_holds n = vector_in_holds (slice_get cells n) (each_at (CellHolds I) cells n holds)

    pub pair_holds : (x : Value) → PairOr (pair_of cells x)
    pair_holds (value.Pair p) = pair_at_holds p.0
    pair_holds value.Unspecified = tt
    pair_holds (value.Atom x) = tt
    pair_holds (value.Symbol x) = tt
    pair_holds (value.Vector p) = tt
    pair_holds (value.Str p) = tt
    pair_holds (value.Closure c p) = tt
    pair_holds (value.Prim op) = tt
    pair_holds (value.Syn t) = tt
    pair_holds (value.Transformer p) = tt

    chain_elements : (n : ℕ) (x : Value) → ValuesHold I (chain_to n cells x).elements
    unfolding chain_to
    chain_elements zero x = tt
    chain_elements (suc n) x = by_pair (chain_elements n) (pair_of cells x) (pair_holds x)
      where
        by_pair : ((y : Value) → ValuesHold I (chain_to n cells y).elements) → (o : Option (Value × Value)) → PairOr o → ValuesHold I (chain_on (chain_to n cells) x o).elements
        by_pair again None r = tt
        by_pair again (Some p) r = (r.0, again p.1)

    chain_end : (n : ℕ) (x : Value) → ValueHolds I x → ValueHolds I (chain_to n cells x).end
    unfolding chain_to
    chain_end zero x h = h
    chain_end (suc n) x h = by_pair (chain_end n) (pair_of cells x) (pair_holds x)
      where
        by_pair : ((y : Value) → ValueHolds I y → ValueHolds I (chain_to n cells y).end) → (o : Option (Value × Value)) → PairOr o → ValueHolds I (chain_on (chain_to n cells) x o).end
        by_pair again None r = h
        by_pair again (Some p) r = again p.1 r.1

    pub all_elements : (x : Value) → ValuesHold I (chain cells x).elements
    unfolding chain
    all_elements x = chain_elements (length cells) x

    pub the_end : (x : Value) → ValueHolds I x → ValueHolds I (chain cells x).end
    unfolding chain
    the_end x h = chain_end (length cells) x h

    pub elements_hold : (x : Value) → ValuesOr (list_elements cells x)
    elements_hold x = by_end (is_nil (chain cells x).end)
      where
        by_end : (t : Bool) → ValuesOr (if t then Some (chain cells x).elements else None)
        by_end true = all_elements x
        by_end false = tt

    pub tail_holds : (n : ℕ) (x : Value) → ValueHolds I x → ValueOr (tail_after n cells x)
    unfolding tail_after
    tail_holds zero x r = r
    tail_holds (suc n) x r = by_pair (tail_holds n) (pair_of cells x) (pair_holds x)
      where
        by_pair : ((y : Value) → ValueHolds I y → ValueOr (tail_after n cells y)) → (o : Option (Value × Value)) → PairOr o → ValueOr (then_tail (tail_after n cells) o)
        by_pair again None k = tt
        by_pair again (Some p) k = again p.1 k.1
