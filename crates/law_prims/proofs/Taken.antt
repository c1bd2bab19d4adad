-- What holds of the values in the cells holds of what is read from them.
use Rattle.std.proofs.Common.{◌≡◌, ℕ, zero, suc, List, [], ◌∷◌, Option, Some, None, Bool, true, false, length, refl, slice_get, if◌then◌else◌}
use Rattle.base_data.specs.Elements.{Each}
use Rattle.eval_value.specs.Cells.{pair_in, pair_at, vector_in, vector_at}
use Rattle.eval_value.specs.declared.value.Value.{Value}
use Rattle.eval_value.specs.declared.value.Value.TheVariants as value
use Rattle.eval_value.specs.declared.cell.Cell.{Cell}
use Rattle.eval_value.specs.declared.cell.Cell.TheVariants as cell
use Rattle.eval_prims.specs.Chains.{pair_of, is_nil, chain_on, chain_to, chain, list_elements, then_tail, tail_after}
use Rattle.law_prims.specs.Holds.{HoldsIn}

-- Lists.

module _ (P : Value → Type 0) where
  abbrev pub PairOr : Option (Value × Value) → Type 0
  PairOr None = Unit {0}
  PairOr (Some p) = P p.0 × P p.1

  abbrev pub ValueOr : Option Value → Type 0
  ValueOr None = Unit {0}
  ValueOr (Some v) = P v

  abbrev pub ValuesOr : Option (List Value) → Type 0
  ValuesOr None = Unit {0}
  ValuesOr (Some xs) = Each P xs

  pub slice_holds : (xs : List Value) (i : ℕ) → Each P xs → ValueOr (slice_get xs i)
  slice_holds [] i h = tt
  slice_holds (x ∷ xs) zero h = h.0
  slice_holds (x ∷ xs) (suc i) h = slice_holds xs i h.1

-- What is read.

module _ (P : Value → Type 0) (cells : List Cell) (holds : HoldsIn P cells) where
  pub pair_at_holds : (n : ℕ) → PairOr P (pair_at cells n)
  pair_at_holds n = by_cell (slice_get cells n) refl
    where
      by_cell : (o : Option Cell) → slice_get cells n ≡ o → PairOr P (pair_in o)
      by_cell None e = tt
      by_cell (Some (cell.Pair x y)) e = holds.parts n (cell.Pair x y) e
      by_cell (Some (cell.Vector xs)) e = tt
      by_cell (Some (cell.Str text)) e = tt
      by_cell (Some (cell.Scope es q)) e = tt
      by_cell (Some (cell.Binds bs q)) e = tt
      by_cell (Some (cell.Transformer x)) e = tt

  pub vector_at_holds : (n : ℕ) → ValuesOr P (vector_at cells n)
  vector_at_holds n = by_cell (slice_get cells n) refl
    where
      by_cell : (o : Option Cell) → slice_get cells n ≡ o → ValuesOr P (vector_in o)
      by_cell None e = tt
      by_cell (Some (cell.Vector xs)) e = holds.parts n (cell.Vector xs) e
      by_cell (Some (cell.Pair x y)) e = tt
      by_cell (Some (cell.Str text)) e = tt
      by_cell (Some (cell.Scope es q)) e = tt
      by_cell (Some (cell.Binds bs q)) e = tt
      by_cell (Some (cell.Transformer x)) e = tt

  pub pair_holds : (x : Value) → PairOr P (pair_of cells x)
  pair_holds (value.Pair p) = pair_at_holds p.0
  pair_holds value.Unspecified = tt
  pair_holds (value.Atom x) = tt
  pair_holds (value.Symbol x) = tt
  pair_holds (value.Vector p) = tt
  pair_holds (value.Str p) = tt
  pair_holds (value.Closure c p) = tt
  pair_holds (value.Prim op) = tt
  pair_holds (value.Syn t) = tt
  pair_holds (value.Transformer p) = tt

  chain_to_holds : (n : ℕ) (x : Value) → Each P (chain_to n cells x).elements
  unfolding chain_to
  chain_to_holds zero x = tt
  chain_to_holds (suc n) x = by_pair (chain_to_holds n) (pair_of cells x) (pair_holds x)
    where
      by_pair : ((y : Value) → Each P (chain_to n cells y).elements) → (o : Option (Value × Value)) → PairOr P o → Each P (chain_on (chain_to n cells) x o).elements
      by_pair again None r = tt
      by_pair again (Some p) r = (r.0, again p.1)

  chain_holds : (x : Value) → Each P (chain cells x).elements
  unfolding chain
  chain_holds x = chain_to_holds (length cells) x

  pub elements_hold : (x : Value) → ValuesOr P (list_elements cells x)
  elements_hold x = by_end (is_nil (chain cells x).end)
    where
      by_end : (t : Bool) → ValuesOr P (if t then Some (chain cells x).elements else None)
      by_end true = chain_holds x
      by_end false = tt

  pub tail_holds : (n : ℕ) (x : Value) → P x → ValueOr P (tail_after n cells x)
  unfolding tail_after
  tail_holds zero x r = r
  tail_holds (suc n) x r = by_pair (tail_holds n) (pair_of cells x) (pair_holds x)
    where
      by_pair : ((y : Value) → P y → ValueOr P (tail_after n cells y)) → (o : Option (Value × Value)) → PairOr P o → ValueOr P (then_tail (tail_after n cells) o)
      by_pair again None k = tt
      by_pair again (Some p) k = again p.1 k.1
