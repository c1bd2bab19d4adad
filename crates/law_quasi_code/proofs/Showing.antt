-- What values show.
use Rattle.std.proofs.Common.{◌≡◌, ℕ, zero, suc, ◌≤◌, Bool, true, false, List, [], ◌∷◌, ◌++◌, length, Option, None, Some, refl, ap, subst, arith}
use Rattle.std.specs.Prelude.{if◌then◌else◌}
use Rattle.base_data.specs.declared.atom.Atom.{Atom}
use Rattle.base_data.specs.declared.atom.Atom.TheVariants as a
use Rattle.base_data.specs.declared.span.Span.{Span}
use Rattle.base_region.proofs.Laws.{slice_get-added}
use Rattle.stx_tree.specs.Leaves.{strip}
use Rattle.stx_tree.specs.Tree.{Tree, atom, leaf, pair, vector, nil, chain}
use Rattle.eval_value.specs.Cells.{pair_in, vector_in, string_in}
use Rattle.eval_value.specs.FromDatum.{atom_stored, stored, elements_stored}
use Rattle.eval_value.proofs.Stored.{stored_keeps, elements_keep}
use Rattle.eval_value.specs.declared.value.Value.{Value}
use Rattle.eval_value.specs.declared.cell.Cell.{Cell}
use Rattle.eval_value.specs.declared.cell.Cell.TheVariants as cell
use Rattle.eval_prims.specs.Chains as chains
use Rattle.eval_prims.specs.Chains.{Chain, pair_of, is_nil, chain_on, chain_to, list_elements}
use Rattle.law_lists.specs.Runs.{Runs, here, next, IsList}
use Rattle.law_lists.proofs.RunLemmas.{Stay, stay_added, pair_still, elements_run, chain_is}
use Rattle.law_lists.proofs.DataLemmas.{read_still}
use Rattle.law_given.proofs.Looking.{keeps-stay}
use Rattle.law_quasi.specs.Makes.{plain, plain_items}
use Rattle.law_quasi_code.specs.Shows.{Shows, of_given, of_atom, of_string, of_symbol, of_pair, of_vector, ShowsEach, no_more, one_more}

-- Lists in the store.

-- a list, of no more elements than there are cells
pub record Listed (cells : List Cell) (xs : List Value) (x : Value) : Type 0 where
  pub runs : IsList cells xs x
  pub short : length xs ≤ length cells

module _ (cells : List Cell) where
  pub listed_elements : (xs : List Value) (x : Value) → Listed cells xs x → list_elements cells x ≡ Some xs
  unfolding chains.chain
  listed_elements xs x h = ap (λ (c : Chain). if is_nil c.end then Some c.elements else None) ((chain_is cells) (length cells) h.runs refl h.short)

  chain_short : (n : ℕ) (x : Value) → length (chain_to n cells x).elements ≤ n
  unfolding chain_to
  chain_short zero x = omega arith
  chain_short (suc n) x = by (pair_of cells x) (chain_short n)
    where
      by : (o : Option (Value × Value)) → ((y : Value) → length (chain_to n cells y).elements ≤ n) → length (chain_on (chain_to n cells) x o).elements ≤ suc n
      by None again = omega arith
      by (Some p) again = let l = again p.1 in omega (arith, l)

  whole_short : (x : Value) → length (chains.chain cells x).elements ≤ length cells
  unfolding chains.chain
  whole_short x = chain_short (length cells) x

  pub elements_listed : (xs : List Value) (x : Value) → list_elements cells x ≡ Some xs → Listed cells xs x
  elements_listed xs x h = record { runs = elements_run cells xs x h; short = by (is_nil (chains.chain cells x).end) h }
    where
      by : (b : Bool) → (if b then Some (chains.chain cells x).elements else None) ≡ Some xs → length xs ≤ length cells
      by true e = let same : (chains.chain cells x).elements ≡ xs = cc in let l = whole_short x in subst (λ (ys : List Value). length ys ≤ length cells) same l
      by false e = absurd (cc)

-- what was there first, and what comes behind it
pub record Split (cells : List Cell) (xs ys : List Value) (rest x : Value) : Type 0 where
  pub middle : Value
  pub first : Runs cells xs middle x
  pub last : Runs cells ys rest middle

pub runs_split : (cells : List Cell) (xs ys : List Value) (rest x : Value) → Runs cells (xs ++ ys) rest x → Split cells xs ys rest x
runs_split cells [] ys rest x r = record { middle = x; first = here; last = r }
runs_split cells (y ∷ xs) ys rest x (next {d = d} f r) = let s = runs_split cells xs ys rest d r in record { middle = s.middle; first = next f s.first; last = s.last }

module _ (given : List (Tree × Value)) where
  -- What is shown is shown later.

  module _ (old new : List Cell) (s : Stay old new) where
    mutual
      pub shows_still : {t : Tree} {x : Value} → Shows given old t x → Shows given new t x
      shows_still (of_given h) = of_given h
      shows_still (of_atom e) = of_atom e
      shows_still (of_string {text = text} {p = p} e) = of_string (read_still string_in refl old new s p.0 text e)
      shows_still of_symbol = of_symbol
      shows_still (of_pair {v = v} {x = x} {y = y} e h k) = of_pair (pair_still old new s v x y e) (shows_still h) (shows_still k)
      shows_still (of_vector {p = p} {xs = xs} e h) = of_vector (read_still vector_in refl old new s p.0 xs e) (each_still h)

      pub each_still : {t : Tree} {xs : List Value} → ShowsEach given old t xs → ShowsEach given new t xs
      each_still no_more = no_more
      each_still (one_more h k) = one_more (shows_still h) (each_still k)

  -- Lists.

  pub each_both : (cells : List Cell) (ts us : List Tree) (xs ys : List Value)
      → ShowsEach given cells (chain ts nil) xs → ShowsEach given cells (chain us nil) ys → ShowsEach given cells (chain (ts ++ us) nil) (xs ++ ys)
  each_both cells [] us xs ys no_more k = k
  each_both cells (t ∷ ts) us xs ys (one_more {x = x} {xs = zs} h g) k = one_more h (each_both cells ts us zs ys g k)

  -- pairs whose elements show these, before a rest
  pub run_shows : (cells : List Cell) (ts : List Tree) (xs : List Value) (end : Tree) (rest x : Value)
      → ShowsEach given cells (chain ts nil) xs → Shows given cells end rest → Runs cells xs rest x → Shows given cells (chain ts end) x
  run_shows cells [] xs end rest x no_more k here = k
  run_shows cells (t ∷ ts) xs end rest x (one_more {xs = ys} h g) k (next {d = d} f r) = of_pair f h (run_shows cells ts ys end rest d g k r)

  -- What is stored of a form is its datum.

  atom_shows : (s : Option Span) (b : Atom) (cells : List Cell) → Shows given (atom_stored b cells).1 (atom s b) (atom_stored b cells).0
  atom_shows s a.Nil cells = of_atom refl
  atom_shows s (a.Bool b) cells = of_atom refl
  atom_shows s (a.Int z) cells = of_atom refl
  atom_shows s (a.Spelt text) cells = of_atom refl
  atom_shows s (a.Char c) cells = of_atom refl
  atom_shows s (a.Str text) cells = of_string (ap string_in (slice_get-added cells (cell.Str text)))
  atom_shows s (a.Bytes bytes) cells = of_atom refl

  mutual
    pub stored_shows : (t : Tree) (cells : List Cell) → Shows given (stored (strip t) cells).1 (plain t) (stored (strip t) cells).0
    stored_shows (atom s b) cells = atom_shows None b cells
    stored_shows (leaf s x c) cells = of_symbol
    stored_shows (pair s d e) cells =
        let first = stored (strip d) cells in
        let rest = stored (strip e) first.1 in
        let all = rest.1 ++ cell.Pair first.0 rest.0 ∷ [] in
        of_pair (ap pair_in (slice_get-added rest.1 (cell.Pair first.0 rest.0)))
        (shows_still rest.1 all (stay_added rest.1 (cell.Pair first.0 rest.0)) (shows_still first.1 rest.1 (keeps-stay first.1 rest.1 (stored_keeps (strip e) first.1)) (stored_shows d cells)))
        (shows_still rest.1 all (stay_added rest.1 (cell.Pair first.0 rest.0)) (stored_shows e first.1))
    stored_shows (vector s e) cells =
        let all = elements_stored (strip e) cells in
        of_vector (ap vector_in (slice_get-added all.1 (cell.Vector all.0))) (each_still all.1 (all.1 ++ cell.Vector all.0 ∷ []) (stay_added all.1 (cell.Vector all.0)) (elements_show e cells))

    elements_show : (t : Tree) (cells : List Cell) → ShowsEach given (elements_stored (strip t) cells).1 (plain_items t) (elements_stored (strip t) cells).0
    elements_show (atom s b) cells = no_more
    elements_show (leaf s x c) cells = no_more
    elements_show (pair s d e) cells =
        let first = stored (strip d) cells in
        let rest = elements_stored (strip e) first.1 in
        one_more (shows_still first.1 rest.1 (keeps-stay first.1 rest.1 (elements_keep (strip e) first.1)) (stored_shows d cells)) (elements_show e first.1)
    elements_show (vector s e) cells = no_more
