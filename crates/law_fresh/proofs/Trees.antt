-- Trees that are put together have the leaves of their parts.
use Rattle.std.proofs.Common.{List, [], ◌∷◌, Option, None, Some, Bool, true, false, Ok, Err, if◌then◌else◌}
use Rattle.base_data.specs.Elements.{Each}
use Rattle.base_data.specs.declared.span.Span.{Span}
use Rattle.stx_tree.specs.Context.{LeafContext}
use Rattle.stx_tree.specs.Measures.{fits, too_deep, within}
use Rattle.stx_tree.specs.Tree.{Tree, atom, leaf, pair, vector, nil, chain, spanned, unspanned, is_list, rest_of, list_of, vector_of}
use Rattle.law_fresh.specs.Leaves.{TreeHolds}
use Rattle.law_fresh.specs.Leaves.{OptionHolds}
pub use Rattle.law_invariants.proofs.Trees.{OkHolds}

module _ (P : LeafContext → Type 0) where
  pub spanned_holds : (s : Option Span) (t : Tree) → TreeHolds P t → TreeHolds P (spanned s t)
  spanned_holds s (atom r a) h = tt
  spanned_holds s (leaf r x c) h = h
  spanned_holds s (pair r a d) h = h
  spanned_holds s (vector r d) h = h

  pub unspanned_holds : (t : Tree) → TreeHolds P t → TreeHolds P (unspanned t)
  unspanned_holds (atom r a) h = tt
  unspanned_holds (leaf r x c) h = h
  unspanned_holds (pair r a d) h = (unspanned_holds a h.0, unspanned_holds d h.1)
  unspanned_holds (vector r d) h = unspanned_holds d h

  pub rest_holds : (t : Tree) → TreeHolds P t → TreeHolds P (rest_of t)
  rest_holds t h = by_test (is_list t)
    where
      by_test : (b : Bool) → TreeHolds P (if b then spanned None t else t)
      by_test true = spanned_holds None t h
      by_test false = h

  pub chained_holds : (ts : List Tree) (t : Tree) → Each (TreeHolds P) ts → TreeHolds P t → TreeHolds P (chain ts t)
  chained_holds [] t h k = k
  chained_holds (x ∷ ts) t h k = (h.0, chained_holds ts t h.1 k)

  pub list_of_holds : (ts : List Tree) (o : Option Tree) → Each (TreeHolds P) ts → OptionHolds (TreeHolds P) o → TreeHolds P (list_of ts o)
  list_of_holds [] None h k = tt
  list_of_holds [] (Some t) h k = k
  list_of_holds (x ∷ ts) None h k = chained_holds (x ∷ ts) nil h tt
  list_of_holds (x ∷ ts) (Some t) h k = chained_holds (x ∷ ts) (rest_of t) h (rest_holds t k)

  pub vector_of_holds : (ts : List Tree) → Each (TreeHolds P) ts → TreeHolds P (vector_of ts)
  vector_of_holds ts h = chained_holds ts nil h tt

  pub within_holds : (t : Tree) → TreeHolds P t → OkHolds (TreeHolds P) (within t)
  unfolding within
  within_holds t h = by_test (fits t)
    where
      by_test : (b : Bool) → OkHolds (TreeHolds P) (if b then Ok t else Err too_deep)
      by_test true = h
      by_test false = tt
