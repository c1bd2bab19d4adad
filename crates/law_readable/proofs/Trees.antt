-- Trees that are put together can be read where their parts can.
use Rattle.std.proofs.Common.{List, [], ◌∷◌, Option, None, Some, Bool, true, false, Ok, Err, if◌then◌else◌}
use Rattle.base_data.specs.Elements.{Each}
use Rattle.base_data.specs.declared.span.Span.{Span}
use Rattle.stx_tree.specs.Leaves.{strip}
use Rattle.stx_tree.specs.Measures.{fits, too_deep, within}
use Rattle.stx_tree.specs.Tree.{Tree, atom, leaf, pair, vector, nil, chain, spanned, unspanned, is_list, rest_of, list_of, vector_of}
use Rattle.law_readable.specs.Readable.{ReadableTree}
use Rattle.law_readable.specs.Readable.{IsProper, ReadableDatum, IsProperDatum}
use Rattle.law_fresh.specs.Leaves.{OptionHolds}
use Rattle.law_fresh.proofs.Trees.{OkHolds}

pub spanned_holds : (s : Option Span) (t : Tree) → ReadableTree t → ReadableTree (spanned s t)
spanned_holds s (atom r a) h = h
spanned_holds s (leaf r x c) h = h
spanned_holds s (pair r a d) h = h
spanned_holds s (vector r d) h = h

unspanned_proper : (t : Tree) → IsProper t → IsProper (unspanned t)
unspanned_proper (atom r a) h = h
unspanned_proper (leaf r x c) h = h
unspanned_proper (pair r a d) h = unspanned_proper d h
unspanned_proper (vector r d) h = h

pub unspanned_holds : (t : Tree) → ReadableTree t → ReadableTree (unspanned t)
unspanned_holds (atom r a) h = h
unspanned_holds (leaf r x c) h = h
unspanned_holds (pair r a d) h = (unspanned_holds a h.0, unspanned_holds d h.1)
unspanned_holds (vector r d) h = (unspanned_holds d h.0, unspanned_proper d h.1)

pub rest_holds : (t : Tree) → ReadableTree t → ReadableTree (rest_of t)
rest_holds t h = by_test (is_list t)
  where
    by_test : (b : Bool) → ReadableTree (if b then spanned None t else t)
    by_test true = spanned_holds None t h
    by_test false = h

pub chained_holds : (ts : List Tree) (t : Tree) → Each ReadableTree ts → ReadableTree t → ReadableTree (chain ts t)
chained_holds [] t h k = k
chained_holds (x ∷ ts) t h k = (h.0, chained_holds ts t h.1 k)

pub list_of_holds : (ts : List Tree) (o : Option Tree) → Each ReadableTree ts → OptionHolds ReadableTree o → ReadableTree (list_of ts o)
list_of_holds [] None h k = tt
list_of_holds [] (Some t) h k = k
list_of_holds (x ∷ ts) None h k = chained_holds (x ∷ ts) nil h tt
list_of_holds (x ∷ ts) (Some t) h k = chained_holds (x ∷ ts) (rest_of t) h (rest_holds t k)

chained_proper : (ts : List Tree) → IsProper (chain ts nil)
chained_proper [] = tt
chained_proper (x ∷ ts) = chained_proper ts

pub vector_of_holds : (ts : List Tree) → Each ReadableTree ts → ReadableTree (vector_of ts)
vector_of_holds ts h = (chained_holds ts nil h tt, chained_proper ts)

pub within_holds : (t : Tree) → ReadableTree t → OkHolds ReadableTree (within t)
unfolding within
within_holds t h = by_test (fits t)
  where
    by_test : (b : Bool) → OkHolds ReadableTree (if b then Ok t else Err too_deep)
    by_test true = h
    by_test false = tt

-- the datum of a tree

strip_proper : (t : Tree) → IsProper t → IsProperDatum (strip t)
strip_proper (atom r a) h = h
strip_proper (leaf r x c) h = h
strip_proper (pair r a d) h = strip_proper d h
strip_proper (vector r d) h = h

pub strip_holds : (t : Tree) → ReadableTree t → ReadableDatum (strip t)
strip_holds (atom r a) h = h
strip_holds (leaf r x c) h = h
strip_holds (pair r a d) h = (strip_holds a h.0, strip_holds d h.1)
strip_holds (vector r d) h = (strip_holds d h.0, strip_proper d h.1)
