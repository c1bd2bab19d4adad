-- What `(quasisyntax TEMPLATE)` comes to, by cases (R6RS libraries 12.8): a template of `syntax`, told without its spans, and its inserts.
use Rattle.std.specs.Prelude.{◌≡◌, ℕ, zero, suc, true, false, List, [], ◌∷◌, ◌++◌, length, Option, None, Ok}
use Rattle.base_data.specs.declared.atom.Atom.{Atom}
use Rattle.base_data.specs.declared.atom.Atom.TheVariants.{Nil}
use Rattle.base_data.specs.declared.span.Span.{Span}
use Rattle.stx_tree.specs.Context.{LeafContext}
use Rattle.stx_tree.specs.Tree.{Tree, atom, leaf, pair, vector, nil, chain, unspanned, is_pair}
use Rattle.core_shapes.specs.Lists.{elements}
use Rattle.law_shapes.specs.Grammar.{IsList}
use Rattle.core_quasi.specs.QuasiSyntax.{Looked, insert_leaf, quasi_syntax}
use Rattle.core_quasi.specs.declared.quasi_syntax.Insert.{Insert}
use Rattle.core_quasi.specs.declared.quasi_syntax.QuasiSyntax.{QuasiSyntax}
use Rattle.core_quasi.specs.declared.word.QuasiWord.{QuasiWord}
use Rattle.core_quasi.specs.declared.word.QuasiWord.TheVariants as word
use Rattle.law_quasi.specs.Filled.{level_behind, is_tail}

-- Inserts: each has the leaf of its own number, and an expression under so many ellipses.

abbrev pub one_insert : ℕ → Tree → List Insert → List Insert
one_insert depth e is = is ++ record { leaf = insert_leaf (length is); expression = e; depth = depth } ∷ []

abbrev pub all_inserts : ℕ → List Tree → List Insert → List Insert
all_inserts depth [] is = is
all_inserts depth (e ∷ es) is = all_inserts depth es (one_insert depth e is)

-- `(unsyntax e ...)` as an element: a leaf for each expression
abbrev pub leaves_of : List Tree → List Insert → List Tree
leaves_of [] is = []
leaves_of (e ∷ es) is = insert_leaf (length is) ∷ leaves_of es (one_insert 0 e is)

-- `(unsyntax-splicing e ...)` as an element: a leaf and an ellipsis for each expression
abbrev pub splices_of : Tree → List Tree → List Insert → List Tree
splices_of dots [] is = []
splices_of dots (e ∷ es) is = insert_leaf (length is) ∷ dots ∷ splices_of dots es (one_insert 1 e is)

-- neither `unsyntax` nor `unsyntax-splicing`, where these are reached
abbrev pub IsPlainHead : ℕ → QuasiWord → Type 0
IsPlainHead zero x = (x ≡ word.Lower → ⊥) × (x ≡ word.Splice → ⊥)
IsPlainHead (suc n) x = Unit {0}

-- the level of the rest of a list, and that of its elements
pub record RestLevels : Type 0 where
  pub rest : ℕ
  pub elements : ℕ

abbrev pub levels : ℕ → ℕ → RestLevels
levels n m = record { rest = n; elements = m }

module _ (w : Looked) where
  -- Forms at a level, from the inserts before them to those behind them.
  mutual
    pub data IsInserted : ℕ → List Insert → Tree → Tree → List Insert → Type 0 where
      a_datum : {n : ℕ} {is : List Insert} {span : Option Span} {a : Atom} → IsInserted n is (atom span a) (atom None a) is
      an_identifier : {n : ℕ} {is : List Insert} {span : Option Span} {x : List ℕ} {c : LeafContext} → IsInserted n is (leaf span x c) (leaf None x c) is
      -- `(unsyntax e)`
      an_insert : {is : List Insert} {h e t : Tree} → w.words h ≡ word.Lower → IsList (h ∷ e ∷ []) t
          → IsInserted 0 is t (insert_leaf (length is)) (one_insert 0 e is)
      -- `(... template)` stays as it is
      an_escape : {n : ℕ} {is : List Insert} {h u t : Tree} → w.words h ≡ word.Escape → IsList (h ∷ u ∷ []) t → IsInserted n is t (unspanned t) is
      a_list : {n : ℕ} {is js ks : List Insert} {span : Option Span} {a d u : Tree} {us : List Tree}
          → IsPlainHead n (w.words a) → ((e : Tree) → w.words a ≡ word.Escape → IsList (e ∷ []) d → ⊥)
          → IsElement (level_behind (w.words a) n) is a us js → IsRest (levels n (level_behind (w.words a) n)) js d u ks
          → IsInserted n is (pair span a d) (chain us u) ks
      a_vector : {n : ℕ} {is js : List Insert} {span : Option Span} {d u : Tree} → AreVectorElements n is d u js
          → IsInserted n is (vector span d) (vector None u) js

    -- the rest of a list at the first of these levels, whose elements are at the second
    pub data IsRest : RestLevels → List Insert → Tree → Tree → List Insert → Type 0 where
      an_end : {n m : ℕ} {is js : List Insert} {d u : Tree} → is_pair d ≡ false → IsInserted n is d u js → IsRest (levels n m) is d u js
      -- `(1 . (unsyntax x))` is read as `(1 unsyntax x)`
      a_tail : {n m : ℕ} {is js : List Insert} {span : Option Span} {a d u : Tree} → is_tail w.words a d ≡ true
          → IsInserted n is (pair span a d) u js → IsRest (levels n m) is (pair span a d) u js
      another : {n m : ℕ} {is js ks : List Insert} {span : Option Span} {a d u : Tree} {us : List Tree}
          → is_tail w.words a d ≡ false → IsElement m is a us js → IsRest (levels n m) js d u ks → IsRest (levels n m) is (pair span a d) (chain us u) ks

    -- the elements of a vector
    pub data AreVectorElements : ℕ → List Insert → Tree → Tree → List Insert → Type 0 where
      no_item : {n : ℕ} {is : List Insert} {span : Option Span} → AreVectorElements n is (atom span Nil) nil is
      an_item : {n : ℕ} {is js ks : List Insert} {span : Option Span} {a d u : Tree} {us : List Tree}
          → IsElement n is a us js → AreVectorElements n js d u ks → AreVectorElements n is (pair span a d) (chain us u) ks

    -- an element of a list or vector, and the trees in its place
    pub data IsElement : ℕ → List Insert → Tree → List Tree → List Insert → Type 0 where
      each : {is : List Insert} {h t : Tree} {es : List Tree} → w.words h ≡ word.Lower → IsList (h ∷ es) t
          → IsElement 0 is t (leaves_of es is) (all_inserts 0 es is)
      spliced : {is : List Insert} {h t : Tree} {es : List Tree} → w.words h ≡ word.Splice → IsList (h ∷ es) t
          → IsElement 0 is t (splices_of (unspanned w.dots) es is) (all_inserts 1 es is)
      itself : {n : ℕ} {is js : List Insert} {t u : Tree} → IsKeptElement n t → IsInserted n is t u js → IsElement n is t (u ∷ []) js

    -- no list behind `unsyntax` or `unsyntax-splicing`, where these are reached
    pub data IsKeptElement : ℕ → Tree → Type 0 where
      further_in : {n : ℕ} {t : Tree} → IsKeptElement (suc n) t
      no_form : {t : Tree} → ((h : Tree) (es : List Tree) → IsList (h ∷ es) t → IsPlainHead 0 (w.words h)) → IsKeptElement 0 t

-- each vector in a form holds a list that ends in the empty list
abbrev pub HoldsLists : Tree → Type 0
HoldsLists (atom s a) = Unit {0}
HoldsLists (leaf s x k) = Unit {0}
HoldsLists (pair s a d) = HoldsLists a × HoldsLists d
HoldsLists (vector s d) = IsList (elements d) d × HoldsLists d

-- what a form comes to is what its cases say
abbrev pub InsertsAreTold : Type 0
InsertsAreTold = (w : Looked) (t form : Tree) (place : Span) (q : QuasiSyntax) → HoldsLists t → quasi_syntax w t form place ≡ Ok q
    → IsInserted w 0 [] t (unspanned q.template) q.inserts
