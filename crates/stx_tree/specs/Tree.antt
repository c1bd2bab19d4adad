-- A syntax tree: atoms, leaves, lists as pairs, and vectors, each with a span where it has one.
use Rattle.std.specs.Prelude.{ℕ, Bool, true, false, List, [], ◌∷◌, Option, None, Some, if◌then◌else◌}
use Rattle.base_data.specs.declared.atom.Atom.{Atom}
use Rattle.base_data.specs.declared.atom.Atom.TheVariants.{Nil}
use Rattle.base_data.specs.declared.span.Span.{Span}
use Rattle.stx_tree.specs.Context.{LeafContext}

-- A leaf is a symbol with its context. A list is pairs, each with an element and the rest, which has no span. A vector
-- has its elements as a list.
pub data Tree : Type 0 where
  atom : Option Span → Atom → Tree
  leaf : Option Span → List ℕ → LeafContext → Tree
  pair : Option Span → Tree → Tree → Tree
  vector : Option Span → Tree → Tree

-- the empty list that ends a list
abbrev pub nil : Tree
nil = atom None Nil

-- the elements, and then the tail, without a span of its own
abbrev pub chain : List Tree → Tree → Tree
chain [] t = t
chain (x ∷ xs) t = pair None x (chain xs t)

abbrev pub span_of : Tree → Option Span
span_of (atom s a) = s
span_of (leaf s x c) = s
span_of (pair s a d) = s
span_of (vector s d) = s

-- with this span at the root
abbrev pub spanned : Option Span → Tree → Tree
spanned s (atom _ a) = atom s a
spanned s (leaf _ x c) = leaf s x c
spanned s (pair _ a d) = pair s a d
spanned s (vector _ d) = vector s d

-- without any spans
abbrev pub unspanned : Tree → Tree
unspanned (atom s a) = atom None a
unspanned (leaf s x c) = leaf None x c
unspanned (pair s a d) = pair None (unspanned a) (unspanned d)
unspanned (vector s d) = vector None (unspanned d)

-- a list, or Nil
abbrev pub is_list : Tree → Bool
is_list (atom s Nil) = true
is_list (atom s _) = false
is_list (leaf s x c) = false
is_list (pair s a d) = true
is_list (vector s d) = false

abbrev pub is_pair : Tree → Bool
is_pair (atom s a) = false
is_pair (leaf s x c) = false
is_pair (pair s a d) = true
is_pair (vector s d) = false

-- as the rest of a list: a list or Nil has no span there
abbrev pub rest_of : Tree → Tree
rest_of t = if is_list t then spanned None t else t

-- the elements, and a tail: a list is joined on, and Nil ends the list
abbrev pub list_of : List Tree → Option Tree → Tree
list_of [] None = nil
list_of [] (Some t) = t
list_of (x ∷ xs) None = chain (x ∷ xs) nil
list_of (x ∷ xs) (Some t) = chain (x ∷ xs) (rest_of t)

abbrev pub vector_of : List Tree → Tree
vector_of xs = vector None (chain xs nil)
