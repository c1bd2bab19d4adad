-- A datum as it is meant: pairs, vectors, symbols and atoms, each with a span where it has one.
use Rattle.std.specs.Prelude.{ℕ, suc, ◌+◌, Bool, true, false, List, [], ◌∷◌, Option, Some, None, if◌then◌else◌}
use Rattle.base_data.specs.declared.span.Span.{Span}
use Rattle.base_data.specs.declared.atom.Atom.{Atom}
use Rattle.base_data.specs.declared.atom.Atom.TheVariants.{Nil}

-- A list is pairs, each with an element and the rest, which has no span. A vector has its elements as a list.
pub data PlainDatum : Type 0 where
  atom : Option Span → Atom → PlainDatum
  symbol : Option Span → List ℕ → PlainDatum
  pair : Option Span → PlainDatum → PlainDatum → PlainDatum
  vector : Option Span → PlainDatum → PlainDatum

-- the empty list that ends a list
abbrev pub nil : PlainDatum
nil = atom None Nil

-- the elements, and then the tail, without a span of its own
abbrev pub chain : List PlainDatum → PlainDatum → PlainDatum
chain [] t = t
chain (d ∷ ds) t = pair None d (chain ds t)

-- with this span at the root
abbrev pub spanned : Option Span → PlainDatum → PlainDatum
spanned s (atom _ a) = atom s a
spanned s (symbol _ x) = symbol s x
spanned s (pair _ d e) = pair s d e
spanned s (vector _ d) = vector s d

-- a list of one or more elements with this span
abbrev pub listed : Option Span → List PlainDatum → PlainDatum → PlainDatum
listed s ds t = spanned s (chain ds t)

-- what may stand behind the last element: no list, and the empty list only without a span
abbrev pub is_tail : PlainDatum → Bool
is_tail (atom None a) = true
is_tail (atom (Some s) Nil) = false
is_tail (atom (Some s) a) = true
is_tail (symbol s x) = true
is_tail (pair s d e) = false
is_tail (vector s d) = true

-- more than any part's
abbrev pub datum_size : PlainDatum → ℕ
datum_size (atom s a) = 1
datum_size (symbol s x) = 1
datum_size (pair s d e) = suc (datum_size d + datum_size e)
datum_size (vector s d) = suc (datum_size d)

-- without any spans
abbrev pub unspanned : PlainDatum → PlainDatum
unspanned (atom s a) = atom None a
unspanned (symbol s x) = symbol None x
unspanned (pair s d e) = pair None (unspanned d) (unspanned e)
unspanned (vector s d) = vector None (unspanned d)

abbrev pub atom_of : PlainDatum → Option Atom
atom_of (atom s a) = Some a
atom_of (symbol s x) = None
atom_of (pair s d e) = None
atom_of (vector s d) = None

-- the text of a symbol
abbrev pub symbol_text : PlainDatum → Option (List ℕ)
symbol_text (atom s a) = None
symbol_text (symbol s x) = Some x
symbol_text (pair s d e) = None
symbol_text (vector s d) = None

-- the elements of a list, up to its tail
abbrev pub elements : PlainDatum → List PlainDatum
elements (atom s a) = []
elements (symbol s x) = []
elements (pair s d e) = d ∷ elements e
elements (vector s d) = []

-- the first element of a list
abbrev pub first_of : PlainDatum → Option PlainDatum
first_of (atom s a) = None
first_of (symbol s x) = None
first_of (pair s d e) = Some d
first_of (vector s d) = None

-- what stands behind the elements
abbrev pub tail_of : PlainDatum → PlainDatum
tail_of (atom s a) = atom s a
tail_of (symbol s x) = symbol s x
tail_of (pair s d e) = tail_of e
tail_of (vector s d) = vector s d

abbrev pub is_nil : PlainDatum → Bool
is_nil (atom s Nil) = true
is_nil (atom s a) = false
is_nil (symbol s x) = false
is_nil (pair s d e) = false
is_nil (vector s d) = false

-- the elements of a list that ends in the empty list
abbrev pub proper_elements : PlainDatum → Option (List PlainDatum)
proper_elements d = if is_nil (tail_of d) then Some (elements d) else None

abbrev pub span_of : PlainDatum → Option Span
span_of (atom s a) = s
span_of (symbol s x) = s
span_of (pair s d e) = s
span_of (vector s d) = s
