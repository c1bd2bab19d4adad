-- The codecs of data and of syntax trees: a list is its elements, one or more, and a tail that is no list.
use Rattle.std.specs.Prelude.{ℕ, zero, suc, ◌⊎◌, Bool, true, false, ◌&&◌, List, [], ◌∷◌, Option, Some, None}
use Rattle.std.proofs.Common.{inl, inr}
use Rattle.base_data.specs.Datum as d
use Rattle.base_data.specs.Datum.{PlainDatum}
use Rattle.base_data.specs.declared.atom.Atom.{Atom}
use Rattle.base_data.specs.declared.atom.Atom.TheVariants.{Nil}
use Rattle.base_data.specs.declared.span.Span.{Span}
use Rattle.base_bytes.specs.Codec.{Codec, checked, never, text, seen_as, ◌then◌, optional, listed, tagged, last, ◌or◌}
use Rattle.base_bytes.specs.Names.{span, atom}
use Rattle.core_codec.specs.Contexts.{context}
use Rattle.stx_tree.specs.Context.{LeafContext}
use Rattle.stx_tree.specs.Measures.{fits}
use Rattle.stx_tree.specs.Tree as t
use Rattle.stx_tree.specs.Tree.{Tree}

abbrev pub is_some_list : {A : Type 0} → List A → Bool
is_some_list [] = false
is_some_list (x ∷ xs) = true

-- ---- data

-- an atom, a symbol, a list of elements and a tail, or the elements of a vector
abbrev pub DatumNode : Type 0
DatumNode = Atom ⊎ (List ℕ ⊎ ((List PlainDatum × PlainDatum) ⊎ List PlainDatum))

abbrev pub DatumCases : Type 0
DatumCases = Option Span × DatumNode

abbrev pub datum_to : PlainDatum → DatumCases
datum_to (d.atom s a) = (s, inl a)
datum_to (d.symbol s x) = (s, inr (inl x))
datum_to (d.pair s a e) = (s, inr (inr (inl (a ∷ d.elements e, d.tail_of e))))
datum_to (d.vector s e) = (s, inr (inr (inr (d.elements e))))

abbrev pub datum_node : Option Span → DatumNode → PlainDatum
datum_node s (inl a) = d.atom s a
datum_node s (inr (inl x)) = d.symbol s x
datum_node s (inr (inr (inl p))) = d.listed s p.0 p.1
datum_node s (inr (inr (inr xs))) = d.vector s (d.chain xs d.nil)

abbrev pub datum_from : DatumCases → PlainDatum
datum_from p = datum_node p.0 p.1

-- the rest of a list: pairs without spans, and a tail
abbrev pub is_datum_rest : PlainDatum → Bool
is_datum_rest (d.atom s a) = d.is_tail (d.atom s a)
is_datum_rest (d.symbol s x) = true
is_datum_rest (d.pair None a e) = is_datum_rest e
is_datum_rest (d.pair (Some s) a e) = false
is_datum_rest (d.vector s e) = true

-- the elements of a vector: pairs without spans, and the empty list without one
abbrev pub are_datum_elements : PlainDatum → Bool
are_datum_elements (d.atom None Nil) = true
are_datum_elements (d.atom s a) = false
are_datum_elements (d.symbol s x) = false
are_datum_elements (d.pair None a e) = are_datum_elements e
are_datum_elements (d.pair (Some s) a e) = false
are_datum_elements (d.vector s e) = false

abbrev pub is_datum : PlainDatum → Bool
is_datum (d.atom s a) = true
is_datum (d.symbol s x) = true
is_datum (d.pair s a e) = is_datum_rest e
is_datum (d.vector s e) = are_datum_elements e

abbrev pub is_datum_list : List PlainDatum × PlainDatum → Bool
is_datum_list p = is_some_list p.0 && d.is_tail p.1

-- what a datum is, over the codec of its parts
unfoldable pub datum_node_codec : Codec PlainDatum → Codec DatumNode
datum_node_codec part = tagged (atom or text or checked is_datum_list (listed part then part) or last (listed part))

-- one level of a datum
unfoldable pub datum_level : Codec PlainDatum → Codec PlainDatum
datum_level part = seen_as datum_to datum_from is_datum (optional span then datum_node_codec part)

-- data of at most this height
unfoldable pub datum : ℕ → Codec PlainDatum
datum zero = never
datum (suc room) = datum_level (datum room)

-- ---- trees

-- an atom, a leaf, a list of elements and a tail, or the elements of a vector
abbrev pub TreeNode : Type 0
TreeNode = Atom ⊎ ((List ℕ × LeafContext) ⊎ ((List Tree × Tree) ⊎ List Tree))

abbrev pub TreeCases : Type 0
TreeCases = Option Span × TreeNode

abbrev pub elements : Tree → List Tree
elements (t.atom s a) = []
elements (t.leaf s x c) = []
elements (t.pair s a e) = a ∷ elements e
elements (t.vector s e) = []

abbrev pub tail_of : Tree → Tree
tail_of (t.atom s a) = t.atom s a
tail_of (t.leaf s x c) = t.leaf s x c
tail_of (t.pair s a e) = tail_of e
tail_of (t.vector s e) = t.vector s e

abbrev pub is_tail : Tree → Bool
is_tail (t.atom None a) = true
is_tail (t.atom (Some s) Nil) = false
is_tail (t.atom (Some s) a) = true
is_tail (t.leaf s x c) = true
is_tail (t.pair s a e) = false
is_tail (t.vector s e) = true

abbrev pub tree_to : Tree → TreeCases
tree_to (t.atom s a) = (s, inl a)
tree_to (t.leaf s x c) = (s, inr (inl (x, c)))
tree_to (t.pair s a e) = (s, inr (inr (inl (a ∷ elements e, tail_of e))))
tree_to (t.vector s e) = (s, inr (inr (inr (elements e))))

abbrev pub tree_node : Option Span → TreeNode → Tree
tree_node s (inl a) = t.atom s a
tree_node s (inr (inl p)) = t.leaf s p.0 p.1
tree_node s (inr (inr (inl p))) = t.spanned s (t.chain p.0 p.1)
tree_node s (inr (inr (inr xs))) = t.vector s (t.chain xs t.nil)

abbrev pub tree_from : TreeCases → Tree
tree_from p = tree_node p.0 p.1

abbrev pub is_rest : Tree → Bool
is_rest (t.atom s a) = is_tail (t.atom s a)
is_rest (t.leaf s x c) = true
is_rest (t.pair None a e) = is_rest e
is_rest (t.pair (Some s) a e) = false
is_rest (t.vector s e) = true

abbrev pub are_elements : Tree → Bool
are_elements (t.atom None Nil) = true
are_elements (t.atom s a) = false
are_elements (t.leaf s x c) = false
are_elements (t.pair None a e) = are_elements e
are_elements (t.pair (Some s) a e) = false
are_elements (t.vector s e) = false

abbrev pub is_tree : Tree → Bool
is_tree (t.atom s a) = true
is_tree (t.leaf s x c) = true
is_tree (t.pair s a e) = is_rest e
is_tree (t.vector s e) = are_elements e

abbrev pub is_tree_list : List Tree × Tree → Bool
is_tree_list p = is_some_list p.0 && is_tail p.1

-- what a tree is, over the codec of its parts
unfoldable pub tree_node_codec : Codec Tree → Codec TreeNode
tree_node_codec part = tagged (atom or (text then context) or checked is_tree_list (listed part then part) or last (listed part))

-- one level of a tree that is within the limits of height and size
unfoldable pub tree_level : Codec Tree → Codec Tree
tree_level part = checked fits (seen_as tree_to tree_from is_tree (optional span then tree_node_codec part))

unfoldable pub tree : ℕ → Codec Tree
tree zero = never
tree (suc room) = tree_level (tree room)
