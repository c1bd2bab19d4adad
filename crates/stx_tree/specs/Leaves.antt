-- Between data and trees: the symbols of a datum are the leaves of a tree.
use Rattle.std.specs.Prelude.{List, [], ◌∷◌, ◌++◌}
use Rattle.base_data.specs.declared.name.Mark.{Mark}
use Rattle.base_data.specs.Datum.{PlainDatum}
use Rattle.base_data.specs.Datum as datum
use Rattle.stx_tree.specs.declared.stamp.Stamp.{Stamp}
use Rattle.stx_tree.specs.Context.{LeafContext, blank}
use Rattle.stx_tree.specs.Tree.{Tree, atom, leaf, pair, vector}

-- each symbol with this context
abbrev pub tree_of : LeafContext → PlainDatum → Tree
tree_of c (datum.atom s a) = atom s a
tree_of c (datum.symbol s x) = leaf s x c
tree_of c (datum.pair s d e) = pair s (tree_of c d) (tree_of c e)
tree_of c (datum.vector s d) = vector s (tree_of c d)

-- without marks and stamps
abbrev pub strip : Tree → PlainDatum
strip (atom s a) = datum.atom s a
strip (leaf s x c) = datum.symbol s x
strip (pair s a d) = datum.pair s (strip a) (strip d)
strip (vector s d) = datum.vector s (strip d)

-- the contexts of all leaves, from left to right
abbrev pub contexts : Tree → List LeafContext
contexts (atom s a) = []
contexts (leaf s x c) = c ∷ []
contexts (pair s a d) = contexts a ++ contexts d
contexts (vector s d) = contexts d

-- the context of a leaf, and none of what is no leaf
abbrev pub context_of : Tree → LeafContext
context_of (atom s a) = blank
context_of (leaf s x c) = c
context_of (pair s a d) = blank
context_of (vector s d) = blank

abbrev pub marks_of : Tree → List Mark
marks_of t = (context_of t).marks

abbrev pub stamps_of : Tree → List Stamp
stamps_of t = (context_of t).stamps

-- the datum without spans, and each symbol with the context of this leaf
abbrev pub datum_like : Tree → PlainDatum → Tree
datum_like t d = tree_of (context_of t) (datum.unspanned d)
