-- What a leaf stands for.
use Rattle.std.specs.Prelude.{ℕ, Bool, false, List, [], Option, None, Some}
use Rattle.base_data.specs.Same.{same_name}
use Rattle.base_data.specs.declared.name.Label.{Label}
use Rattle.stx_tree.specs.Leaves.{marks_of, stamps_of}
use Rattle.stx_tree.specs.Tree.{Tree, atom, leaf, pair, vector}
use Rattle.stx_frames.specs.Rows.{Row}
use Rattle.stx_frames.specs.Scope.{Scope, label_by}

-- the symbol of a leaf; what is no leaf counts as the empty symbol, without marks and stamps
abbrev pub symbol_of : Tree → List ℕ
symbol_of (atom s a) = []
symbol_of (leaf s x c) = x
symbol_of (pair s a d) = []
symbol_of (vector s d) = []

-- the row that binds a leaf to a label
abbrev pub row_for : Tree → Label → Row
row_for t l = record { symbol = symbol_of t; marks = marks_of t; label = l }

-- the label that the first stamp gives for which its frame has the leaf's symbol and the marks at stamping
abbrev pub stands : Scope → Tree → Option Label
stands fs t = label_by fs (symbol_of t) (stamps_of t)

-- whether what a leaf stands for is this label
abbrev pub is_for : Label → Option Label → Bool
is_for l None = false
is_for l (Some m) = same_name m.0 l.0
