-- Where the mark of a use of a keyword is: among marks, in stamps, on leaves.
use Rattle.std.specs.Prelude.{◌≢◌, Bool, true, false, List, [], ◌∷◌, ◌++◌, IsTrue, IsFalse, if◌then◌else◌}
use Rattle.base_data.specs.Elements.{Each}
use Rattle.base_data.specs.declared.name.Mark.{Mark}
use Rattle.stx_tree.specs.Context.{LeafContext, unmarked}
use Rattle.stx_tree.specs.Leaves.{contexts}
use Rattle.stx_tree.specs.Marks.{same_mark, is_first}
use Rattle.stx_tree.specs.Tree.{Tree, atom, leaf, pair, vector}
use Rattle.stx_tree.specs.declared.change.Change.{Change}
use Rattle.stx_tree.specs.declared.change.Change.TheVariants as change
use Rattle.stx_tree.specs.declared.stamp.Stamp.{Stamp}

-- whether a mark is among these
abbrev pub has_mark : Mark → List Mark → Bool
has_mark m [] = false
has_mark m (n ∷ ns) = if same_mark n m then true else has_mark m ns

-- at none of these stamps had the leaf the mark
abbrev pub StampedWithout : Mark → List Stamp → Type 0
StampedWithout m [] = Unit {0}
StampedWithout m (t ∷ ts) = IsFalse (has_mark m t.marks) × StampedWithout m ts

-- A leaf that the use of m has not touched: it doesn't have the mark, and had it at none of its stamps.
pub record Lacks (m : Mark) (c : LeafContext) : Type 0 where
  pub marks : IsFalse (has_mark m c.marks)
  pub stamps : StampedWithout m c.stamps

-- A leaf of a transformer's output came in with the input, which was entered with m, where m is its newest mark.
abbrev pub CameIn : Mark → LeafContext → Type 0
CameIn m c = IsTrue (is_first m c.marks)

-- Else the transformer introduced it.
abbrev pub IsIntroduced : Mark → LeafContext → Type 0
IsIntroduced m c = IsFalse (is_first m c.marks)

-- what a leaf of an output was before the use
abbrev pub before : Mark → LeafContext → LeafContext
before m c = if is_first m c.marks then unmarked c else c

-- all leaves, from left to right
abbrev pub leaves : Tree → List Tree
leaves (atom s a) = []
leaves (leaf s x c) = leaf s x c ∷ []
leaves (pair s a d) = leaves a ++ leaves d
leaves (vector s d) = leaves d

-- no leaf of a tree has to do with the use of m
abbrev pub Untouched : Mark → Tree → Type 0
Untouched m t = Each (Lacks m) (contexts t)

-- An output of the transformer: but for the entering of those that came in, no leaf has to do with the use.
abbrev pub IsOutput : Mark → Tree → Type 0
IsOutput m o = Each (λ c. Lacks m (before m c)) (contexts o)

-- the change neither enters nor leaves with m
abbrev pub SparesIn : Mark → Change → Type 0
SparesIn m (change.Enter n) = n ≢ m
SparesIn m (change.Leave n f) = n ≢ m
SparesIn m (change.Stamp f) = Unit {0}

-- changes that neither enter nor leave with m, as all are but those of its use
abbrev pub Spares : Mark → List Change → Type 0
Spares m [] = Unit {0}
Spares m (x ∷ xs) = SparesIn m x × Spares m xs
