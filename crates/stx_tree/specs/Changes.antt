-- Changes act on every leaf of a tree at once, and on nothing else.
use Rattle.std.specs.Prelude.{List, [], ◌∷◌, Option}
use Rattle.base_data.specs.declared.name.Mark.{Mark}
use Rattle.base_data.specs.declared.name.FrameNo.{FrameNo}
use Rattle.stx_tree.specs.Context.{acts}
use Rattle.stx_tree.specs.Tree.{Tree, atom, leaf, pair, vector}
use Rattle.stx_tree.specs.declared.change.Change.{Change}
use Rattle.stx_tree.specs.declared.change.Change.TheVariants as change

abbrev pub changed : List Change → Tree → Tree
changed xs (atom s a) = atom s a
changed xs (leaf s x c) = leaf s x (acts xs c)
changed xs (pair s a d) = pair s (changed xs a) (changed xs d)
changed xs (vector s d) = vector s (changed xs d)

abbrev pub enter : Mark → Tree → Tree
enter m t = changed (change.Enter m ∷ []) t

abbrev pub leave : Mark → Option FrameNo → Tree → Tree
leave m f t = changed (change.Leave m f ∷ []) t

abbrev pub stamp : FrameNo → Tree → Tree
stamp f t = changed (change.Stamp f ∷ []) t
