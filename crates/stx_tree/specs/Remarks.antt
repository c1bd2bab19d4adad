-- What changes make of the marks of a leaf alone.
use Rattle.std.specs.Prelude.{List, [], ◌∷◌}
use Rattle.base_data.specs.declared.name.Mark.{Mark}
use Rattle.stx_tree.specs.Marks.{unless_first}
use Rattle.stx_tree.specs.declared.change.Change.{Change}
use Rattle.stx_tree.specs.declared.change.Change.TheVariants as change

abbrev pub remark : Change → List Mark → List Mark
remark (change.Enter m) ms = m ∷ ms
remark (change.Leave m f) ms = unless_first m ms
remark (change.Stamp f) ms = ms

-- one change after another
abbrev pub remarks : List Change → List Mark → List Mark
remarks [] ms = ms
remarks (x ∷ xs) ms = remarks xs (remark x ms)
