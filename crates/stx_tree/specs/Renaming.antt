-- Marks under other names.
use Rattle.std.specs.Prelude.{◌≡◌, map}
use Rattle.base_data.specs.declared.name.Mark.{Mark}
use Rattle.stx_tree.specs.declared.stamp.Stamp.{Stamp}
use Rattle.stx_tree.specs.declared.change.Change.{Change}
use Rattle.stx_tree.specs.declared.change.Change.TheVariants as change
use Rattle.stx_tree.specs.Context.{LeafContext}
use Rattle.stx_tree.specs.Tree.{Tree, atom, leaf, pair, vector}

-- no two marks get one name
abbrev pub IsOneToOne : (Mark → Mark) → Type 0
IsOneToOne r = (m n : Mark) → r m ≡ r n → m ≡ n

abbrev pub renamed_change : (Mark → Mark) → Change → Change
renamed_change r (change.Enter m) = change.Enter (r m)
renamed_change r (change.Leave m f) = change.Leave (r m) f
renamed_change r (change.Stamp f) = change.Stamp f

abbrev pub renamed_stamp : (Mark → Mark) → Stamp → Stamp
renamed_stamp r s = record { frame = s.frame; marks = map r s.marks }

abbrev pub renamed_context : (Mark → Mark) → LeafContext → LeafContext
renamed_context r c = record { marks = map r c.marks; stamps = map (renamed_stamp r) c.stamps }

abbrev pub renamed : (Mark → Mark) → Tree → Tree
renamed r (atom s a) = atom s a
renamed r (leaf s x c) = leaf s x (renamed_context r c)
renamed r (pair s a d) = pair s (renamed r a) (renamed r d)
renamed r (vector s d) = vector s (renamed r d)
