-- The marks and stamps of a leaf, and how they change (Dybvig, Hieb and Bruggeman 1992).
use Rattle.std.specs.Prelude.{List, [], ◌∷◌, Option, None, Some, drop, if◌then◌else◌}
use Rattle.base_data.specs.declared.name.Mark.{Mark}
use Rattle.base_data.specs.declared.name.FrameNo.{FrameNo}
use Rattle.stx_tree.specs.Marks.{is_first}
use Rattle.stx_tree.specs.declared.stamp.Stamp.{Stamp}
use Rattle.stx_tree.specs.declared.change.Change.{Change}
use Rattle.stx_tree.specs.declared.change.Change.TheVariants as change

-- what tells a leaf from others with its symbol: its marks and its stamps, both with the newest first
pub record LeafContext : Type 0 where
  pub marks : List Mark
  pub stamps : List Stamp

abbrev pub blank : LeafContext
blank = record { marks = []; stamps = [] }

abbrev pub entered : Mark → LeafContext → LeafContext
entered m c = record { marks = m ∷ c.marks; stamps = c.stamps }

-- the frame comes with the marks of now
abbrev pub stamped : FrameNo → LeafContext → LeafContext
stamped f c = record { marks = c.marks; stamps = record { frame = f; marks = c.marks } ∷ c.stamps }

-- a stamp where a frame is given
abbrev pub framed : Option FrameNo → LeafContext → LeafContext
framed None c = c
framed (Some f) c = stamped f c

-- the newest mark goes
abbrev pub unmarked : LeafContext → LeafContext
unmarked c = record { marks = drop 1 c.marks; stamps = c.stamps }

-- where m is the newest mark it goes; else it comes, and then a stamp where a frame is given
abbrev pub left : Mark → Option FrameNo → LeafContext → LeafContext
left m f c = if is_first m c.marks then unmarked c else framed f (entered m c)

abbrev pub act : Change → LeafContext → LeafContext
act (change.Enter m) c = entered m c
act (change.Leave m f) c = left m f c
act (change.Stamp f) c = stamped f c

-- one change after another
abbrev pub acts : List Change → LeafContext → LeafContext
acts [] c = c
acts (x ∷ xs) c = acts xs (act x c)
