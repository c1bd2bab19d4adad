-- Marks that were taken before a name. Names are taken from a counter, each library's from its own.
use Rattle.std.specs.Prelude.{◌≡◌, ◌<◌}
use Rattle.base_data.specs.Elements.{Each}
use Rattle.base_data.specs.Named.{Named}
use Rattle.base_data.specs.declared.name.Mark.{Mark}
use Rattle.stx_tree.specs.Tree.{Tree}
use Rattle.stx_tree.specs.Leaves.{marks_of}

-- a mark of another library is none that this counter gives
abbrev pub IsBefore : Named → Mark → Type 0
IsBefore name m = m.0.library ≡ name.library → m.0.number < name.number

-- a leaf with no mark but older ones
abbrev pub IsOlder : Named → Tree → Type 0
IsOlder name t = Each (IsBefore name) (marks_of t)
