-- How the logic tells two stamps apart.
use Rattle.std.specs.Coded.{Coded}
use Rattle.stx_tree.specs.declared.stamp.Stamp.{Stamp}
use Rattle.stx_tree.specs.contracts.stamp.Stamp as stamps

abbrev pub stamp_code : Coded Stamp
stamp_code = stamps.the_row.coded
