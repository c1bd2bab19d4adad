use Rattle.std.proofs.Common.{◌≡◌, drop}
use Rattle.run_xref.specs.Rows.{with_files, files_of}
use Rattle.run_xref.proofs.files.files_of.Given as goal

abbrev pub invariant-loop-link : goal.invariant-loop-link
invariant-loop-link l = with_files l.files (drop l.link-index l.links) ≡ files_of l.links
