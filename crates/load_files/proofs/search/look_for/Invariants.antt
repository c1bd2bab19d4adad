use Rattle.std.proofs.Common.{◌≡◌, ◌≤◌, Some, drop}
use Rattle.base_outside.specs.Contents.{Paths}
use Rattle.load_files.specs.Load.{look_for}
use Rattle.load_files.proofs.search.look_for.Given as goal

abbrev pub invariant-loop-root : goal.invariant-loop-root
invariant-loop-root g l = record {
  same : g.F.Files.told l.files ≡ g.F.Files.told l.fn.files;
  found : (fs : Paths) → g.F.Files.told l.fn.files ≡ Some fs → look_for fs l.max l.file l.sources (drop l.root-index l.search.roots.now) ≡ look_for fs l.max l.file l.fn.sources l.search.roots.now;
  later : g.F.Files.faults l.fn.files ≤ g.F.Files.faults l.files;
}
