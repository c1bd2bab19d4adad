use Rattle.std.proofs.Common.{◌≡◌, ◌≤◌, [], reverse, Some}
use Rattle.base_outside.specs.Contents.{Paths}
use Rattle.load_files.specs.Stack.{meaning}
use Rattle.load_files.proofs.walk.walk.Given as goal

abbrev pub invariant-loop-turn : goal.invariant-loop-turn
invariant-loop-turn g l = record {
  same : g.F.Files.told l.files ≡ g.F.Files.told l.fn.files;
  given : (fs : Paths) → g.F.Files.told l.fn.files ≡ Some fs → meaning fs l.search.roots.now l.at (reverse l.stack.items) l.loading ≡ meaning fs l.search.roots.now l.fn.first [] l.fn.loading;
  later : g.F.Files.faults l.fn.files ≤ g.F.Files.faults l.files;
}
