use Rattle.std.proofs.Common.{◌≡◌, ◌++◌, drop}
use Rattle.load_files.specs.Found.{marks_with}
use Rattle.load_files.proofs.refer.with_needs.Given as goal

abbrev pub invariant-loop-place : goal.invariant-loop-place
invariant-loop-place l = l.more ++ marks_with l.place (drop l.place l.needs) l.found ≡ marks_with 0 l.needs l.found
