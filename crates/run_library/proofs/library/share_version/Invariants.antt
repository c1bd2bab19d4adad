use Rattle.std.proofs.Common.{◌≡◌, take}
use Rattle.run_library.proofs.library.share_version.Given as goal

abbrev pub invariant-loop-number : goal.invariant-loop-number
invariant-loop-number l = l.all ≡ take l.number-index l.version
