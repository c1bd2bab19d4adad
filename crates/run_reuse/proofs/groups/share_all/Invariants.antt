use Rattle.std.proofs.Common.{◌≡◌, take}
use Rattle.run_reuse.proofs.groups.share_all.Given as goal

abbrev pub invariant-loop-symbol : goal.invariant-loop-symbol
invariant-loop-symbol l = l.all ≡ take l.symbol-index l.symbols
