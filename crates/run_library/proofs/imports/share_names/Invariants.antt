use Rattle.std.proofs.Common.{◌≡◌, take}
use Rattle.run_library.proofs.imports.share_names.Given as goal

abbrev pub invariant-loop-name : goal.invariant-loop-name
invariant-loop-name l = l.shared ≡ take l.name-index l.names
