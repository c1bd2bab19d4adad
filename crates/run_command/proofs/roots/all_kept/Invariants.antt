use Rattle.std.proofs.Common.{◌≡◌, map, take}
use Rattle.run_command.proofs.roots.all_kept.Given as goal

abbrev pub invariant-loop-name : goal.invariant-loop-name
invariant-loop-name l = l.roots ≡ map (λ s. s.now) (take l.name-index l.names)
