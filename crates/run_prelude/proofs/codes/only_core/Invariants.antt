use Rattle.std.proofs.Common.{◌≡◌, ◌++◌, drop, filter}
use Rattle.run_prelude.specs.Prelude.{is_core}
use Rattle.run_prelude.proofs.codes.only_core.Given as goal

abbrev pub invariant-loop-name : goal.invariant-loop-name
invariant-loop-name l = l.names ++ filter (λ e. is_core e) (drop l.name-index l.all) ≡ filter (λ e. is_core e) l.all
