use Rattle.std.proofs.Common.{◌≡◌, ◌++◌, [], drop, map, ℕ, List, length}
use Rattle.load_import.proofs.names.rows.Given as goal

abbrev pub invariant-loop-place : goal.invariant-loop-place
invariant-loop-place l = l.rows ++ drop l.place l.names ≡ l.names
