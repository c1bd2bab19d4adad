use Rattle.std.proofs.Common.{◌≡◌, ◌++◌, drop, map}
use Rattle.law_core.specs.Follows.{key_of}
use Rattle.expand_follows.proofs.keys.keys_of_rows.Given as goal

abbrev pub invariant-loop-row : goal.invariant-loop-row
invariant-loop-row l = l.keys.items ++ map key_of (drop l.row-index l.rows) ≡ map key_of l.rows
